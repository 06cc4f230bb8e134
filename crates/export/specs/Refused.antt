-- The numbers by which C is refused.
-- Assumes nothing.
use Rattle.std.specs.Prelude.{ℕ}
use Rattle.export.specs.declared.plan.Refused.{Refused}
use Rattle.export.specs.declared.plan.Refused.TheVariants.{NoPlan, CantBe}

abbrev pub code_of : Refused → ℕ
code_of NoPlan = 1
code_of CantBe = 5
