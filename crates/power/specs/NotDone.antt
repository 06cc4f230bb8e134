-- The numbers by which users are told no, and the texts.
-- Assumes nothing.
use Rattle.std.specs.Prelude.{ℕ, List, codes}
use Rattle.power.specs.declared.not_done.NotDone.{NotDone}
use Rattle.power.specs.declared.not_done.NotDone.TheVariants.{CantBe, NotGood}

abbrev pub told_number : NotDone → ℕ
told_number CantBe = 5
told_number NotGood = 6

abbrev pub told_text : NotDone → List ℕ
told_text CantBe = codes "it can't be, with what others were granted"
told_text NotGood = codes "a part that's needed doesn't get good"
