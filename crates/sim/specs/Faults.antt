-- Why a plan is refused, in words.
use Rattle.std.specs.Prelude.{ℕ, List, codes}
use Rattle.sim.specs.declared.plan.PlanFault.{PlanFault}
use Rattle.sim.specs.declared.plan.PlanFault.TheVariants.{TooManyParts, TooManyNeeds, Senseless}

abbrev pub text_of : PlanFault → List ℕ
text_of TooManyParts = codes "the plan has more than 64 parts"
text_of TooManyNeeds = codes "a part has more than four needs"
text_of Senseless = codes "the plan makes no sense"
