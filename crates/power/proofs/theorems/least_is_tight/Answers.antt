use Rattle.power.proofs.Joined.{least_is_tight, tight_is_least}
use Rattle.power.proofs.theorems.least_is_tight.Goals as goal

pub returns : goal.returns
returns c = (least_is_tight, tight_is_least)
