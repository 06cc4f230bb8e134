use Rattle.power.proofs.Joined.{least_joins}
use Rattle.power.proofs.theorems.least_joins.Goals as goal

pub returns : goal.returns
returns c = least_joins
