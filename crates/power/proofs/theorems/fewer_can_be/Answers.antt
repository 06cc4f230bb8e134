use Rattle.power.proofs.Lowest.{can_less}
use Rattle.power.proofs.theorems.fewer_can_be.Goals as goal

pub returns : goal.returns
returns c = can_less
