use Rattle.power.proofs.NextStep.{down_goes_on, up_goes_on}
use Rattle.power.proofs.theorems_walk.next_step_is_allowed.Goals as goal

pub returns : goal.returns
returns c = (down_goes_on, up_goes_on)
