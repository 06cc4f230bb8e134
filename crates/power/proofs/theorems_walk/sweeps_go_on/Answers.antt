use Rattle.power.proofs.Sweeps.{down_steps, up_steps}
use Rattle.power.proofs.theorems_walk.sweeps_go_on.Goals as goal

pub returns : goal.returns
returns c = (down_steps, up_steps)
