use Rattle.power.proofs.Costs.{cost_is_bounded, each_asking_pays}
use Rattle.power.proofs.theorems_walk.each_asking_pays.Goals as goal

pub returns : goal.returns
returns c = (cost_is_bounded, each_asking_pays)
