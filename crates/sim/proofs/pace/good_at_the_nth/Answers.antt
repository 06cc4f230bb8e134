use Rattle.sim.proofs.Paced.{good_at_the_nth}
use Rattle.sim.proofs.pace.good_at_the_nth.Goals as goal

pub returns : goal.returns
returns c = good_at_the_nth
