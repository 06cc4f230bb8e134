use Rattle.power.specs.Board.{every, total, all, asked_of, from_above, and_below, levels, rising, apart, why, called, is_none}
use Rattle.power.proofs.theorems.examples_hold.Goals as goal

pub returns : goal.returns
unfolding every total all asked_of from_above and_below levels rising apart why called is_none
returns c = (tt, tt, tt)
