use Rattle.std.proofs.Common.{rules}
use Rattle.power.specs.Board.{older, young}
use Rattle.sim.proofs.wishes.a_tick_older.Goals as goal

pub overflow_add-result : goal.overflow_add-result
unfolding older young
overflow_add-result c = search rules

pub returns-in-Asked : goal.returns-in-Asked
unfolding older young
returns-in-Asked c = search rules

pub returns-in_default : goal.returns-in_default
unfolding older young
returns-in_default c = search rules
