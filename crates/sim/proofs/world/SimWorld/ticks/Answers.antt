-- Nobody has waited too long.
use Rattle.std.proofs.Common.{sym}
use Rattle.power.proofs.Tests.{and_l, every_at, is_true}
use Rattle.power.specs.Board.{young}
use Rattle.sim.specs.Boards.{board_of}
use Rattle.sim.proofs.world.SimWorld.ticks.Goals as goal

pub let_tick_pass-waiting-requires : goal.let_tick_pass-waiting-requires
let_tick_pass-waiting-requires c k h = sym (is_true _ (every_at 32 (λ u. young ((board_of c.args.self.now).wish u)) (and_l _ _ c.requires) k h))
