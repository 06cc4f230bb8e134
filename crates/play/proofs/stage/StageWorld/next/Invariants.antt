use Rattle.std.proofs.Common.{◌≡◌}
use Rattle.sim.specs.Boards.{board_of}
use Rattle.play.proofs.stage.StageWorld.next.Given as goal

abbrev pub invariant-loop : goal.invariant-loop
invariant-loop g l = board_of l.self.sim ≡ board_of l.initial.self.sim
