use Rattle.std.proofs.Common.{◌≡◌}
use Rattle.power.specs.Tables.{at}
use Rattle.power.specs.Walk.{Down}
use Rattle.power.specs.Moves.{CameDown}
use Rattle.power.proofs.drive.Drive.come_down.Given as goal

abbrev pub invariant-loop-x : goal.invariant-loop-x
invariant-loop-x g l =
    record {
      came : CameDown (at l.ceiling) l.initial.self.driver.now.left (g.P.Parts.board l.initial.self.board.now) l.self.driver.now.left (g.P.Parts.board l.self.board.now);
      down : Down (g.P.Parts.board l.self.board.now) (at l.ceiling) l.x;
      same_board : l.self.board.ghost_name ≡ l.initial.self.board.ghost_name;
      same_driver : l.self.driver.ghost_name ≡ l.initial.self.driver.ghost_name;
    }
