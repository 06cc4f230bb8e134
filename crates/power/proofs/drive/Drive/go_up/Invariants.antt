use Rattle.std.proofs.Common.{◌≡◌}
use Rattle.power.specs.Tables.{at}
use Rattle.power.specs.Walk.{Up}
use Rattle.power.specs.Moves.{CameNearer}
use Rattle.power.proofs.drive.Drive.go_up.Given as goal

abbrev pub invariant-loop-x : goal.invariant-loop-x
invariant-loop-x g l =
    record {
      came : CameNearer (at l.aims.goal) l.initial.self.driver.now.left (g.P.Parts.board l.initial.self.board.now) l.self.driver.now.left (g.P.Parts.board l.self.board.now);
      up : Up (g.P.Parts.board l.self.board.now) (at l.aims.ceiling) (at l.aims.goal) l.x;
      same_board : l.self.board.ghost_name ≡ l.initial.self.board.ghost_name;
      same_driver : l.self.driver.ghost_name ≡ l.initial.self.driver.ghost_name;
    }
