use Rattle.std.proofs.Common.{◌≡◌}
use Rattle.power.specs.Tables.{at}
use Rattle.power.specs.Walk.{Up}
use Rattle.power.specs.Moves.{CameNearer}
use Rattle.power.proofs.drive.Drive.raise_to.Given as goal

abbrev pub invariant-loop-self : goal.invariant-loop-self
invariant-loop-self g l =
    record {
      came : CameNearer (at l.aims.goal) l.initial.self.driver.now.left (g.P.Parts.board l.initial.self.board.now) l.self.driver.now.left (g.P.Parts.board l.self.board.now);
      up : Up (g.P.Parts.board l.self.board.now) (at l.aims.ceiling) (at l.aims.goal) l.x.n;
      same_board : l.self.board.ghost_name ≡ l.initial.self.board.ghost_name;
      same_driver : l.self.driver.ghost_name ≡ l.initial.self.driver.ghost_name;
    }

abbrev pub decreases-loop-self : goal.decreases-loop-self
decreases-loop-self g l = l.self.driver.now.left
