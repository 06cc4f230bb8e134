use Rattle.std.proofs.Common.{◌≡◌, ◌+◌}
use Rattle.power.specs.Tables.{at}
use Rattle.power.specs.Walk.{Down}
use Rattle.power.specs.Moves.{CameDown}
use Rattle.power.proofs.drive.Drive.lower_to.Given as goal

abbrev pub invariant-loop-self : goal.invariant-loop-self
invariant-loop-self g l =
    record {
      came : CameDown (at l.ceiling) l.initial.self.driver.now.left (g.P.Parts.board l.initial.self.board.now) l.self.driver.now.left (g.P.Parts.board l.self.board.now);
      down : Down (g.P.Parts.board l.self.board.now) (at l.ceiling) (l.x.n + 1);
      same_board : l.self.board.ghost_name ≡ l.initial.self.board.ghost_name;
      same_driver : l.self.driver.ghost_name ≡ l.initial.self.driver.ghost_name;
    }

abbrev pub decreases-loop-self : goal.decreases-loop-self
decreases-loop-self g l = l.self.driver.now.left
