use Rattle.power.specs.Tables.{at}
use Rattle.power.proofs.Sweeping.{Sweeping}
use Rattle.power.proofs.datasheet.DataSheet.sweep.Given as goal

abbrev pub invariant-loop-n : goal.invariant-loop-n
invariant-loop-n g l = Sweeping (g.P.Parts.board l.self.board.now) (at l.want) (at l.ls) l.n
