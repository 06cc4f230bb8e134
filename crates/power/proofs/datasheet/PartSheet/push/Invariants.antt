use Rattle.power.specs.Tables.{at}
use Rattle.power.specs.Found.{Pushed}
use Rattle.power.proofs.datasheet.PartSheet.push.Given as goal

abbrev pub invariant-loop-k : goal.invariant-loop-k
invariant-loop-k g l = Pushed ((g.P.Parts.board l.self.board.now).needs l.self.part.n) l.l l.k (at l.initial.ls) (at l.ls)
