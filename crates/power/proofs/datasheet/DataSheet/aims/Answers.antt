use Rattle.std.proofs.Common.{ℕ}
use Rattle.std.proofs.lemmas.Result.{err_from_is_err_and}
use Rattle.power.specs.Board.{and_also}
use Rattle.power.specs.Tables.{at}
use Rattle.power.proofs.Larger.{and_also_alone}
use Rattle.power.proofs.Lowest.{cannot_more}
use Rattle.power.proofs.datasheet.DataSheet.aims.Goals as goal

pub returns-in_err-goal : goal.returns-in_err-goal
returns-in_err-goal g c =
    let x = c.args.request.part.n in
    let l = c.args.request.level.n in
    let p = err_from_is_err_and c.from_residual.result c.from_residual.ensures.1 in
    rw p.1
    (cannot_more (g.P.Parts.board c.args.self.now.board.now) (and_also (λ (z : ℕ). 0) x l) (and_also (at c.args.granted) x l) c.args.self.now.plan (λ z h. and_also_alone (at c.args.granted) x l z) c.in_err-goal.ensures)
