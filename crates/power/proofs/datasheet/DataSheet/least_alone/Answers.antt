use Rattle.std.proofs.Common.{ℕ}
use Rattle.power.specs.Board.{and_also}
use Rattle.power.specs.Tables.{at}
use Rattle.power.proofs.Fitted.{finds_same, alone_at}
use Rattle.power.proofs.datasheet.DataSheet.least_alone.Goals as goal

pub returns : goal.returns
returns g c =
    finds_same (g.P.Parts.board c.args.self.now.board.now) (and_also (at c.new.result) c.args.request.part.n c.args.request.level.n) (and_also (λ (z : ℕ). 0) c.args.request.part.n c.args.request.level.n) c.least_with.result
    (alone_at c.new.result.of c.args.request.part.n c.args.request.level.n c.new.ensures) c.least_with.ensures
