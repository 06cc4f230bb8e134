use Rattle.std.proofs.Common.{ℕ, ◌∙◌, leb, length, rules}
use Rattle.power.specs.Board.{on_of, most_of}
use Rattle.power.specs.Tables.{at}
use Rattle.power.proofs.Fitted.{needs_fit_each}
use Rattle.power.proofs.Ranges.{all_range}
use Rattle.power.proofs.datasheet.PartSheet.needs_fit.Goals as goal

pub returns : goal.returns
returns g c =
    let b = g.P.Parts.board c.args.self.now.board.now in
    let ns = b.needs c.args.self.now.part.n in
    all_range (length ns) (λ (k : ℕ). leb (at c.args.ls.now (on_of k ns)) (most_of k ns)) _ _ _ c.all.result c.all.ensures.ran (search rules) (λ x r q k. search rules) ∙
    needs_fit_each b (at c.args.ls.now) c.args.self.now.part.n
