use Rattle.std.proofs.Common.{ℕ, ◌∙◌, ◌||◌, eqb, rules}
use Rattle.power.specs.Found.{needs_fit}
use Rattle.power.specs.Tables.{at}
use Rattle.power.proofs.Fitted.{parts_fit_each}
use Rattle.power.proofs.Ranges.{all_range}
use Rattle.power.proofs.datasheet.DataSheet.all_fit.Goals as goal

pub returns : goal.returns
returns g c =
    let b = g.P.Parts.board c.args.self.now.board.now in
    let f = at c.args.ls.now.of in
    all_range b.parts (λ (x : ℕ). eqb (f x) 0 || needs_fit b f x) _ _ _ c.all.result c.all.ensures.ran (search rules) (λ x r q k. search rules) ∙ parts_fit_each b f c.args.ls.now.low
