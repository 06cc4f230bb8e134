use Rattle.std.proofs.Common.{ℕ, rules, arith}
use Rattle.power.specs.Board.{draw_at}
use Rattle.power.specs.Tables.{at}
use Rattle.power.proofs.Ranges.{sum_range, sum_range_fits}
use Rattle.power.proofs.datasheet.DataSheet.draws.Goals as goal

pub sum-requires-clause-fits : goal.sum-requires-clause-fits
sum-requires-clause-fits g c =
    let n = (g.P.Parts.board c.args.self.now.board.now).parts in
    sum_range_fits n c.map.result _ (search rules) c.map.ensures.closure _ c.args.self.now.few (omega arith) (λ x r q k. search rules)

pub returns : goal.returns
returns g c =
    let b = g.P.Parts.board c.args.self.now.board.now in
    let f = at c.args.ls.now.of in
    sum_range b.parts c.map.result _ (search rules) c.map.ensures.closure (λ (x : ℕ). draw_at b x (f x)) c.sum.result c.sum.ensures.ran (λ x r q k. search rules)
