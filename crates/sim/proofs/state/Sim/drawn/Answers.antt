-- What each part draws, together.
use Rattle.std.proofs.Common.{ℕ, rules, arith}
use Rattle.power.specs.Board.{draw_at, level_of}
use Rattle.power.proofs.Ranges.{sum_range, sum_range_fits}
use Rattle.sim.specs.Boards.{board_of}
use Rattle.sim.proofs.state.Sim.drawn.Goals as goal

pub sum-requires-clause-fits : goal.sum-requires-clause-fits
sum-requires-clause-fits c =
    let p = c.args.self.now.plan in
    sum_range_fits p.parts c.map.result _ (search rules) c.map.ensures.closure _ p.few (omega arith) (λ x r q k. search rules)

pub returns : goal.returns
returns c =
    let b = board_of c.args.self.now in
    sum_range b.parts c.map.result _ (search rules) c.map.ensures.closure (λ (x : ℕ). draw_at b x (level_of (b.part x))) c.sum.result c.sum.ensures.ran (λ x r q k. search rules)
