-- Each part is tested, by its number.
use Rattle.std.proofs.Common.{ℕ, rules}
use Rattle.power.proofs.Ranges.{all_range}
use Rattle.sim.specs.Plans.{needs_at, draws_at, sense}
use Rattle.sim.proofs.plan.Plan.makes_sense.Goals as goal

pub returns : goal.returns
returns c =
    let p = c.args.self.now in
    all_range p.parts (λ (x : ℕ). sense x (needs_at p.part x) (draws_at p.part x)) _ _ _ c.all.result c.all.ensures.ran (search rules) (λ y r q k. search rules)
