-- What was found of the part, of the part that the plan lists.
use Rattle.std.proofs.Common.{◌≡◌, ◌<◌, length, sym, subst₂, arith}
use Rattle.sim.specs.Plans.{sense}
use Rattle.sim.proofs.Listed.{needs_at_lem, draws_at_lem}
use Rattle.sim.proofs.plan.Plan.part_makes_sense.Goals as goal

pub returns : goal.returns
returns c =
    let ps = c.args.self.now.part in
    let x = c.args.x in
    let h : x < length ps = omega arith in
    subst₂ (λ ns ds. c.makes_sense.result ≡ sense x ns ds) (sym (needs_at_lem ps x _ h)) (sym (draws_at_lem ps x _ h)) c.makes_sense.ensures
