-- The need in the part's own list.
use Rattle.std.proofs.Common.{sym, subst}
use Rattle.sim.specs.declared.plan.PlanNeed.{PlanNeed}
use Rattle.sim.specs.Plans.{need_of, needs_at, Tells}
use Rattle.sim.proofs.Listed.{tells_need}
use Rattle.sim.proofs.plan.Plan.need.Goals as goal

pub returns : goal.returns
returns c =
    let ps = c.args.self.now.part in
    let n = c.index-needs-i.result in
    subst (λ (m : PlanNeed). Tells (need_of m) c.args.k (needs_at ps c.args.x)) (sym c.index-needs-i.is)
    (tells_need ps c.args.x c.args.k c.index-self-x.result c.needs.result.now n c.requires c.needs.ensures)
