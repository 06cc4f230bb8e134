-- One more stands at the end.
use Rattle.std.proofs.Common.{◌<◌, [], ◌∷◌, map, length, take, refl, ap, ◌∙◌, arith}
use Rattle.std.proofs.lemmas.List.{take_more_set, map-append}
use Rattle.sim.specs.Plans.{need_of}
use Rattle.sim.proofs.plan.PlanPart.add.Goals as goal

pub returns : goal.returns
returns c =
    let ns = c.args.self.now.needs in
    let n = c.args.self.now.count in
    let h : n < length ns = omega arith in
    (ap (map need_of) (take_more_set ns n c.args.need h) ∙ map-append need_of (take n ns) (c.args.need ∷ []), refl)
