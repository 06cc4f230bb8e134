-- One more stands at the end.
use Rattle.std.proofs.Common.{◌<◌, length, refl, arith}
use Rattle.sim.specs.Plans.{needs_of, draw_of}
use Rattle.sim.proofs.Listed.{set_listed}
use Rattle.sim.proofs.plan.Plan.add.Goals as goal

pub returns : goal.returns
returns c =
    let ps = c.args.self.now.part in
    let n = c.args.self.now.parts in
    let h : n < length ps = omega arith in
    (refl, set_listed needs_of ps n c.args.part h, set_listed draw_of ps n c.args.part h, refl)
