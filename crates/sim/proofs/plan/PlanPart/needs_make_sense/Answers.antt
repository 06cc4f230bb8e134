-- There are never more than four needs.
use Rattle.std.proofs.Common.{◌≡◌, true, leb, length, arith, le-leb, rules}
use Rattle.power.specs.Board.{good_need}
use Rattle.sim.specs.Plans.{needs_of}
use Rattle.sim.proofs.Listed.{length_needs}
use Rattle.std.proofs.Math.Bool.{and-true}
use Rattle.sim.proofs.Sensible.{all_listed}
use Rattle.sim.proofs.plan.PlanPart.needs_make_sense.Goals as goal

pub returns-then-needs_make_sense : goal.returns-then-needs_make_sense
returns-then-needs_make_sense c =
    let p = c.args.self.now in
    let l : leb (length (needs_of p)) 4 ≡ true = le-leb (length (needs_of p)) 4 (omega (arith, length_needs p)) in
    let a = all_listed (good_need c.args.x) c.needs-needs.result.now in
    search (rules, l, and-true, a)

pub returns-else-needs_make_sense : goal.returns-else-needs_make_sense
returns-else-needs_make_sense c =
    let a = all_listed (good_need c.args.x) c.needs-needs.result.now in
    search (rules, a)
