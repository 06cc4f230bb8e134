use Rattle.std.proofs.Common.{arith}
use Rattle.power.proofs.Plans.{plan_at}
use Rattle.power.proofs.datasheet.PartSheet.need_on.Goals as goal

pub invariant_of-result : goal.invariant_of-result
invariant_of-result g c =
    let s = c.args.self.now in
    let n = plan_at (g.P.Parts.board s.board.now) s.plan s.part.n s.there c.args.k c.requires.need in
    record { below = omega (arith, c.need_on-n.ensures, n.below) }
