use Rattle.std.proofs.Common.{◌-◌}
use Rattle.power.specs.Kept.{Kept}
use Rattle.power.proofs.days.Given as goal

abbrev pub invariant-loop-n : goal.invariant-loop-n
invariant-loop-n g l = Kept l.k (g.W.Parts.board l.w)

abbrev pub decreases-loop-n : goal.decreases-loop-n
decreases-loop-n g l = l.many - l.n
