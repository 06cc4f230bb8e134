use Rattle.std.proofs.Common.{◌≡◌, ℕ, List, [], ◌∷◌, length, cond, Some, None}
use Rattle.script.specs.Steps.{if_spread_fits, numbers_until}
use Rattle.script.specs.Text.{to_come}
use Rattle.script.proofs.spread.Spread.read.Given as goal

-- what was read so far, and what is left, are worth what there was
abbrev pub invariant-loop-word : goal.invariant-loop-word
invariant-loop-word g l = (ns : List ℕ) × (numbers_until l.until (l.first ∷ []) (to_come l.initial.words) ≡ numbers_until l.until ns (to_come l.words)) × (cond l.fits (Some l.spread) None ≡ if_spread_fits g.row.TOP ns)

abbrev pub decreases-loop-word : goal.decreases-loop-word
decreases-loop-word g l = length (to_come l.words)
