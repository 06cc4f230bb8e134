use Rattle.std.proofs.Common.{◌≡◌, List, ◌++◌, length, Some}
use Rattle.script.specs.Lines.{Written, after, needs}
use Rattle.script.specs.Steps.{Gathered}
use Rattle.script.specs.Text.{to_come}
use Rattle.script.proofs.needs.all_needs.Given as goal

-- what was read so far, and what is left, are what there was
abbrev pub invariant-loop-one : goal.invariant-loop-one
invariant-loop-one l = (ws : List Written) × Gathered l.part ws × (needs (to_come l.initial.words) ≡ after (needs (to_come l.words)) (λ ns. Some (ws ++ ns)))

abbrev pub decreases-loop-one : goal.decreases-loop-one
decreases-loop-one l = length (to_come l.words)
