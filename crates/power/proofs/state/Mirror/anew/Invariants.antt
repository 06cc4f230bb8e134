use Rattle.std.proofs.Common.{◌≡◌, ℕ, ◌<◌, length, get_or}
use Rattle.power.specs.Mirrors.{part_of, TriedIs, state_at}
use Rattle.power.specs.declared.state.PartState.TheVariants.{Off}
use Rattle.power.proofs.state.Mirror.anew.Given as goal

-- the same parts, those so far tried anew
abbrev pub invariant-loop-s : goal.invariant-loop-s
invariant-loop-s l =
    (length l.s-items ≡ 64) ×
    ((z : ℕ) → part_of (get_or l.s-items z Off) ≡ part_of (state_at l.fn.self z)) ×
    ((z : ℕ) → z < l.s-index → TriedIs (get_or l.s-items z Off) 0)
