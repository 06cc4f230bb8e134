use Rattle.std.proofs.Common.{◌≡◌, ℕ, ◌<◌, length, get_or}
use Rattle.sim.specs.Boards.{part_at, no_part}
use Rattle.sim.proofs.state.Sim.try_anew.Given as goal

-- the same parts, those so far tried anew
abbrev pub invariant-loop-part : goal.invariant-loop-part
invariant-loop-part l =
    (length l.part-items ≡ 64)
    × ((z : ℕ) → (get_or l.part-items z no_part).state ≡ (part_at l.fn.self z).state)
    × ((z : ℕ) → z < l.part-index → (get_or l.part-items z no_part).tried ≡ 0)
    × ((z : ℕ) → (get_or l.part-items z no_part).pace ≡ (part_at l.fn.self z).pace)
    × ((z : ℕ) → (get_or l.part-items z no_part).next_pace ≡ (part_at l.fn.self z).next_pace)
