-- The rota: those who wait are served in turn, round and round from the user whose turn it is.
-- Assumes nothing.
use Rattle.std.specs.Prelude.{ℕ, ◌+◌, ◌-◌, ◌<◌, ◌≤◌, cond, ◌==◌, nat_lt}
use Rattle.power.specs.Mirrors.{wanted_by, Waits}
use Rattle.power.specs.declared.state.Wishes.{Wishes}

-- the user after u
abbrev pub next_of : ℕ → ℕ
next_of u = cond (nat_lt u 31) (u + 1) 0

-- whose turn it is once u is done with: the turn moves on if it was u's
abbrev pub moved_on : ℕ → ℕ → ℕ
moved_on u t = cond (t == u) (next_of t) t

-- how far u is after t, on the way round
abbrev pub dist : ℕ → ℕ → ℕ
dist t u = cond (nat_lt u t) ((u + 32) - t) (u - t)

-- none of the users from one on, before another, waits
abbrev pub NobodyWaits : Wishes → ℕ → ℕ → Type 0
NobodyWaits ws from to = (u : ℕ) → from ≤ u → u < to → Waits (wanted_by ws u) → ⊥

-- w waits, and is the first of these
abbrev pub FirstWaits : Wishes → ℕ → ℕ → ℕ → Type 0
FirstWaits ws from to w = Waits (wanted_by ws w) × (from ≤ w) × (w < to) × NobodyWaits ws from w

-- w waits, and nobody who waits is nearer to the turn t
abbrev pub IsHead : Wishes → ℕ → ℕ → Type 0
IsHead ws t w = Waits (wanted_by ws w) × ((u : ℕ) → u < 32 → Waits (wanted_by ws u) → dist t w ≤ dist t u)
