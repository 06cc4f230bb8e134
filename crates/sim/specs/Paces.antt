-- When a rising part of a board in memory is found good: when it's asked the nth time from now, or never.
use Rattle.std.specs.Prelude.{◌≡◌, ℕ, zero, suc, ◌+◌, ◌-◌, Bool, false, Some, None, Option, nat_le}
use Rattle.sim.specs.declared.state.Sim.{Sim}
use Rattle.sim.specs.Boards.{part_at}

-- the pace of part x since it was raised last, and from its next raising on
abbrev pub pace_of : Sim → ℕ → Option ℕ
pace_of s x = (part_at s x).pace

abbrev pub next_pace_of : Sim → ℕ → Option ℕ
next_pace_of s x = (part_at s x).next_pace

-- is it good when it's asked now, and its pace if it was asked and isn't
abbrev pub ready : Option ℕ → Bool
ready None = false
ready (Some n) = nat_le n 1

abbrev pub waited : Option ℕ → Option ℕ
waited None = None
waited (Some n) = Some (n - 1)

-- its pace when it was asked so many times and wasn't good
unfoldable pub asked : ℕ → Option ℕ → Option ℕ
asked zero p = p
asked (suc k) p = asked k (waited p)

-- A part at pace n is good when it's asked the nth time, and not before; one that never is, is not.
abbrev pub GoodAtTheNth : Type 0
GoodAtTheNth = (n k : ℕ) → (ready (asked k (Some n)) ≡ nat_le n (k + 1)) × (ready (asked k None) ≡ false)

-- the paces of two boards are the same
pub record SamePaces (s t : Sim) : Type 0 where
  pub now : (x : ℕ) → pace_of t x ≡ pace_of s x
  pub next : (x : ℕ) → next_pace_of t x ≡ next_pace_of s x
