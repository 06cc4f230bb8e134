-- What a walk over the board leaves: what is unchanged, what it paid, and how it ended.
-- n and n' are the askings that were left before and after.
-- Assumes nothing.
use Rattle.std.specs.Prelude.{◌≡◌, ℕ, ◌+◌, ◌<◌, ◌≤◌, Ok, Err, Result}
use Rattle.power.specs.Board.{Board, Rising}
use Rattle.power.specs.Aim.{Fits, Covers, Serves}
use Rattle.power.specs.Walk.{Under, Reached}
use Rattle.power.specs.Cost.{costs, height}
use Rattle.power.specs.declared.state.Spent as spent
use Rattle.power.specs.declared.state.Halt.{Halt}
use Rattle.power.specs.declared.state.Halt.TheVariants.{Spent, Stuck}

-- only the parts have changed, and what is left
pub record OnlyParts (b b' : Board) : Type 0 where
  pub parts : b'.parts ≡ b.parts
  pub needs : b'.needs ≡ b.needs
  pub draws : b'.draws ≡ b.draws
  pub gives : b'.gives ≡ b.gives
  pub wish : b'.wish ≡ b.wish
  pub quiet : b'.quiet ≡ b.quiet

-- each asking took one at least off the height, and off the cost of any goal below the ceiling t
pub record CameDown (t : ℕ → ℕ) (n : ℕ) (b : Board) (n' : ℕ) (b' : Board) : Type 0 where
  pub only : OnlyParts b b'
  pub lower : height b' + n ≤ height b + n'
  pub nearer : (l : ℕ → ℕ) → Under b l t → costs b' l + n ≤ costs b l + n'

-- each asking took one at least off the cost of the goal l
pub record CameNearer (l : ℕ → ℕ) (n : ℕ) (b : Board) (n' : ℕ) (b' : Board) : Type 0 where
  pub only : OnlyParts b b'
  pub nearer : costs b' l + n ≤ costs b l + n'

-- A is so, or all that was allowed was asked
abbrev pub OrSpent : Result Unit spent.Spent → ℕ → Type 0 → Type 0
OrSpent (Ok u) n A = A
OrSpent (Err e) n A = n ≡ 0

-- x is needed for the goal l, rises, and was found not to be good 64 times
abbrev pub StuckAt : Board → (ℕ → ℕ) → ℕ → Type 0
StuckAt b l x = (0 < l x) × (b.part x ≡ Rising) × (b.tried x ≡ 64)

-- how the way up of the part x ended, and that of all
abbrev pub PartEnds : Result Unit Halt → Board → (ℕ → ℕ) → ℕ → ℕ → Type 0
PartEnds (Ok u) b l x n = Reached b l x
PartEnds (Err Spent) b l x n = n ≡ 0
PartEnds (Err Stuck) b l x n = StuckAt b l x

abbrev pub AllEnd : Result Unit Halt → Board → (ℕ → ℕ) → ℕ → Type 0
AllEnd (Ok u) b l n = (z : ℕ) → z < b.parts → Reached b l z
AllEnd (Err Spent) b l n = n ≡ 0
AllEnd (Err Stuck) b l n = (y : ℕ) × (y < b.parts) × StuckAt b l y

-- a ceiling t, that fits and covers what was granted, and a goal l below it, that serves itself
pub record Targets (b : Board) (t l : ℕ → ℕ) : Type 0 where
  pub fits : Fits b t
  pub covers : Covers b t
  pub serves : Serves b l
  pub under : Under b l t
