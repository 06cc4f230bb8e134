-- What the keeper's own tables say of a board.
-- Assumes nothing.
use Rattle.std.specs.Prelude.{◌≡◌, ℕ, ◌≤◌, Bool, true, false, T, slice_index_or}
use Rattle.std.specs.Coded.{Unit-prop, Coded-set, coded_ℕ}
use Rattle.power.specs.Board.{Board, Part, Off, Rising, On, Wish, None', Asked, Granted}
use Rattle.power.specs.declared.Answer.{Answer}
use Rattle.power.specs.declared.Answer.TheVariants.{Done, No}
use Rattle.power.specs.declared.state.PartState.{PartState}
use Rattle.power.specs.declared.state.PartState.TheVariants as state
use Rattle.power.specs.declared.state.Wanted.{Wanted}
use Rattle.power.specs.declared.state.Wanted.TheVariants as wanted
use Rattle.power.specs.declared.state.Tried.{Tried}
use Rattle.power.specs.declared.state.Mirror.{Mirror}
use Rattle.power.specs.declared.state.Wishes.{Wishes}
use Rattle.power.specs.declared.state.Driver.{Driver}

abbrev pub part_of : {T : Type 0} → PartState T → Part
part_of state.Off = Off
part_of (state.Rising n) = Rising
part_of (state.On l) = On l.n

-- how often a part was tried is known, and matters, while it rises
abbrev pub TriedIs : PartState Tried → ℕ → Type 0
TriedIs state.Off t = Unit {0}
TriedIs (state.Rising n) t = t ≡ n.n
TriedIs (state.On l) t = Unit {0}

pub tried_is_prop : (s : PartState Tried) (t : ℕ) → IsProp (TriedIs s t)
tried_is_prop state.Off t = Unit-prop
tried_is_prop (state.Rising n) t = Coded-set coded_ℕ t n.n
tried_is_prop (state.On l) t = Unit-prop

abbrev pub state_at : Mirror → ℕ → PartState Tried
state_at m x = slice_index_or m.states x state.Off

-- the mirror shows the board's parts
pub record Shows (m : Mirror) (b : Board) : Type 0 where
  pub part : (x : ℕ) → b.part x ≡ part_of (state_at m x)
  pub tried : (x : ℕ) → TriedIs (state_at m x) (b.tried x)

-- the same parts, each tried anew
pub record Anew (m m' : Mirror) : Type 0 where
  pub part : (x : ℕ) → part_of (state_at m' x) ≡ part_of (state_at m x)
  pub tried : (x : ℕ) → TriedIs (state_at m' x) 0

-- the driver knows the board's parts, and asks no more than it may
pub record Knows (d : Driver) (b : Board) : Type 0 where
  pub parts : Shows d.mirror b
  pub left : d.left ≤ b.left

abbrev pub wanted_by : Wishes → ℕ → Wanted Unit
wanted_by ws u = slice_index_or ws.wanted u wanted.Nothing

abbrev pub Says : Wanted Unit → Wish → Type 0
Says wanted.Nothing v = v ≡ None'
Says (wanted.Asked r t) v = (a : ℕ) × (v ≡ Asked r.part.n r.level.n a)
Says (wanted.Granted r) v = v ≡ Granted r.part.n r.level.n

-- the wishes are the board's, but for their ages
abbrev pub SaysAll : Wishes → Board → Type 0
SaysAll ws b = (u : ℕ) → Says (wanted_by ws u) (b.wish u)

-- it was asked, and nobody was told yet
abbrev pub asks : {A : Type 0} → Wanted A → Bool
asks wanted.Nothing = false
asks (wanted.Asked r t) = true
asks (wanted.Granted r) = false

abbrev pub Waits : Wanted Unit → Type 0
Waits w = T (asks w)

-- what is left of it once its user is told a
abbrev pub once_told : {A : Type 0} → Wanted A → Answer → Wanted A
once_told wanted.Nothing a = wanted.Nothing
once_told (wanted.Asked r t) Done = wanted.Granted r
once_told (wanted.Asked r t) (No k) = wanted.Nothing
once_told (wanted.Granted r) a = wanted.Granted r
