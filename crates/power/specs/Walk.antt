-- The walk over the board, down to a ceiling and up to a goal below it: the next step is always allowed, and keeps the way so far.
-- Assumes nothing.
use Rattle.std.specs.Prelude.{◌≡◌, ℕ, ◌+◌, ◌-◌, ◌<◌, ◌≤◌, Bool, T}
use Rattle.power.specs.Board.{Board, is_off, is_on, level_of, MayRaise, MayLower, MayLevel, Tries, raised, lowered, levelled}
use Rattle.power.specs.Aim.{Fits, Covers, Serves}
use Rattle.power.specs.Sound.{Sound}

-- no part is above the ceiling t, of those that there are
abbrev pub Below : Board → (ℕ → ℕ) → Type 0
Below b t = (z : ℕ) → z < b.parts → level_of (b.part z) ≤ t z

-- l is nowhere above t
abbrev pub Under : Board → (ℕ → ℕ) → (ℕ → ℕ) → Type 0
Under b l t = (z : ℕ) → z < b.parts → l z ≤ t z

-- the part z is as high as the goal l, and on where l wants it on
abbrev pub Reached : Board → (ℕ → ℕ) → ℕ → Type 0
Reached b l z = (l z ≤ level_of (b.part z)) × (0 < l z → T (is_on (b.part z)))

-- The next step down, from the last part to the first: the first part from above that is higher than t can be off, or come down by one.
abbrev pub DownGoesOn : Type 0
DownGoesOn =
    (b : Board) (t : ℕ → ℕ) → Sound b → Fits b t → Covers b t → 0 < b.left →
    (y : ℕ) → y < b.parts → ((z : ℕ) → y < z → z < b.parts → level_of (b.part z) ≤ t z) → t y < level_of (b.part y) →
    (t y ≡ 0 → MayLower b y) × (1 ≤ t y → MayLevel b y (level_of (b.part y) - 1))

-- The next step up, from the first part to the last, below the ceiling t: the first part from below that is lower than l can be raised, or go up by one.
abbrev pub UpGoesOn : Type 0
UpGoesOn =
    (b : Board) (t l : ℕ → ℕ) → Sound b → Fits b t → Serves b l → Below b t → Under b l t → 0 < b.left →
    (y : ℕ) → y < b.parts → ((z : ℕ) → z < y → Reached b l z) →
    (T (is_off (b.part y)) → 1 ≤ l y → MayRaise b y) ×
    (T (is_on (b.part y)) → level_of (b.part y) < l y → MayLevel b y (level_of (b.part y) + 1))

-- on the way down to the ceiling t, the parts from i on are through
pub record Down (b : Board) (t : ℕ → ℕ) (i : ℕ) : Type 0 where
  pub sound : Sound b
  pub fits : Fits b t
  pub covers : Covers b t
  pub through : (z : ℕ) → i ≤ z → z < b.parts → level_of (b.part z) ≤ t z

-- on the way up to the goal l, below the ceiling t, the parts before i are through
pub record Up (b : Board) (t l : ℕ → ℕ) (i : ℕ) : Type 0 where
  pub sound : Sound b
  pub fits : Fits b t
  pub serves : Serves b l
  pub below : Below b t
  pub under : Under b l t
  pub through : (z : ℕ) → z < i → Reached b l z

abbrev pub DownSteps : Type 0
DownSteps =
    (b : Board) (t : ℕ → ℕ) (y : ℕ) → y < b.parts → Down b t (y + 1) →
    (0 < b.left → t y < level_of (b.part y) → t y ≡ 0 → MayLower b y × Down (lowered y b) t (y + 1)) ×
    (0 < b.left → t y < level_of (b.part y) → 1 ≤ t y → MayLevel b y (level_of (b.part y) - 1) × Down (levelled y (level_of (b.part y) - 1) b) t (y + 1)) ×
    (level_of (b.part y) ≤ t y → Down b t y)

abbrev pub UpSteps : Type 0
UpSteps =
    (b : Board) (t l : ℕ → ℕ) (y : ℕ) → y < b.parts → Up b t l y →
    (0 < b.left → T (is_off (b.part y)) → 1 ≤ l y → MayRaise b y × Up (raised y b) t l y) ×
    ((r : Bool) (b' : Board) → Tries b y r b' → Up b' t l y) ×
    (0 < b.left → T (is_on (b.part y)) → level_of (b.part y) < l y → MayLevel b y (level_of (b.part y) + 1) × Up (levelled y (level_of (b.part y) + 1) b) t l y) ×
    (Reached b l y → Up b t l (y + 1))
