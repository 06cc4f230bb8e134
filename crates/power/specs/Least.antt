-- The least, part by part: for two wants together, for fewer wants, and what pins it down.
-- Assumes nothing.
use Rattle.std.specs.Prelude.{◌≡◌, ℕ, ◌<◌, ◌≤◌, T, length, slice_index}
use Rattle.power.specs.Board.{Board, on_of, least_of, larger, least_levels, can_be, good_plan}
use Rattle.power.specs.Aim.{Serves}

-- the least level of part x; 0 past the last
abbrev pub lv : Board → (ℕ → ℕ) → ℕ → ℕ
lv b want x = slice_index (least_levels b want) x

-- What's least for two wants together is the larger of what's least for each.
abbrev pub LeastJoins : Type 0
LeastJoins =
    (b : Board) (f g : ℕ → ℕ) → T (good_plan b) → T (can_be b (λ (z : ℕ). larger (f z) (g z))) → (x : ℕ) → lv b (λ (z : ℕ). larger (f z) (g z)) x ≡ larger (lv b f x) (lv b g x)

-- With fewer wants, or lower ones, it still can be.
abbrev pub FewerCanBe : Type 0
FewerCanBe = (b : Board) (want more : ℕ → ℕ) → T (good_plan b) → ((x : ℕ) → x < b.parts → want x ≤ more x) → T (can_be b more) → T (can_be b want)

-- each part as high as what's wanted of it and what others need of it, and no higher than that
pub record Tight (b : Board) (want f : ℕ → ℕ) : Type 0 where
  pub wanted : (x : ℕ) → x < b.parts → want x ≤ f x
  pub needed : Serves b f
  pub tight : (y m : ℕ) → y < b.parts → want y ≤ m →
      ((x k : ℕ) → y < x → x < b.parts → 0 < f x → k < length (b.needs x) → on_of k (b.needs x) ≡ y → least_of k (f x) (b.needs x) ≤ m) → f y ≤ m

-- The least is tight, and nothing else is.
abbrev pub LeastIsTight : Type 0
LeastIsTight = (b : Board) (want : ℕ → ℕ) → T (good_plan b) → Tight b want (lv b want)

abbrev pub TightIsLeast : Type 0
TightIsLeast = (b : Board) (want f : ℕ → ℕ) → T (good_plan b) → Tight b want f → (x : ℕ) → x < b.parts → f x ≡ lv b want x
