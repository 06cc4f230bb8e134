-- Levels to aim at: what a target for the walk over the board has to be, however it was found.
-- Needs are said by index, in the words of the trait `Parts`: `on_of k`, `least_of k l` and `most_of k` of `b.needs x`.
-- Assumes nothing.
use Rattle.std.specs.Prelude.{◌≡◌, ℕ, ◌<◌, ◌≤◌, length}
use Rattle.power.specs.Board.{Board, Granted, on_of, least_of, most_of, drawn_at}

-- They fit: none above 15, each part that isn't off there has what it needs, within what it allows, and no more is drawn there than is given.
pub record Fits (b : Board) (t : ℕ → ℕ) : Type 0 where
  pub fifteen : (x : ℕ) → x < b.parts → t x ≤ 15
  pub meets : (x k : ℕ) → x < b.parts → 0 < t x → k < length (b.needs x) → (least_of k (t x) (b.needs x) ≤ t (on_of k (b.needs x))) × (t (on_of k (b.needs x)) ≤ most_of k (b.needs x))
  pub draws : drawn_at b t ≤ b.gives

-- nobody was granted more
abbrev pub Covers : Board → (ℕ → ℕ) → Type 0
Covers b t = (u x l : ℕ) → u < 32 → b.wish u ≡ Granted x l → l ≤ t x

-- each part that isn't off there has what it needs at the least
abbrev pub Serves : Board → (ℕ → ℕ) → Type 0
Serves b t = (x k : ℕ) → x < b.parts → 0 < t x → k < length (b.needs x) → least_of k (t x) (b.needs x) ≤ t (on_of k (b.needs x))
