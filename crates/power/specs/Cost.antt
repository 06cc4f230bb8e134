-- What is still to be asked of the board until every part is at the levels l: at most 79 for each part, and each asking on the way takes one off.
-- Assumes nothing.
use Rattle.std.specs.Prelude.{◌≡◌, ℕ, ◌+◌, ◌-◌, ◌<◌, ◌≤◌, Bool, cond, T, ◌==◌}
use Rattle.power.specs.Board.{Board, Part, Off, Rising, On, is_off, is_on, level_of, total, Tries, raised, lowered, levelled}
use Rattle.power.specs.Sound.{Sound}

-- of one part, found not to be good so many times, on its way to level l; 0 is off
unfoldable pub cost : Part → ℕ → ℕ → ℕ
cost Off tried l = cond (l == 0) 0 (64 + l)
cost Rising tried l = cond (l == 0) 1 ((64 - tried) + (l - 1))
cost (On v) tried l = (v - l) + (l - v)

abbrev pub costs : Board → (ℕ → ℕ) → ℕ
costs b l = total b.parts (λ x. cost (b.part x) (b.tried x) (l x))

-- all levels together: what coming down to nothing can cost
abbrev pub height : Board → ℕ
height b = total b.parts (λ x. level_of (b.part x))

-- on a board of 64 parts at most
abbrev pub CostIsBounded : Type 0
CostIsBounded =
    (b : Board) → Sound b → b.parts ≤ 64 →
    ((l : ℕ → ℕ) → ((x : ℕ) → x < b.parts → l x ≤ 15) → costs b l ≤ 5056) × (height b ≤ 960)

-- each asking on the way to l takes one off at least
abbrev pub EachAskingPays : Type 0
EachAskingPays =
    (b : Board) (l : ℕ → ℕ) (x : ℕ) → x < b.parts →
    (T (is_off (b.part x)) → 1 ≤ l x → costs (raised x b) l < costs b l) ×
    ((r : Bool) (b' : Board) → b.tried x < 64 → 1 ≤ l x → Tries b x r b' → costs b' l < costs b l) ×
    (0 < level_of (b.part x) → l x ≡ 0 → costs (lowered x b) l < costs b l) ×
    (T (is_on (b.part x)) → l x < level_of (b.part x) → costs (levelled x (level_of (b.part x) - 1) b) l < costs b l) ×
    (T (is_on (b.part x)) → level_of (b.part x) < l x → costs (levelled x (level_of (b.part x) + 1) b) l < costs b l)
