-- How long those who wait have waited, and still may: what the user whose turn it is still costs, and all who come before.
-- Assumes nothing.
use Rattle.std.specs.Prelude.{◌≡◌, ℕ, ◌+◌, ◌*◌, ◌<◌, ◌≤◌, cond, nat_lt, slice_index}
use Rattle.power.specs.Board.{Board, Wish, None', Asked, Granted, least_levels, and_also}
use Rattle.power.specs.Cost.{costs}
use Rattle.power.specs.Rota.{dist}

-- the levels that x at l needs by itself
abbrev pub goal : Board → ℕ → ℕ → ℕ → ℕ
goal b x l y = slice_index (least_levels b (and_also (λ z. 0) x l)) y

-- what a goal still costs; one that can't be may have levels above 15, so no more than 64 parts can cost
abbrev pub phi : Board → (ℕ → ℕ) → ℕ
phi b l = cond (nat_lt (costs b l) 5056) (costs b l) 5056

-- what the user whose turn it is still costs, at the most
unfoldable pub turn_cost : Board → Wish → ℕ
turn_cost b None' = 5056
turn_cost b (Asked x l g) = phi b (goal b x l)
turn_cost b (Granted x l) = 5056

-- Who waits has waited g ticks. Of the 193,536 askings that may come before the answer, 1,024 went by in each tick;
-- 6,080 are for each user on the way round from the turn t, a tick's more than a want can cost.
abbrev pub Aged : ℕ → Board → Type 0
Aged t b = (u x l g : ℕ) → u < 32 → b.wish u ≡ Asked x l g → 1024 * g + turn_cost b (b.wish t) + 6080 * dist t u ≤ 193536
