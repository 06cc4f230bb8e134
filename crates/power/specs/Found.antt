-- What code tells of the least: of a part's needs, of the levels it finds, and of levels to aim at.
-- Assumes nothing.
use Rattle.std.specs.Prelude.{◌≡◌, ℕ, ◌<◌, ◌≤◌, Bool, not, ◌&&◌, ◌||◌, T, leb, List, Result, MatchResult, ◌==◌, nat_le}
use Rattle.power.specs.declared.types.Levels.{Levels}
use Rattle.power.specs.declared.types.Aims.{Aims}
use Rattle.power.specs.declared.types.CantBe.{CantBe}
use Rattle.power.specs.Board.{Board, Need, every, all, on_of, least_of, can_be, and_also}
use Rattle.power.specs.Least.{lv}
use Rattle.power.specs.Tables.{at}

-- f raised to what the first k of these needs ask at level l, and no further
pub record Pushed (ns : List Need) (l k : ℕ) (f to : ℕ → ℕ) : Type 0 where
  pub more : (z : ℕ) → f z ≤ to z
  pub asks : (j : ℕ) → j < k → least_of j l ns ≤ to (on_of j ns)
  pub only : (z m : ℕ) → f z ≤ m → ((j : ℕ) → j < k → on_of j ns ≡ z → least_of j l ns ≤ m) → to z ≤ m

-- no need of x is higher than x allows
abbrev pub needs_fit : Board → (ℕ → ℕ) → ℕ → Bool
needs_fit b f x = all (λ (n : Need). leb (f n.on) n.most) (b.needs x)

-- the same of every part that isn't off, and none is above 15; what's drawn wasn't looked at
abbrev pub parts_fit : Board → (ℕ → ℕ) → Bool
parts_fit b f = every b.parts (λ (x : ℕ). nat_le (f x) 15 && (f x == 0 || needs_fit b f x))

-- the least levels, none above 15; what's allowed wasn't looked at yet
pub record Swept (b : Board) (want : ℕ → ℕ) (ls : Levels) : Type 0 where
  pub same : (x : ℕ) → at ls x ≡ lv b want x
  pub low : (x : ℕ) → at ls x ≤ 15

-- the least levels, for what can be
pub record Found (b : Board) (want : ℕ → ℕ) (ls : Levels) : Type 0 where
  pub can : T (can_be b want)
  pub same : (x : ℕ) → at ls x ≡ lv b want x
  pub low : (x : ℕ) → at ls x ≤ 15

-- them, exactly if it can be
abbrev pub Finds : Board → (ℕ → ℕ) → Result Levels CantBe → Type 0
Finds b want r = MatchResult r (λ ls. Found b want ls) (λ _. T (not (can_be b want)))

-- the least for x at l with what's granted, and for x at l alone
pub record Aimed (b : Board) (granted : ℕ → ℕ) (x l : ℕ) (a : Aims) : Type 0 where
  pub ceiling : Found b (and_also granted x l) a.ceiling
  pub goal : Found b (and_also (λ (z : ℕ). 0) x l) a.goal

-- them, exactly if it can be with what's granted
abbrev pub FindsAims : Board → (ℕ → ℕ) → (x l : ℕ) → Result Aims CantBe → Type 0
FindsAims b granted x l r = MatchResult r (λ a. Aimed b granted x l a) (λ _. T (not (can_be b (and_also granted x l))))
