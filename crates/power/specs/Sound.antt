-- A sound board: the one invariant that every step, call, telling and tick keeps, and what its levels are.
-- Needs are said by index, in the words of the trait `Parts`: `on_of k`, `least_of k l` and `most_of k` of `b.needs x`.
-- Assumes nothing.
use Rattle.std.specs.Prelude.{◌≡◌, ℕ, ◌<◌, ◌≤◌, Bool, not, T, List, length, nat_le}
use Rattle.power.specs.declared.Call.{Call}
use Rattle.power.specs.declared.Answer.{Answer}
use Rattle.power.specs.Board.{Board, Need, Part, On, Asked, Granted, on_of, least_of, most_of, every, is_off, is_on, level_of, drawn, good_plan, granted, MayRaise, MayLower, MayLevel, Tries, raised, lowered, levelled, AtStart, called, may_tell, told, ticked}
use Rattle.power.specs.Promise.{serves, allowed'}

-- the kth of the needs ns, of a part at level l, is met by the parts f
abbrev pub Has : (ℕ → Part) → List Need → ℕ → ℕ → Type 0
Has f ns k l = T (is_on (f (on_of k ns))) × (least_of k l ns ≤ level_of (f (on_of k ns))) × (level_of (f (on_of k ns)) ≤ most_of k ns)

-- The plan makes sense; what isn't off has what it needs; what's on is at 1 to 15;
-- no more is drawn than is given;
-- what's asked names a part that there is and a level that there is; what was granted does too, and is on, at that level or more.
pub record Sound (b : Board) : Type 0 where
  pub plan : T (good_plan b)
  pub has : (x k : ℕ) → x < b.parts → T (not (is_off (b.part x))) → k < length (b.needs x) → Has b.part (b.needs x) k (level_of (b.part x))
  pub range : (x l : ℕ) → x < b.parts → b.part x ≡ On l → (1 ≤ l) × (l ≤ 15)
  pub draws : drawn b b.part ≤ b.gives
  pub asks : (u x l a : ℕ) → u < 32 → b.wish u ≡ Asked x l a → (x < b.parts) × (1 ≤ l) × (l ≤ 15)
  pub holds : (u x l : ℕ) → u < 32 → b.wish u ≡ Granted x l → (x < b.parts) × (1 ≤ l) × T (is_on (b.part x)) × (l ≤ level_of (b.part x))

-- whatever the data sheet allows keeps a board sound
abbrev pub StepsKeepSound : Type 0
StepsKeepSound =
    (b : Board) → Sound b →
    ((x : ℕ) → MayRaise b x → Sound (raised x b)) ×
    ((x : ℕ) (r : Bool) (b' : Board) → x < b.parts → Tries b x r b' → Sound b') ×
    ((x : ℕ) → MayLower b x → Sound (lowered x b)) ×
    ((x v : ℕ) → MayLevel b x v → Sound (levelled x v b))

-- a board is sound at the start, and whatever users call, and are told, and every tick, keeps it so
abbrev pub UsersKeepSound : Type 0
UsersKeepSound =
    (b : Board) →
    (AtStart b → Sound b) ×
    ((c : Call) → Sound b → Sound (called c b)) ×
    ((u : ℕ) (a : Answer) → Sound b → T (may_tell b u a) → Sound (told u a b)) ×
    (Sound b → Sound (ticked b))

-- a sound board's own levels serve what was granted, are allowed, what's drawn too, and are 15 at most
abbrev pub SoundServes : Type 0
SoundServes =
    (b : Board) → Sound b →
    T (serves b (granted b) (λ x. level_of (b.part x))) ×
    T (allowed' b (λ x. level_of (b.part x))) ×
    T (every b.parts (λ (x : ℕ). nat_le (level_of (b.part x)) 15))
