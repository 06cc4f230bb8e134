-- Examples on one plan of four parts: what is least, what can't be, also for what is drawn alone, and which calls are turned away.
-- Assumes nothing.
use Rattle.std.specs.Prelude.{ℕ, Bool, true, false, not, ◌&&◌, T, List, [], ◌∷◌, replicate, ◌==◌, slice_index_or}
use Rattle.power.specs.declared.Call.{Call}
use Rattle.power.specs.declared.Call.TheVariants.{Want, Give}
use Rattle.power.specs.Board.{Need, Board, Off, None', least_levels, can_be, good_plan, and_also, why, called}

-- what is needed at 1, at 2, and from 3 on; nothing at 0
abbrev pub from : ℕ → ℕ → ℕ → List ℕ
from a b c = 0 ∷ a ∷ b ∷ replicate 13 c

abbrev pub need : ℕ → List ℕ → ℕ → Need
need y ls m = record { on = y; least = ls; most = m }

-- part 1 needs 0; part 2 needs 0, which it allows up to 3, and 1; part 3 needs 1 at 3
abbrev pub plan : List (List Need)
plan =
    []
    ∷ (need 0 (from 1 2 4) 6 ∷ [])
    ∷ (need 0 (from 1 1 1) 3 ∷ need 1 (from 1 1 1) 15 ∷ [])
    ∷ (need 1 (from 3 3 3) 15 ∷ [])
    ∷ []

abbrev pub start : Board
start = record { parts = 4; needs = λ x. slice_index_or plan x []; draws = λ x. replicate 16 0; gives = 0; part = λ x. Off; tried = λ x. 0; wish = λ u. None'; quiet = 0; left = 1024 }

-- the same parts, each drawing 1 at 1, 2 at 2 and 5 from 3 on, of 7 that are given
abbrev pub drawing : Board
drawing = record { parts = 4; needs = λ x. slice_index_or plan x []; draws = λ x. from 1 2 5; gives = 7; part = λ x. Off; tried = λ x. 0; wish = λ u. None'; quiet = 0; left = 1024 }

-- wants: none, and one
abbrev pub nothing : ℕ → ℕ
nothing x = 0

abbrev pub only : ℕ → ℕ → ℕ → ℕ
only x l = and_also nothing x l

abbrev pub same_list : List ℕ → List ℕ → Bool
same_list [] [] = true
same_list [] (y ∷ ys) = false
same_list (x ∷ xs) [] = false
same_list (x ∷ xs) (y ∷ ys) = x == y && same_list xs ys

-- these are the least levels, and can be; it can't be; what's given is enough; it is not, though else it could be;
-- the call is answered by this number, 0 if it's taken
pub data Example : Type 0 where
  least : (want : ℕ → ℕ) (is : List ℕ) → Example
  cannot : (want : ℕ → ℕ) → Example
  enough : (want : ℕ → ℕ) → Example
  too_much : (want : ℕ → ℕ) → Example
  answered : (before : Board) (call : Call) (by : ℕ) → Example

abbrev pub holds : Example → Bool
holds (least want is) = can_be start want && same_list (least_levels start want) is
holds (cannot want) = not (can_be start want)
holds (enough want) = can_be drawing want
holds (too_much want) = can_be start want && not (can_be drawing want)
holds (answered before call k) = why call before == k

abbrev pub all_hold : List Example → Bool
all_hold [] = true
all_hold (e ∷ es) = holds e && all_hold es

abbrev pub examples : List Example
examples =
    least nothing (0 ∷ 0 ∷ 0 ∷ 0 ∷ [])
    ∷ least (only 1 2) (2 ∷ 2 ∷ 0 ∷ 0 ∷ [])
    ∷ least (only 3 1) (4 ∷ 3 ∷ 0 ∷ 1 ∷ [])
    ∷ least (and_also (only 1 2) 2 1) (2 ∷ 2 ∷ 1 ∷ 0 ∷ [])
    ∷ cannot (and_also (only 2 1) 3 1)
    ∷ cannot (and_also (only 1 1) 0 7)
    ∷ cannot (only 0 16)
    ∷ enough (and_also (only 1 2) 2 1)
    ∷ enough (and_also (only 1 2) 0 3)
    ∷ enough (and_also (only 2 1) 0 3)
    ∷ too_much (and_also (and_also (only 1 2) 2 1) 0 3)
    ∷ too_much (only 3 1)
    ∷ answered start (Want 32 0 1) 1
    ∷ answered start (Want 0 4 1) 1
    ∷ answered start (Want 0 0 0) 1
    ∷ answered start (Want 0 0 16) 1
    ∷ answered start (Want 0 0 1) 0
    ∷ answered (called (Want 0 0 1) start) (Want 0 0 1) 2
    ∷ answered (called (Want 0 0 1) start) (Give 0) 0
    ∷ answered start (Give 0) 3
    ∷ answered start (Give 32) 1
    ∷ []

abbrev pub ExamplesHold : Type 0
ExamplesHold = T (good_plan start) × T (good_plan drawing) × T (all_hold examples)
