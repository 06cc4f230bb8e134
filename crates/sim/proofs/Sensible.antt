-- The tests of a plan, one after another. Assumes nothing.
use Rattle.std.proofs.Math.Bool.{and-false}
use Rattle.std.proofs.lemmas.Bool.{lt-leb}
use Rattle.std.proofs.Common.{◌≡◌, ℕ, zero, suc, ◌+◌, ◌<◌, Bool, true, false, not, ◌&&◌, ◌==◌, leb, List, [], ◌∷◌, map, length, get_or, sym, refl, ap, subst, add-one, arith, le-leb, MatchBool}
use Rattle.std.specs.List.{list_all}
use Rattle.std.specs.List.Sorted.{IsNonDecreasing}
use Rattle.power.specs.Board.{Need, all, rising, apart}
use Rattle.sim.specs.declared.plan.PlanNeed.{PlanNeed}
use Rattle.sim.specs.Plans.{need_of}

-- a test of each need of a list
pub all_listed : (f : Need → Bool) (ns : List PlanNeed) → list_all (λ n. f (need_of n)) ns ≡ all f (map need_of ns)
unfolding all
all_listed f [] = refl
all_listed f (n ∷ ns) = ap (λ (b : Bool). f (need_of n) && b) (all_listed f ns)

pub apart_none : (ns : List PlanNeed) → length ns ≡ 0 → true ≡ apart (map need_of ns)
unfolding apart
apart_none [] e = refl
apart_none (n ∷ ns) e = absurd (omega arith)

-- needs go to parts apart if the first goes to none of the others', and these do
pub apart_more : (n : PlanNeed) (ns : List PlanNeed) → apart (map need_of (n ∷ ns)) ≡ (list_all (λ m. not (m.on == n.on)) ns && apart (map need_of ns))
unfolding apart
apart_more n ns = ap (λ (b : Bool). b && apart (map need_of ns)) (sym (all_listed (λ m. not (m.on == n.on)) ns))

rising_up : (xs : List ℕ) → IsNonDecreasing xs → true ≡ rising xs
unfolding rising
rising_up [] h = refl
rising_up (x ∷ []) h = refl
rising_up (x ∷ y ∷ xs) h =
    rw (le-leb x y (h 0 1 0 (omega arith) (omega arith)), sym (rising_up (y ∷ xs) (λ i j d l m. h (suc i) (suc j) d (omega (arith, l)) (omega (arith, m))))) refl

rising_down : (xs : List ℕ) (k : ℕ) → suc k < length xs → get_or xs (suc k) 0 < get_or xs k 0 → false ≡ rising xs
unfolding rising
rising_down [] k l h = absurd (omega arith)
rising_down (x ∷ []) k l h = absurd (omega arith)
rising_down (x ∷ y ∷ xs) zero l h = rw (lt-leb x y h) refl
rising_down (x ∷ y ∷ xs) (suc k) l h = rw (sym (rising_down (y ∷ xs) k (omega arith) h), and-false (leb x y)) refl

-- a list rises exactly if it is sorted
pub rising_from_sorted : (xs : List ℕ) (r : Bool) → MatchBool r (IsNonDecreasing xs) ((k : ℕ) × (k + 1 < length xs) × ((d : ℕ) → get_or xs (k + 1) d < get_or xs k d)) → r ≡ rising xs
rising_from_sorted xs true h = rising_up xs h
rising_from_sorted xs false h = let s = add-one h.0 in rising_down xs h.0 (omega (arith, h.1)) (subst (λ j. get_or xs j 0 < get_or xs h.0 0) s (h.2 0))
