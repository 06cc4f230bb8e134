-- The board's own words over a range of numbers, as iterators go over it: `every` and `total`. Assumes nothing.
use Rattle.std.proofs.Common.{◌≡◌, ℕ, zero, suc, ◌+◌, ◌-◌, ◌/◌, ◌<◌, ◌≤◌, Bool, true, false, T, List, Option, MatchOption, sym, refl, ap, ◌∙◌, subst, map, inl, inr, add-one, arith}
use denote.Param.Members.{Mut}
use Rattle.std.proofs.iter.Yields.{nat_range_steps}
use Rattle.std.proofs.lemmas.Iterator.{YieldsList-from_range, YieldsList-from_map}
use Rattle.std.proofs.lemmas.Iterator.Consumers.{sum_from_yields_List}
use Rattle.std.proofs.lemmas.Iterator.Adapters.{fits_from_length, at_most_from_yields_List}
use Rattle.std.proofs.lemmas.List.FromFn.{length-range_with_len}
use Rattle.std.proofs.lemmas.Iterator.Search.{all_from_yields_List}
use Rattle.std.specs.declared.ops.Range.{Range}
use Rattle.std.specs.declared.iter.Map.{Map}
use Rattle.std.specs.Bool.{⊤}
use Rattle.std.specs.Fn.{Called}
use Rattle.std.specs.Iterator.{YieldsThen, Drains}
use Rattle.std.specs.Iterator.Adapters.{map_source, map_callee, map_steps}
use Rattle.std.specs.Iterator.Runs.{EachRunFrom}
use Rattle.std.proofs.lemmas.Bool.{cases_lt}
use Rattle.std.proofs.lemmas.List.FromFn.{sum_by-map-range_with_len_more}
use Rattle.std.specs.List.{FoldsTo, fold, list_all, range_with_len, sum}
use Rattle.power.specs.Board.{every, total}
use Rattle.power.proofs.Tests.{and_l, and_r, and_i, every_at, every_of, is_true, is_false}

pub same_test : (x y : Bool) → (T x → T y) → (T y → T x) → x ≡ y
same_test true y f g = is_true y (f tt)
same_test false y f g = is_false y g

list_all_at : (n a : ℕ) (f : ℕ → Bool) → T (list_all f (range_with_len a n)) → (k : ℕ) → a ≤ k → k < a + n → T (f k)
list_all_at zero a f t k h l = absurd (omega arith)
list_all_at (suc n) a f t k h l =
    elim (cases_lt a k) [
      | inl i ↦ list_all_at n (a + 1) f (and_r (f a) _ t) k (omega arith) (omega arith)
      | inr i ↦ let e : a ≡ k = omega arith in subst (λ (j : ℕ). T (f j)) e (and_l (f a) _ t)
    ]

list_all_of : (n a : ℕ) (f : ℕ → Bool) → ((k : ℕ) → a ≤ k → k < a + n → T (f k)) → T (list_all f (range_with_len a n))
list_all_of zero a f h = tt
list_all_of (suc n) a f h = and_i (f a) _ (h a (omega arith) (omega arith)) (list_all_of n (a + 1) f (λ k i l. h k (omega arith) (omega arith)))

every_range : (n : ℕ) (f : ℕ → Bool) → list_all f (range_with_len 0 n) ≡ every n f
every_range n f =
    same_test (list_all f (range_with_len 0 n)) (every n f) (λ t. every_of n f (λ k h. list_all_at n 0 f t k (omega arith) (omega arith))) (λ t. list_all_of n 0 f (λ k h l. every_at n f t k (omega arith)))

pub total_range : (n : ℕ) (f : ℕ → ℕ) → sum (map f (range_with_len 0 n)) ≡ total n f
unfolding total
total_range zero f = refl
total_range (suc n) f =
    ap (λ (m : ℕ). sum (map f (range_with_len 0 m))) (sym (add-one n)) ∙ sum_by-map-range_with_len_more (λ x. x) f 0 n n (omega arith) ∙ ap (λ (s : ℕ). s + f n) (total_range n f)

-- `all` over the numbers from 0 up to n, where the closure computes a test
pub all_range : {F : Type 0} {g : Mut F (ℕ × Unit {0}) Bool} (n : ℕ) (test : ℕ → Bool) (s u : Range ℕ) (f : F) (r : Bool) →
    (xs : List ℕ) × (o : Option ℕ) × (j : F) × YieldsThen nat_range_steps s xs o u × FoldsTo (λ p x q. Called g p (x, tt) true q) f xs j
    × MatchOption o (r ≡ true) (λ x. (r ≡ false) × ((h : F) × Called g j (x, tt) false h)) →
    s ≡ record { start = 0; end = n } → ((x : ℕ) (b : Bool) (q : F) → Called g f (x, tt) b q → (q ≡ f) × (b ≡ test x)) → r ≡ every n test
all_range n test s u f r ran e k = all_from_yields_List test u f r ran (YieldsList-from_range 0 n n e (omega arith)) k ∙ every_range n test

-- the sum over the numbers from 0 up to n, where the closure computes each term
module _ {F : Type 0} {g : Mut F (ℕ × Unit {0}) ℕ} (n : ℕ) (s : Map (Range ℕ) F) (f : F) (e : map_source s ≡ record { start = 0; end = n }) (a : map_callee s ≡ f) where
  pub sum_range : (term : ℕ → ℕ) (r : ℕ) → ((xs : List ℕ) × (⊤ → Drains (map_steps nat_range_steps g) s xs) × (r ≡ fold (λ b x. b + x) 0 xs)) →
      ((x y : ℕ) (q : F) → Called g f (x, tt) y q → (q ≡ f) × (y ≡ term x)) → r ≡ total n term
  sum_range term r ran k = sum_from_yields_List s r ran (YieldsList-from_map g term (YieldsList-from_range 0 n n e (omega arith)) a k) ∙ total_range n term

  -- no sum of a part of them is too high
  pub sum_range_fits : (top : ℕ) → n ≤ 64 → 0 < top → ((x y : ℕ) (q : F) → Called g f (x, tt) y q → (q ≡ f) × (y ≤ (top - 1) / 64)) →
      EachRunFrom (map_steps nat_range_steps g) s (λ p. fold (λ b x. b + x) 0 p.items < top)
  sum_range_fits top few some k = fits_from_length g f 64 top (at_most_from_yields_List (YieldsList-from_range 0 n n e (omega arith)) (rw length-range_with_len few)) a some k
