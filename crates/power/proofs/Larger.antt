-- The larger of two numbers, the most of many, what's granted, and one want more: each by its bounds. Assumes nothing.
use Rattle.std.proofs.Common.{◌≡◌, ℕ, zero, suc, ◌<◌, ◌≤◌, eqb, ltb, ◌⊎◌, sym, refl, ap, ◌∙◌, subst, inl, inr, not-suc-le-zero, arith, eq-eqb, eqb-true}
use Rattle.std.proofs.lemmas.Bool.{cases_lt, cond_both, cond-true}
use Rattle.std.proofs.lemmas.Bool.Decides.{nat_tests}
use Rattle.power.specs.Board.{Board, Wish, None', Asked, Granted, larger, most, want_of, granted, and_also}

pub larger_l : (a b : ℕ) → a ≤ larger a b
larger_l a b = grind (arith, nat_tests)

pub larger_r : (a b : ℕ) → b ≤ larger a b
larger_r a b = grind (arith, nat_tests)

pub larger_le : (a b c : ℕ) → a ≤ c → b ≤ c → larger a b ≤ c
larger_le a b c h k = grind (arith, nat_tests)

-- it's one of them
pub larger_one : (a b : ℕ) → (larger a b ≡ a) ⊎ (larger a b ≡ b)
larger_one a b = cond_both (ltb a b) b a (λ (x : ℕ). (x ≡ a) ⊎ (x ≡ b)) (λ e. inr refl) (λ e. inl refl)

pub most_at : (n : ℕ) (f : ℕ → ℕ) (u : ℕ) → u < n → f u ≤ most n f
unfolding most
most_at zero f u h = absurd (not-suc-le-zero h)
most_at (suc n) f u h =
    elim (cases_lt u n) [
      | inl l ↦ omega (arith, most_at n f u l, larger_l (most n f) (f n))
      | inr g ↦
          let e : n ≡ u = omega arith in
          subst (λ (j : ℕ). f j ≤ larger (most n f) (f n)) e (larger_r (most n f) (f n))
    ]

pub most_le : (n : ℕ) (f : ℕ → ℕ) (c : ℕ) → ((u : ℕ) → u < n → f u ≤ c) → most n f ≤ c
unfolding most
most_le zero f c h = omega arith
most_le (suc n) f c h = larger_le (most n f) (f n) c (most_le n f c (λ u l. h u (omega arith))) (h n (omega arith))

-- WHAT'S GRANTED
pub granted_at : (b : Board) (u x l : ℕ) → u < 32 → b.wish u ≡ Granted x l → l ≤ granted b x
unfolding want_of
granted_at b u x l hu e =
    let h : want_of x (b.wish u) ≡ l = ap (want_of x) e ∙ cond-true (eqb x x) l 0 (eq-eqb x x refl) in
    omega (arith, most_at 32 (λ v. want_of x (b.wish v)) u hu)

pub granted_le : (b : Board) (x c : ℕ) → ((u l : ℕ) → u < 32 → b.wish u ≡ Granted x l → l ≤ c) → granted b x ≤ c
unfolding want_of
granted_le b x c g = most_le 32 (λ u. want_of x (b.wish u)) c (λ u hu. go u hu (b.wish u) refl)
  where
    go : (u : ℕ) → u < 32 → (w : Wish) → b.wish u ≡ w → want_of x w ≤ c
    go u hu None' e = omega arith
    go u hu (Asked y l a) e = omega arith
    go u hu (Granted y l) e =
        cond_both (eqb x y) l 0 (λ (z : ℕ). z ≤ c)
        (λ d. g u l hu (e ∙ ap (λ (z : ℕ). Granted z l) (sym (eqb-true x y d))))
        (λ d. omega arith)

-- ONE WANT MORE
pub and_also_more : (f : ℕ → ℕ) (x l y : ℕ) → f y ≤ and_also f x l y
and_also_more f x l y = grind (arith, nat_tests)

pub and_also_this : (f : ℕ → ℕ) (x l : ℕ) → l ≤ and_also f x l x
and_also_this f x l = grind (arith, nat_tests)

pub and_also_le : (f : ℕ → ℕ) (x l y c : ℕ) → f y ≤ c → (x ≡ y → l ≤ c) → and_also f x l y ≤ c
and_also_le f x l y c h q = grind (arith, nat_tests)

-- what was wanted, and x at l alone, together
pub and_also_both : (f : ℕ → ℕ) (x l y : ℕ) → and_also f x l y ≡ larger (f y) (and_also (λ (z : ℕ). 0) x l y)
and_also_both f x l y = grind (arith, nat_tests)

pub and_also_alone : (f : ℕ → ℕ) (x l y : ℕ) → and_also (λ (z : ℕ). 0) x l y ≤ and_also f x l y
and_also_alone f x l y = grind (arith, nat_tests)
