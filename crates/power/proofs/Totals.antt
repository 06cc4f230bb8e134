-- Totals over parts: their bound, one over another, and one part that changes. Assumes nothing.
use Rattle.std.proofs.Common.{◌≡◌, ℕ, zero, suc, ◌+◌, ◌*◌, ◌<◌, ◌≤◌, ◌≢◌, sym, refl, ap, inl, inr, mul-suc, arith}
use Rattle.std.proofs.lemmas.Bool.{cases_eq}
use Rattle.power.specs.Board.{total}

pub total_le : (n c : ℕ) (f : ℕ → ℕ) → ((x : ℕ) → x < n → f x ≤ c) → total n f ≤ c * n
unfolding total
total_le zero c f h = omega arith
total_le (suc n) c f h = omega (arith, total_le n c f (λ x l. h x (omega arith)), h n (omega arith), mul-suc c n)

-- f is nowhere above g
pub total_more : (n : ℕ) (f g : ℕ → ℕ) → ((x : ℕ) → x < n → f x ≤ g x) → total n f ≤ total n g
unfolding total
total_more zero f g h = omega arith
total_more (suc n) f g h = omega (arith, total_more n f g (λ x l. h x (omega arith)), h n (omega arith))

total_same : (n : ℕ) (f g : ℕ → ℕ) → ((j : ℕ) → j < n → g j ≡ f j) → total n g ≡ total n f
unfolding total
total_same zero f g h = refl
total_same (suc n) f g h = let r = total_same n f g (λ j lt. h j (omega arith)) in let q = h n (omega arith) in omega arith

-- g is f but at x
pub total_at : (n x : ℕ) (f g : ℕ → ℕ) → x < n → ((j : ℕ) → j ≢ x → g j ≡ f j) → total n g + f x ≡ total n f + g x
unfolding total
total_at zero x f g h rest = omega arith
total_at (suc n) x f g h rest =
    elim (cases_eq x n) [
      | inl e ↦ let r = total_same n f g (λ j lt. rest j (λ z. omega arith)) in let p = ap f e in let q = ap g e in omega arith
      | inr ne ↦ let r = total_at n x f g (omega arith) rest in let q = rest n (λ z. ne (sym z)) in omega arith
    ]
