-- Wishes as they grow older, one after another.
use Rattle.std.proofs.Common.{◌≡◌, ℕ, zero, suc, Bool, ◌||◌, List, [], ◌∷◌, length, get_or, sym, refl, ap, ◌∙◌, arith}
use Rattle.std.proofs.Math.Bool.{or-false, or_assoc}
use Rattle.std.specs.List.{list_any}
use Rattle.power.specs.Board.{some'}

some_front : (n : ℕ) (f : ℕ → Bool) → some' (suc n) f ≡ (f 0 || some' n (λ k. f (suc k)))
unfolding some'
some_front zero f = sym (or-false (f 0))
some_front (suc n) f = ap (λ (b : Bool). b || f (suc n)) (some_front n f) ∙ or_assoc (f 0) (some' n (λ k. f (suc k))) (f (suc n))

-- a test of some element of a list is one of some place in it
pub some_listed : {A : Type 0} (f : A → Bool) (d : A) (xs : List A) (n : ℕ) → length xs ≡ n → list_any f xs ≡ some' n (λ k. f (get_or xs k d))
unfolding some'
some_listed f d [] zero e = refl
some_listed f d [] (suc n) e = absurd (omega arith)
some_listed f d (x ∷ xs) zero e = absurd (omega arith)
some_listed f d (x ∷ xs) (suc n) e = ap (λ (b : Bool). f x || b) (some_listed f d xs n (omega arith)) ∙ sym (some_front n (λ k. f (get_or (x ∷ xs) k d)))
