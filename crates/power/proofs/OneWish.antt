-- What one user wants: none, asked and granted are apart, and what a tick makes of them. Assumes nothing.
use Rattle.std.proofs.Common.{◌≡◌, ℕ, ◌+◌, sym, arith}
use Rattle.power.specs.Board.{Wish, None', Asked, Granted, older}

pub granted_asked : (x l y m a : ℕ) → Granted x l ≡ Asked y m a → ⊥
granted_asked x l y m a e = let z : ◌≡◌ {A = ℕ} 0 1 = cc in omega arith

pub none_granted : (x l : ℕ) → None' ≡ Granted x l → ⊥
none_granted x l e = let z : ◌≡◌ {A = ℕ} 0 1 = cc in omega arith

pub none_asked : (x l a : ℕ) → None' ≡ Asked x l a → ⊥
none_asked x l a e = let z : ◌≡◌ {A = ℕ} 0 1 = cc in omega arith

pub older_granted : (w : Wish) (x l : ℕ) → older w ≡ Granted x l → w ≡ Granted x l
unfolding older
older_granted None' x l e = e
older_granted (Asked y m a) x l e = absurd (granted_asked x l y m (a + 1) (sym e))
older_granted (Granted y m) x l e = e

-- what's asked after a tick was asked before it, a tick less ago
pub older_asked : (w : Wish) (x l a : ℕ) → older w ≡ Asked x l a → (c : ℕ) × (w ≡ Asked x l c) × (a ≡ c + 1)
unfolding older
older_asked None' x l a e = absurd (none_asked x l a e)
older_asked (Asked y m c) x l a e = let p : y ≡ x = cc in let q : m ≡ l = cc in (c, cc, cc)
older_asked (Granted y m) x l a e = absurd (granted_asked y m x l a e)
