-- Levels that serve, and levels that are allowed: the tests as plain facts, one way and back. Assumes nothing.
use Rattle.std.proofs.Common.{ℕ, zero, suc, ◌<◌, ◌≤◌, Bool, not, T, eqb, leb, length, inl, inr, arith, le→leb, eqb→eq, leb→le, T_not}
use lib.Dec.{eqb_refl}
use Rattle.power.specs.Board.{Board, on_of, least_of, most_of, drawn_at}
use Rattle.power.specs.Promise.{serves, allowed'}
use Rattle.power.specs.Aim.{Fits, Serves}
use Rattle.power.specs.Found.{needs_fit, parts_fit}
use Rattle.power.proofs.Tests.{and_l, and_r, and_i, or_i, or_not, way, every_at, every_of, all_at, all_of}

-- no part is below what's wanted of it
abbrev pub Wanted : Board → (want f : ℕ → ℕ) → Type 0
Wanted b want f = (x : ℕ) → x < b.parts → want x ≤ f x

-- none above 15, none above what a part that isn't off allows, and no more drawn than is given
pub record Allowed (b : Board) (f : ℕ → ℕ) : Type 0 where
  pub fifteen : (x : ℕ) → x < b.parts → f x ≤ 15
  pub under : (x k : ℕ) → x < b.parts → 0 < f x → k < length (b.needs x) → f (on_of k (b.needs x)) ≤ most_of k (b.needs x)
  pub draws : drawn_at b f ≤ b.gives

-- a level that isn't 0 fails the test for 0, and back
not_zero : (l : ℕ) → 0 < l → T (not (eqb l 0))
not_zero l h = elim (way (eqb l 0)) [ inl t ↦ absurd (omega (arith, eqb→eq l 0 t)) | inr t ↦ t ]

above_zero : (l : ℕ) → T (not (eqb l 0)) → 0 < l
above_zero zero t = absurd (T_not (eqb 0 0) t (eqb_refl 0))
above_zero (suc l) t = omega arith

-- of a need of a part at level l: it's as high as that part needs; it's no higher than that part allows
asks : (ℕ → ℕ) → ℕ → ℕ → (ℕ → ℕ) → ℕ → Bool
asks f l o ls m = leb (ls l) (f o)

allows : (ℕ → ℕ) → ℕ → (ℕ → ℕ) → ℕ → Bool
allows f o ls m = leb (f o) m

-- SERVES
pub serves_plainly : (b : Board) (want f : ℕ → ℕ) → T (serves b want f) → Wanted b want f × Serves b f
unfolding asks
serves_plainly b want f t = (
  λ x h. leb→le (want x) (f x) (and_l (leb (want x) (f x)) _ (every_at b.parts _ t x h)),
  λ x k h p i.
      leb→le (least_of k (f x) (b.needs x)) (f (on_of k (b.needs x)))
      (all_at (asks f (f x)) (b.needs x) (or_not (eqb (f x) 0) _ (and_r (leb (want x) (f x)) _ (every_at b.parts _ t x h)) (not_zero (f x) p)) k i),
)

pub serves_of : (b : Board) (want f : ℕ → ℕ) → Wanted b want f → Serves b f → T (serves b want f)
unfolding asks
serves_of b want f w s =
    every_of b.parts _
    (λ x h.
    and_i (leb (want x) (f x)) _ (le→leb (want x) (f x) (w x h))
    (or_i (eqb (f x) 0) _ (λ p. all_of (asks f (f x)) (b.needs x) (λ k i. le→leb (least_of k (f x) (b.needs x)) (f (on_of k (b.needs x))) (s x k h (above_zero (f x) p) i)))))

-- ALLOWED: of one part, then of all
pub needs_fit_at : (b : Board) (f : ℕ → ℕ) (x : ℕ) → T (needs_fit b f x) → (k : ℕ) → k < length (b.needs x) → f (on_of k (b.needs x)) ≤ most_of k (b.needs x)
unfolding allows
needs_fit_at b f x t k i = leb→le (f (on_of k (b.needs x))) (most_of k (b.needs x)) (all_at (allows f) (b.needs x) t k i)

pub needs_fit_of : (b : Board) (f : ℕ → ℕ) (x : ℕ) → ((k : ℕ) → k < length (b.needs x) → f (on_of k (b.needs x)) ≤ most_of k (b.needs x)) → T (needs_fit b f x)
unfolding allows
needs_fit_of b f x h = all_of (allows f) (b.needs x) (λ k i. le→leb (f (on_of k (b.needs x))) (most_of k (b.needs x)) (h k i))

pub allowed_plainly : (b : Board) (f : ℕ → ℕ) → T (allowed' b f) → Allowed b f
allowed_plainly b f t =
    let D = leb (drawn_at b f) b.gives in
    let each = every_at b.parts _ (and_l (parts_fit b f) D t) in
    record {
      fifteen = λ x h. leb→le (f x) 15 (and_l (leb (f x) 15) _ (each x h));
      under = λ x k h p i. needs_fit_at b f x (or_not (eqb (f x) 0) _ (and_r (leb (f x) 15) _ (each x h)) (not_zero (f x) p)) k i;
      draws = leb→le (drawn_at b f) b.gives (and_r (parts_fit b f) D t);
    }

pub allowed_of : (b : Board) (f : ℕ → ℕ) → Allowed b f → T (allowed' b f)
allowed_of b f a =
    and_i (parts_fit b f) (leb (drawn_at b f) b.gives)
    (every_of b.parts _
    (λ x h.
    and_i (leb (f x) 15) _ (le→leb (f x) 15 (a.fifteen x h)) (or_i (eqb (f x) 0) _ (λ p. needs_fit_of b f x (λ k i. a.under x k h (above_zero (f x) p) i)))))
    (le→leb (drawn_at b f) b.gives a.draws)

-- FITS: both
pub fits_both : (b : Board) (f : ℕ → ℕ) → Serves b f → Allowed b f → Fits b f
fits_both b f s a = record { fifteen = a.fifteen; meets = λ x k h p i. (s x k h p i, a.under x k h p i); draws = a.draws }

pub fits_serves : (b : Board) (f : ℕ → ℕ) → Fits b f → Serves b f
fits_serves b f t x k h p i = (t.meets x k h p i).0
