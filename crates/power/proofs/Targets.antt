-- A ceiling and a goal go on being what to aim at: after a walk, a tick, and a call of anybody. Assumes nothing.
use Rattle.std.proofs.Common.{◌≡◌, ℕ, ◌<◌, ◌≤◌, List, length, get_or, sym, ap, ◌∙◌, subst, arith}
use Rattle.power.specs.Board.{Board, Need, Wish, Granted, on_of, least_of, most_of, total, drawn_at, with_wish, ticked}
use Rattle.power.specs.Aim.{Fits}
use Rattle.power.specs.Moves.{OnlyParts, Targets}
use Rattle.power.proofs.Puts.{put_each}
use Rattle.power.proofs.OneWish.{older_granted}

-- they ask only of the plan, and of what was granted
drawn_only : (b b' : Board) (t : ℕ → ℕ) → OnlyParts b b' → drawn_at b t ≤ b.gives → drawn_at b' t ≤ b'.gives
drawn_only b b' t o h =
    let D : ℕ → (ℕ → List ℕ) → ℕ = λ n ds. total n (λ x. get_or (ds x) (t x) 0) in
    let p : drawn_at b' t ≡ D b.parts b'.draws = ap (λ (n : ℕ). D n b'.draws) o.parts in
    let q : D b.parts b'.draws ≡ drawn_at b t = ap (λ (ds : ℕ → List ℕ). D b.parts ds) o.draws in
    omega (arith, p ∙ q, o.gives)

pub fits_only : (b b' : Board) (t : ℕ → ℕ) → OnlyParts b b' → Fits b t → Fits b' t
fits_only b b' t o f =
    record {
      fifteen = λ x hx. f.fifteen x (omega (arith, o.parts));
      meets = subst (λ (ns : ℕ → List Need). (x k : ℕ) → x < b'.parts → 0 < t x → k < length (ns x) → (least_of k (t x) (ns x) ≤ t (on_of k (ns x))) × (t (on_of k (ns x)) ≤ most_of k (ns x)))
          (sym o.needs) (λ x k hx. f.meets x k (omega (arith, o.parts)));
      draws = drawn_only b b' t o f.draws;
    }

pub targets_only : (b b' : Board) (t l : ℕ → ℕ) → OnlyParts b b' → Targets b t l → Targets b' t l
targets_only b b' t l o a =
    record {
      fits = fits_only b b' t o a.fits;
      covers = subst (λ (w : ℕ → Wish). (u x l : ℕ) → u < 32 → w u ≡ Granted x l → l ≤ t x) (sym o.wish) a.covers;
      serves = subst (λ (ns : ℕ → List Need). (x k : ℕ) → x < b'.parts → 0 < l x → k < length (ns x) → least_of k (l x) (ns x) ≤ l (on_of k (ns x)))
          (sym o.needs) (λ x k hx. a.serves x k (omega (arith, o.parts)));
      under = λ z hz. a.under z (omega (arith, o.parts));
    }

pub targets_ticked : (b : Board) (t l : ℕ → ℕ) → Targets b t l → Targets (ticked b) t l
targets_ticked b t l a =
    record {
      fits = record { fifteen = a.fits.fifteen; meets = a.fits.meets; draws = a.fits.draws };
      covers = λ u x v hu e. a.covers u x v hu (older_granted (b.wish u) x v e);
      serves = a.serves;
      under = a.under;
    }

-- a wish that isn't granted covers nothing
pub targets_wish : (b : Board) (t l : ℕ → ℕ) (u : ℕ) (w : Wish) → ((x v : ℕ) → w ≡ Granted x v → ⊥) → Targets b t l → Targets (with_wish u w b) t l
targets_wish b t l u w n a =
    record {
      fits = record { fifteen = a.fits.fifteen; meets = a.fits.meets; draws = a.fits.draws };
      covers = λ i x v hi. put_each (λ (j : ℕ) (z : Wish). z ≡ Granted x v → v ≤ t x) u w b.wish i (λ _ e. absurd (n x v e)) (λ _ e. a.covers i x v hi e);
      serves = a.serves;
      under = a.under;
    }
