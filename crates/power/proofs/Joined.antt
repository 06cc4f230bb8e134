-- The least of two wants together, and levels that are tight. Assumes nothing.
use Rattle.std.proofs.Common.{◌≡◌, ℕ, zero, suc, ◌+◌, ◌<◌, ◌≤◌, T, ap, inl, inr, le_antisymm, arith}
use Rattle.power.specs.Board.{Board, on_of, larger, good_plan}
use Rattle.power.specs.Aim.{Serves}
use Rattle.power.specs.Least.{lv, LeastJoins, Tight, LeastIsTight, TightIsLeast}
use Rattle.power.proofs.Larger.{larger_l, larger_r, larger_le, larger_one}
use Rattle.power.proofs.Lowest.{least_wanted, serves_least, least_asked, least_le, least_below, least_more, least_fifteen}

-- the larger of levels that serve serves
pub serves_larger : (b : Board) (f g : ℕ → ℕ) → Serves b f → Serves b g → Serves b (λ (x : ℕ). larger (f x) (g x))
serves_larger b f g s t x k h p i =
    let y = on_of k (b.needs x) in
    elim (larger_one (f x) (g x)) [
      | inl e ↦ rw e (omega (arith, s x k h (omega (arith, e)) i, larger_l (f y) (g y)))
      | inr e ↦ rw e (omega (arith, t x k h (omega (arith, e)) i, larger_r (f y) (g y)))
    ]

pub least_joins : LeastJoins
least_joins b f g p c x = le_antisymm (least_below b both top p low wants (serves_larger b (lv b f) (lv b g) (serves_least b f p) (serves_least b g p)) x) (larger_le (lv b f x) (lv b g x) (lv b both x) (of_f x) (of_g x))
  where
    both : ℕ → ℕ
    both z = larger (f z) (g z)

    top : ℕ → ℕ
    top z = larger (lv b f z) (lv b g z)

    of_f : (z : ℕ) → lv b f z ≤ lv b both z
    of_f = least_more b f both p (λ z h. larger_l (f z) (g z)) c

    of_g : (z : ℕ) → lv b g z ≤ lv b both z
    of_g = least_more b g both p (λ z h. larger_r (f z) (g z)) c

    low : (z : ℕ) → z < b.parts → top z ≤ 15
    low z h = larger_le (lv b f z) (lv b g z) 15 (omega (arith, of_f z, least_fifteen b both c z)) (omega (arith, of_g z, least_fifteen b both c z))

    wants : (z : ℕ) → z < b.parts → both z ≤ top z
    wants z h =
        larger_le (f z) (g z) (top z) (omega (arith, least_wanted b f z h, larger_l (lv b f z) (lv b g z))) (omega (arith, least_wanted b g z h, larger_r (lv b f z) (lv b g z)))

-- TIGHT
pub least_is_tight : LeastIsTight
least_is_tight b want g = record { wanted = least_wanted b want; needed = serves_least b want g; tight = least_le b want }

tight_from : (b : Board) (want f : ℕ → ℕ) → T (good_plan b) → Tight b want f → (d x : ℕ) → b.parts ≤ x + d → x < b.parts → f x ≡ lv b want x
tight_from b want f g t zero x e h = absurd (omega arith)
tight_from b want f g t (suc d) x e h =
    let again : (z : ℕ) → x < z → z < b.parts → f z ≡ lv b want z = λ z l j. tight_from b want f g t d z (omega arith) j in
    le_antisymm
    (t.tight x (lv b want x) h (least_wanted b want x h)
    (λ z k l j p i o. rw (again z l j) (omega (arith, least_asked b want g z k j i, ap (lv b want) o))))
    (least_le b want x (f x) h (t.wanted x h)
    (λ z k l j p i o. rw (← again z l j) (omega (arith, t.needed z k j (omega (arith, again z l j)) i, ap f o))))

pub tight_is_least : TightIsLeast
tight_is_least b want f g t x h = tight_from b want f g t b.parts x (omega arith) h
