-- The sweep from the last part to the first: its start, a turn, and its end at a level above 15. Assumes nothing.
use Rattle.std.proofs.Common.{◌≡◌, ℕ, ◌+◌, ◌<◌, ◌≤◌, not, T, eqb, length, refl, ap, ◌∙◌, inl, inr, le_antisymm, arith}
use lib.Dec.{not_T}
use Rattle.std.proofs.lemmas.Bool.{cases_eq, cond-true, cond-false, eq-eqb, ne_eqb}
use Rattle.power.specs.Board.{Board, larger, and_also, on_of, least_of, good_plan, can_be}
use Rattle.power.specs.Least.{lv}
use Rattle.power.specs.Found.{Pushed}
use Rattle.power.proofs.Larger.{larger_l, larger_r, larger_le}
use Rattle.power.proofs.Plans.{plan_at}
use Rattle.power.proofs.Lowest.{least_wanted, least_asked, least_le, least_past, least_fifteen}

-- the parts from y on are at the least, up to 15, and have pushed what they need; no part is above the least
pub record Sweeping (b : Board) (want f : ℕ → ℕ) (y : ℕ) : Type 0 where
  pub same : (x : ℕ) → y ≤ x → f x ≡ lv b want x
  pub low : (x : ℕ) → y ≤ x → f x ≤ 15
  pub under : (x : ℕ) → f x ≤ lv b want x
  pub asks : (x k : ℕ) → y ≤ x → x < b.parts → k < length (b.needs x) → least_of k (lv b want x) (b.needs x) ≤ f (on_of k (b.needs x))

pub sweeping_none : (b : Board) (want f : ℕ → ℕ) (y : ℕ) → b.parts ≤ y → ((x : ℕ) → f x ≡ 0) → Sweeping b want f y
sweeping_none b want f y h z =
    record {
      same = λ x i. omega (arith, z x, least_past b want x (omega arith));
      low = λ x i. omega (arith, z x);
      under = λ x. omega (arith, z x);
      asks = λ x k i l j. absurd (omega arith);
    }

-- a turn at p, from levels f: with w wanted of it they're u, and with all that it needs pushed they're `to`
module _ (b : Board) (want f u : ℕ → ℕ) (g : T (good_plan b)) (y p : ℕ) (e : y ≡ p + 1) (h : p < b.parts) (s : Sweeping b want f y) (w : ℕ) (ew : w ≡ want p) (also : (z : ℕ) → u z ≡ and_also f p w z) where
  this : u p ≡ larger w (f p)
  this = also p ∙ cond-true (eqb p p) (larger w (f p)) (f p) (eq-eqb p p refl)

  other : (z : ℕ) → (z ≡ p → ⊥) → u z ≡ f z
  other z d = also z ∙ cond-false (eqb z p) (larger w (f z)) (f z) (ne_eqb z p d)

  -- p is at the least now
  pub here_is : u p ≡ lv b want p
  here_is =
      le_antisymm
      (omega (arith, this, larger_le w (f p) (lv b want p) (omega (arith, least_wanted b want p h)) (s.under p)))
      (least_le b want p (u p) h (omega (arith, this, larger_l w (f p)))
      (λ x k l i q j o. omega (arith, s.asks x k (omega arith) i j, ap f o, this, larger_r w (f p))))

  up : (z : ℕ) → f z ≤ u z
  up z =
      elim (cases_eq z p) [
        | inl d ↦ rw d (omega (arith, this, larger_r w (f p)))
        | inr d ↦ omega (arith, other z d)
      ]

  still : (z : ℕ) → u z ≤ lv b want z
  still z =
      elim (cases_eq z p) [
        | inl d ↦ rw d (omega (arith, here_is))
        | inr d ↦ omega (arith, other z d, s.under z)
      ]

  from_p : (x : ℕ) → p ≤ x → u x ≡ lv b want x
  from_p x i =
      elim (cases_eq x p) [
        | inl d ↦ rw d here_is
        | inr d ↦ other x d ∙ s.same x (omega arith)
      ]

  pub sweeping_more : (l : ℕ) → l ≡ u p → l ≤ 15 → (to : ℕ → ℕ) → Pushed (b.needs p) l (length (b.needs p)) u to → Sweeping b want to p
  sweeping_more l el le to q =
      record {
        same = is;
        low = λ x i. elim (cases_eq x p) [
          | inl d ↦ omega (arith, is x i, from_p x i, ap u d)
          | inr d ↦ omega (arith, is x i, s.same x (omega arith), s.low x (omega arith))
        ];
        under = λ x.
            q.only x (lv b want x) (still x)
            (λ j i o. omega (arith, least_asked b want g p j h i, ap (λ (m : ℕ). least_of j m (b.needs p)) (el ∙ here_is), ap (lv b want) o));
        asks = λ x k i n j. elim (cases_eq x p) [
          | inl d ↦ rw d (asked k (rw d at j))
          | inr d ↦ omega (arith, s.asks x k (omega arith) n j, up (on_of k (b.needs x)), q.more (on_of k (b.needs x)))
        ];
      }
    where
      is : (x : ℕ) → p ≤ x → to x ≡ lv b want x
      is x i = omega (arith, from_p x i, q.more x, q.only x (u x) (omega arith) (λ j n o. absurd (omega (arith, (plan_at b g p h j n).below))))

      asked : (k : ℕ) → k < length (b.needs p) → least_of k (lv b want p) (b.needs p) ≤ to (on_of k (b.needs p))
      asked k j = omega (arith, q.asks k j, ap (λ (m : ℕ). least_of k m (b.needs p)) (el ∙ here_is))

  pub too_high : (l : ℕ) → l ≡ u p → 15 < l → T (not (can_be b want))
  too_high l el hi = not_T (can_be b want) (λ c. omega (arith, here_is, least_fifteen b want c p))
