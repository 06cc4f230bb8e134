-- The least levels: they serve, they're below all that serve, and they fit where what's wanted can be. Assumes nothing.
use Rattle.std.proofs.Common.{◌≡◌, ℕ, zero, suc, ◌+◌, ◌<◌, ◌≤◌, not, T, length, refl, ap, inl, inr, arith, leb→le, T_not}
use lib.Dec.{not_T}
use Rattle.std.proofs.lemmas.List.{get_or_past}
use Rattle.std.proofs.lemmas.Bool.{cases_lt, cases_eq}
use Rattle.power.specs.Board.{Board, on_of, least_of, least_levels, can_be, good_plan}
use Rattle.power.specs.Promise.{serves, LeastServes, LeastIsLeast, MoreIsMore, CannotBe}
use Rattle.power.specs.Aim.{Fits, Serves}
use Rattle.power.specs.Least.{lv, FewerCanBe}
use Rattle.power.proofs.Tests.{every_at}
use Rattle.power.proofs.Plans.{plan_at}
use Rattle.power.proofs.Draws.{draws_less}
use Rattle.power.proofs.Asked.{asked_at, asked_le, length_levels, levels_wanted, levels_asked, levels_le}
use Rattle.power.proofs.Plain.{Wanted, serves_plainly, serves_of, allowed_plainly, allowed_of, fits_both, fits_serves}

-- WHAT IT IS
pub least_past : (b : Board) (want : ℕ → ℕ) (x : ℕ) → b.parts ≤ x → lv b want x ≡ 0
least_past b want x h = get_or_past (least_levels b want) x 0 (omega (arith, length_levels b.needs want b.parts 0))

pub least_wanted : (b : Board) (want : ℕ → ℕ) → Wanted b want (lv b want)
least_wanted b want x h = levels_wanted b.needs want b.parts 0 x x (omega arith) h

pub serves_least : (b : Board) (want : ℕ → ℕ) → T (good_plan b) → Serves b (lv b want)
serves_least b want g x k h p i =
    let y = on_of k (b.needs x) in
    omega (
      arith,
      asked_at y (lv b want x) (b.needs x) k i refl,
      levels_asked b.needs want b.parts 0 y x y x (omega arith) (omega arith) (plan_at b g x h k i).below h p,
    )

-- the same of a part that is off too, as it needs nothing
pub least_asked : (b : Board) (want : ℕ → ℕ) → T (good_plan b) → (x k : ℕ) → x < b.parts → k < length (b.needs x) → least_of k (lv b want x) (b.needs x) ≤ lv b want (on_of k (b.needs x))
least_asked b want g x k h i =
    elim (cases_eq (lv b want x) 0) [
      | inl z ↦ omega (arith, ap (λ (l : ℕ). least_of k l (b.needs x)) z, (plan_at b g x h k i).zeroth)
      | inr p ↦ serves_least b want g x k h (omega arith) i
    ]

-- and no higher than that
pub least_le : (b : Board) (want : ℕ → ℕ) (y m : ℕ) → y < b.parts → want y ≤ m →
    ((x k : ℕ) → y < x → x < b.parts → 0 < lv b want x → k < length (b.needs x) → on_of k (b.needs x) ≡ y → least_of k (lv b want x) (b.needs x) ≤ m) →
    lv b want y ≤ m
least_le b want y m h p q =
    levels_le b.needs want b.parts 0 y y m (omega arith) h p
    (λ x w e l g r. let v : w ≡ x = omega arith in rw v (asked_le y (lv b want x) (b.needs x) m (λ k i o. q x k l g r i o)))

-- IT'S LEAST, from the last part to the first
below_from : (b : Board) (want f : ℕ → ℕ) → T (good_plan b) → ((x : ℕ) → x < b.parts → f x ≤ 15) → Wanted b want f → Serves b f →
    (d x : ℕ) → b.parts ≤ x + d → x < b.parts → lv b want x ≤ f x
below_from b want f g c w s zero x e h = absurd (omega arith)
below_from b want f g c w s (suc d) x e h =
    least_le b want x (f x) h (w x h)
    (λ z k l j p i o.
    let r = below_from b want f g c w s d z (omega arith) j in
    let v = c z j in
    omega (arith, (plan_at b g z j k i).climbs (lv b want z) (f z) r (omega arith), s z k j (omega arith) i, ap f o))

pub least_below : (b : Board) (want f : ℕ → ℕ) → T (good_plan b) → ((x : ℕ) → x < b.parts → f x ≤ 15) → Wanted b want f → Serves b f → (x : ℕ) → lv b want x ≤ f x
least_below b want f g c w s x =
    elim (cases_lt x b.parts) [
      | inl h ↦ below_from b want f g c w s b.parts x (omega arith) h
      | inr h ↦ omega (arith, least_past b want x h)
    ]

-- IT FITS where what's wanted can be
pub fits_least : (b : Board) (want : ℕ → ℕ) → T (good_plan b) → T (can_be b want) → Fits b (lv b want)
fits_least b want g c = fits_both b (lv b want) (serves_least b want g) (allowed_plainly b (lv b want) c)

pub least_fifteen : (b : Board) (want : ℕ → ℕ) → T (can_be b want) → (x : ℕ) → lv b want x ≤ 15
least_fifteen b want c x =
    elim (cases_lt x b.parts) [
      | inl h ↦ (allowed_plainly b (lv b want) c).fifteen x h
      | inr h ↦ omega (arith, least_past b want x h)
    ]

-- and it can be where any levels fit that are as high as what's wanted
pub can_by : (b : Board) (want f : ℕ → ℕ) → T (good_plan b) → Wanted b want f → Fits b f → T (can_be b want)
can_by b want f g w t =
    let u = least_below b want f g t.fifteen w (fits_serves b f t) in
    allowed_of b (lv b want)
    (record {
      fifteen = λ x h. omega (arith, u x, t.fifteen x h);
      under = λ x k h p i. omega (arith, u (on_of k (b.needs x)), (t.meets x k h (omega (arith, u x)) i).1);
      draws = omega (arith, draws_less b (lv b want) f g (λ x h. u x) t.fifteen, t.draws);
    })

-- MORE AND LESS
pub least_more : (b : Board) (want more : ℕ → ℕ) → T (good_plan b) → Wanted b want more → T (can_be b more) → (x : ℕ) → lv b want x ≤ lv b more x
least_more b want more g w c x =
    least_below b want (lv b more) g (λ z h. least_fifteen b more c z) (λ z h. omega (arith, w z h, least_wanted b more z h)) (serves_least b more g) x

pub can_less : FewerCanBe
can_less b want more g w c =
    can_by b want (lv b more) g (λ x h. omega (arith, w x h, least_wanted b more x h)) (fits_least b more g c)

pub cannot_more : (b : Board) (want more : ℕ → ℕ) → T (good_plan b) → Wanted b want more → T (not (can_be b want)) → T (not (can_be b more))
cannot_more b want more g w n = not_T (can_be b more) (λ c. T_not (can_be b want) n (can_less b want more g w c))

-- WHAT IS PROMISED
-- whether it can be or not
pub always_serves : (b : Board) (want : ℕ → ℕ) → T (good_plan b) → T (serves b want (lv b want))
always_serves b want g = serves_of b want (lv b want) (least_wanted b want) (serves_least b want g)

pub least_serves : LeastServes
least_serves b want g low c = always_serves b want g

pub least_is_least : LeastIsLeast
least_is_least b want f g low s x h =
    let p = serves_plainly b want f s in
    least_below b want f g (λ z k. leb→le (f z) 15 (every_at b.parts _ low z k)) p.0 p.1 x

pub more_is_more : MoreIsMore
more_is_more b want more g w c x h = least_more b want more g (λ z k. w z) c x

pub cannot_be : CannotBe
cannot_be b want f g s a =
    let p = serves_plainly b want f s in
    can_by b want f g p.0 (fits_both b f p.1 (allowed_plainly b f a))
