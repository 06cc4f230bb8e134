-- What is still to be asked: its bound, and that each asking on the way takes one off. Assumes nothing.
use Rattle.std.proofs.Common.{◌≡◌, ℕ, ◌+◌, ◌-◌, ◌<◌, ◌≤◌, Bool, cond, T, eqb, ltb, ◌≢◌, sym, refl, ap, ◌∙◌, subst, ap₂, arith}
use Rattle.std.proofs.lemmas.Bool.{cond_both, cond-true, cond-false, ne_eqb, lt-ltb}
use Rattle.power.specs.Board.{Board, total, Part, Off, Rising, On, is_off, is_on, is_rising, level_of, put, with_parts, Tries, good, not_yet, raised, lowered, levelled}
use Rattle.power.specs.Cost.{cost, costs, height, CostIsBounded, EachAskingPays}
use Rattle.power.proofs.Puts.{put_here, put_other}
use Rattle.power.proofs.Totals.{total_le, total_at}
use Rattle.power.proofs.SoundLevels.{level_top}

-- ONE PART
cost_le : (p : Part) (n l : ℕ) → l ≤ 15 → ((v : ℕ) → p ≡ On v → v ≤ 15) → cost p n l ≤ 79
unfolding cost
cost_le Off n l h r = cond_both (eqb l 0) 0 (64 + l) (λ x. x ≤ 79) (λ e. omega arith) (λ e. omega arith)
cost_le Rising n l h r = cond_both (eqb l 0) 1 ((64 - n) + (l - 1)) (λ x. x ≤ 79) (λ e. omega arith) (λ e. omega arith)
cost_le (On v) n l h r = omega (arith, r v refl)

cost_off : (p : Part) (n l : ℕ) → T (is_off p) → 1 ≤ l → cost p n l ≡ 64 + l
unfolding cost is_off
cost_off Off n l s h = cond-false (eqb l 0) 0 (64 + l) (ne_eqb l 0 (λ e. omega arith))
cost_off Rising n l s h = absurd s
cost_off (On v) n l s h = absurd s

cost_rising : (p : Part) (n l : ℕ) → T (is_rising p) → 1 ≤ l → cost p n l ≡ (64 - n) + (l - 1)
unfolding cost is_rising
cost_rising Off n l s h = absurd s
cost_rising Rising n l s h = cond-false (eqb l 0) 1 ((64 - n) + (l - 1)) (ne_eqb l 0 (λ e. omega arith))
cost_rising (On v) n l s h = absurd s

cost_on : (p : Part) (n l : ℕ) → T (is_on p) → cost p n l ≡ (level_of p - l) + (l - level_of p)
unfolding cost is_on level_of
cost_on Off n l s = absurd s
cost_on Rising n l s = absurd s
cost_on (On v) n l s = refl

cost_none : (n : ℕ) → cost Off n 0 ≡ 0
unfolding cost
cost_none n = refl

cost_some : (p : Part) (n : ℕ) → 0 < level_of p → 0 < cost p n 0
unfolding cost level_of
cost_some Off n h = h
cost_some Rising n h = omega arith
cost_some (On v) n h = omega arith

-- ALL PARTS
pub cost_is_bounded : CostIsBounded
cost_is_bounded b s few = (
  λ l h. omega (arith, total_le b.parts 79 (λ x. cost (b.part x) (b.tried x) (l x)) (λ x hx. cost_le (b.part x) (b.tried x) (l x) (h x hx) (λ v e. (s.range x v hx e).1))),
  omega (arith, total_le b.parts 15 (λ x. level_of (b.part x)) (λ x hx. level_top b s x hx)),
)

module _ (b : Board) (l : ℕ → ℕ) (x : ℕ) (hx : x < b.parts) where
  -- only x changes, and costs less
  pays : (f : ℕ → Part) (t : ℕ → ℕ) → cost (f x) (t x) (l x) < cost (b.part x) (b.tried x) (l x) →
      ((z : ℕ) → z ≢ x → f z ≡ b.part z) → ((z : ℕ) → z ≢ x → t z ≡ b.tried z) →
      total b.parts (λ z. cost (f z) (t z) (l z)) < costs b l
  pays f t h e d =
      omega (
        arith,
        total_at b.parts x (λ z. cost (b.part z) (b.tried z) (l z)) (λ z. cost (f z) (t z) (l z)) hx
            (λ z ne. ap₂ (λ (p : Part) (n : ℕ). cost p n (l z)) (e z ne) (d z ne)),
      )

  pays_put : (p : Part) (t : ℕ → ℕ) (n : ℕ) → t x ≡ n → cost p n (l x) < cost (b.part x) (b.tried x) (l x) →
      ((z : ℕ) → z ≢ x → t z ≡ b.tried z) → costs (with_parts (put x p b.part) t b) l < costs b l
  pays_put p t n e h d =
      let q : cost (put x p b.part x) (t x) (l x) ≡ cost p n (l x) = ap₂ (λ (p : Part) (n : ℕ). cost p n (l x)) (put_here x p b.part) e in
      pays (put x p b.part) t (omega arith) (put_other x p b.part) d

  cost_raised : T (is_off (b.part x)) → 1 ≤ l x → costs (raised x b) l < costs b l
  cost_raised off h =
      pays_put Rising (put x 0 b.tried) 0 (put_here x 0 b.tried)
      (omega (arith, cost_off (b.part x) (b.tried x) (l x) off h, cost_rising Rising 0 (l x) (unfold is_rising in tt) h))
      (put_other x 0 b.tried)

  cost_good : T (is_rising (b.part x)) → b.tried x < 64 → 1 ≤ l x → costs (with_parts (put x (On 1) b.part) b.tried b) l < costs b l
  cost_good r h h' =
      let q : cost (On 1) (b.tried x) (l x) ≡ (1 - l x) + (l x - 1) = unfold cost in refl in
      pays_put (On 1) b.tried (b.tried x) refl (omega (arith, cost_rising (b.part x) (b.tried x) (l x) r h')) (λ z ne. refl)

  cost_not_yet : T (is_rising (b.part x)) → b.tried x < 64 → 1 ≤ l x →
      costs (with_parts b.part (put x (cond (ltb (b.tried x) 64) (b.tried x + 1) 64) b.tried) b) l < costs b l
  cost_not_yet r h h' =
      let n = cond (ltb (b.tried x) 64) (b.tried x + 1) 64 in
      let t = put x n b.tried in
      let e : t x ≡ b.tried x + 1 = put_here x n b.tried ∙ cond-true (ltb (b.tried x) 64) (b.tried x + 1) 64 (lt-ltb (b.tried x) 64 h) in
      pays b.part t (omega (arith, e, cost_rising (b.part x) (b.tried x) (l x) r h', cost_rising (b.part x) (t x) (l x) r h')) (λ z ne. refl) (put_other x n b.tried)

  cost_tries : (r : Bool) (b' : Board) → b.tried x < 64 → 1 ≤ l x → Tries b x r b' → costs b' l < costs b l
  cost_tries r b' h h' (good t) = cost_good t h h'
  cost_tries r b' h h' (not_yet t) = cost_not_yet t h h'

  cost_lowered : 0 < level_of (b.part x) → l x ≡ 0 → costs (lowered x b) l < costs b l
  cost_lowered h e =
      let a : cost Off 0 (l x) ≡ 0 = ap (λ (k : ℕ). cost Off 0 k) e ∙ cost_none 0 in
      let c : 0 < cost (b.part x) (b.tried x) (l x) = subst (λ (k : ℕ). 0 < cost (b.part x) (b.tried x) k) (sym e) (cost_some (b.part x) (b.tried x) h) in
      pays_put Off (put x 0 b.tried) 0 (put_here x 0 b.tried) (omega arith) (put_other x 0 b.tried)

  -- a level nearer to l
  cost_levelled : (v : ℕ) → T (is_on (b.part x)) → (v - l x) + (l x - v) < (level_of (b.part x) - l x) + (l x - level_of (b.part x)) → costs (levelled x v b) l < costs b l
  cost_levelled v on h =
      let q : cost (On v) (b.tried x) (l x) ≡ (v - l x) + (l x - v) = unfold cost in refl in
      pays_put (On v) b.tried (b.tried x) refl (omega (arith, cost_on (b.part x) (b.tried x) (l x) on)) (λ z ne. refl)

pub each_asking_pays : EachAskingPays
each_asking_pays b l x hx = (
  cost_raised b l x hx,
  cost_tries b l x hx,
  cost_lowered b l x hx,
  (λ on h. cost_levelled b l x hx (level_of (b.part x) - 1) on (omega arith)),
  (λ on h. cost_levelled b l x hx (level_of (b.part x) + 1) on (omega arith)),
)

-- the height falls where a part gets lower
pub height_put : (b : Board) (x : ℕ) (p : Part) (t : ℕ → ℕ) → x < b.parts → level_of p < level_of (b.part x) → height (with_parts (put x p b.part) t b) < height b
height_put b x p t hx h =
    omega (arith, ap level_of (put_here x p b.part), total_at b.parts x (λ z. level_of (b.part z)) (λ z. level_of (put x p b.part z)) hx (λ z ne. ap level_of (put_other x p b.part z ne)))
