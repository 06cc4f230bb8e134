-- The next step is allowed by the data sheet, down to a ceiling and up to a goal. Assumes nothing.
use Rattle.std.proofs.Common.{◌≡◌, ℕ, ◌+◌, ◌-◌, ◌<◌, ◌≤◌, not, T, eqb, length, refl, subst, arith}
use Rattle.power.specs.Board.{Board, Rising, On, on_of, least_of, most_of, is_off, is_on, level_of, MayRaise, MayLower, MayLevel}
use Rattle.power.specs.Aim.{Fits, Covers, Serves}
use Rattle.power.specs.Sound.{Has, Sound}
use Rattle.power.specs.Walk.{Below, Under, Reached, DownGoesOn, UpGoesOn}
use Rattle.power.proofs.Tests.{or_l, or_r}
use Rattle.power.proofs.Plans.{plan_at, least_one}
use Rattle.power.proofs.Draws.{draws_put}
use Rattle.power.proofs.Sheet.{served_of, suits_of, unneeded_of, keeps_of, eq→eqb}
use Rattle.power.proofs.OnePart.{on_off, not_off, high_on, level_rising, level_on}
use Rattle.power.proofs.SoundLevels.{level_range, level_top}

-- DOWN
module _ (b : Board) (t : ℕ → ℕ) (s : Sound b) (fit : Fits b t) (cov : Covers b t) (some : 0 < b.left) (y : ℕ) (hy : y < b.parts)
    (above : (z : ℕ) → y < z → z < b.parts → level_of (b.part z) ≤ t z) (high : t y < level_of (b.part y)) where
  -- what needs y and isn't off wants 1 of it at least, and no more than t y
  wants : (x k : ℕ) → x < b.parts → T (not (is_off (b.part x))) → k < length (b.needs x) → on_of k (b.needs x) ≡ y →
      (1 ≤ least_of k (level_of (b.part x)) (b.needs x)) × (least_of k (level_of (b.part x)) (b.needs x) ≤ t y)
  wants x k hx off hk e =
      let g = plan_at b s.plan x hx k hk in
      let r = level_range b s x hx off in
      let lx : level_of (b.part x) ≤ t x = above x (omega (arith, g.below)) hx in
      let pos : 0 < t x = omega arith in
      let tx : t x < 16 = omega (arith, fit.fifteen x hx) in
      let c = g.climbs (level_of (b.part x)) (t x) lx tx in
      let m : least_of k (t x) (b.needs x) ≤ t y = subst (λ (z : ℕ). least_of k (t x) (b.needs x) ≤ t z) e (fit.meets x k hx pos hk).0 in
      (least_one x (b.needs x) k (level_of (b.part x)) g r.0 (omega arith), omega arith)

  may_lower : t y ≡ 0 → MayLower b y
  may_lower z = (
    some,
    hy,
    not_off (b.part y) (omega arith),
    unneeded_of b y (λ x k hx off hk e. let w = wants x k hx off hk e in omega arith),
    keeps_of b y 0 (λ u l hu e. omega (arith, cov u y l hu e)),
  )

  may_level_down : 1 ≤ t y → MayLevel b y (level_of (b.part y) - 1)
  may_level_down h =
      let S = level_of (b.part y) in
      let v = S - 1 in
      let on : T (is_on (b.part y)) = high_on (b.part y) (omega arith) in
      let off = on_off (b.part y) on in
      let r = level_range b s y hy off in (
        some,
        hy,
        on,
        omega arith,
        omega arith,
        or_r (eqb v (S + 1)) (eqb (v + 1) S) (eq→eqb (v + 1) S (omega arith)),
        served_of b.part (b.needs y) v (λ k hk.
            let q = s.has y k hy off hk in
            let c = (plan_at b s.plan y hy k hk).climbs v S (omega arith) (omega arith) in
            (q.0, omega arith, q.2)),
        suits_of b y v (λ x k hx off' hk e.
            let w = wants x k hx off' hk e in
            let q = s.has x k hx off' hk in
            let m : S ≤ most_of k (b.needs x) = subst (λ (z : ℕ). level_of (b.part z) ≤ most_of k (b.needs x)) e q.2 in
            (omega arith, omega arith)),
        keeps_of b y v (λ u l hu e. omega (arith, cov u y l hu e)),
        draws_put b (λ z. level_of (b.part z)) s.plan (level_top b s) s.draws (λ z _. omega arith) y (On v) (omega (arith, level_on v)),
      )

pub down_goes_on : DownGoesOn
down_goes_on b t s fit cov some y hy above high = (may_lower b t s fit cov some y hy above high, may_level_down b t s fit cov some y hy above high)

-- UP
module _ (b : Board) (t l : ℕ → ℕ) (s : Sound b) (fit : Fits b t) (ser : Serves b l) (below : Below b t) (under : Under b l t) (some : 0 < b.left)
    (y : ℕ) (hy : y < b.parts) (through : (z : ℕ) → z < y → Reached b l z) where
  -- what y needs is on, high enough for any level up to l y, and not too high
  met : (v : ℕ) → v ≤ l y → 1 ≤ l y → (k : ℕ) → k < length (b.needs y) → Has b.part (b.needs y) k v
  met v hv h k hk =
      let ns = b.needs y in
      let z = on_of k ns in
      let g = plan_at b s.plan y hy k hk in
      let zy : z < y = g.below in
      let zp : z < b.parts = omega arith in
      let ly : l y ≤ 15 = omega (arith, under y hy, fit.fifteen y hy) in
      let one : 1 ≤ least_of k (l y) ns = least_one y ns k (l y) g h (omega arith) in
      let need : least_of k (l y) ns ≤ l z = ser y k hy h hk in
      let c : least_of k v ns ≤ least_of k (l y) ns = g.climbs v (l y) hv (omega arith) in
      let has : l z ≤ level_of (b.part z) = (through z zy).0 in
      let pos : 0 < l z = omega arith in
      let top : level_of (b.part z) ≤ t z = below z zp in
      let most : t z ≤ most_of k ns = (fit.meets y k hy (omega (arith, under y hy)) hk).1 in
      ((through z zy).1 pos, omega arith, omega arith)

  may_raise : T (is_off (b.part y)) → 1 ≤ l y → MayRaise b y
  may_raise off h = (some, hy, off, served_of b.part (b.needs y) 1 (met 1 h h), draws_put b t s.plan fit.fifteen fit.draws below y Rising (omega (arith, level_rising, under y hy)))

  may_level_up : T (is_on (b.part y)) → level_of (b.part y) < l y → MayLevel b y (level_of (b.part y) + 1)
  may_level_up on h =
      let S = level_of (b.part y) in
      let v = S + 1 in (
        some,
        hy,
        on,
        omega arith,
        omega (arith, under y hy, fit.fifteen y hy),
        or_l (eqb v (S + 1)) (eqb (v + 1) S) (eq→eqb v (S + 1) refl),
        served_of b.part (b.needs y) v (met v (omega arith) (omega arith)),
        suits_of b y v (λ x k hx off hk e.
            let q = s.has x k hx off hk in
            let r = level_range b s x hx off in
            let a : least_of k (level_of (b.part x)) (b.needs x) ≤ S = subst (λ (z : ℕ). least_of k (level_of (b.part x)) (b.needs x) ≤ level_of (b.part z)) e q.1 in
            let pos : 0 < t x = omega (arith, below x hx) in
            let m : t y ≤ most_of k (b.needs x) = subst (λ (z : ℕ). t z ≤ most_of k (b.needs x)) e (fit.meets x k hx pos hk).1 in
            (omega arith, omega (arith, under y hy))),
        keeps_of b y v (λ u w hu e. omega (arith, (s.holds u y w hu e).3)),
        draws_put b t s.plan fit.fifteen fit.draws below y (On v) (omega (arith, level_on v, under y hy)),
      )

pub up_goes_on : UpGoesOn
up_goes_on b t l s fit ser below under some y hy through =
    (may_raise b t l s fit ser below under some y hy through, may_level_up b t l s fit ser below under some y hy through)
