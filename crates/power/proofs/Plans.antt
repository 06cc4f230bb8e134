-- What a plan that makes sense says of each need, and of what is drawn. Assumes nothing.
use Rattle.std.proofs.Common.{◌≡◌, ℕ, zero, suc, ◌<◌, ◌≤◌, ◌&&◌, T, eqb, ltb, leb, List, [], ◌∷◌, length, get_or, zero-le, le_of_suc-le-suc, not-suc-le-zero, arith, eqb→eq, ltb→lt, leb→le}
use Rattle.power.specs.Board.{Board, Need, on_of, least_of, most_of, all, least_at, rising, good_need, good_draw, good_plan, apart, draw_at}
use Rattle.power.proofs.Tests.{and_l, and_r, every_at}

-- what's `rising` never falls
pub rises : (xs : List ℕ) → T (rising xs) → (i j : ℕ) → i ≤ j → j < length xs → get_or xs i 0 ≤ get_or xs j 0
unfolding rising
rises [] t i j h l = absurd (not-suc-le-zero l)
rises (x ∷ []) t zero zero h l = omega arith
rises (x ∷ []) t zero (suc j) h l = absurd (not-suc-le-zero (le_of_suc-le-suc l))
rises (x ∷ []) t (suc i) zero h l = absurd (not-suc-le-zero h)
rises (x ∷ []) t (suc i) (suc j) h l = absurd (not-suc-le-zero (le_of_suc-le-suc l))
rises (x ∷ y ∷ xs) t zero zero h l = omega arith
rises (x ∷ y ∷ xs) t zero (suc j) h l =
    let r : y ≤ get_or (y ∷ xs) j 0 = rises (y ∷ xs) (and_r (leb x y) _ t) zero j zero-le (le_of_suc-le-suc l) in
    omega (arith, leb→le x y (and_l (leb x y) _ t))
rises (x ∷ y ∷ xs) t (suc i) zero h l = absurd (not-suc-le-zero h)
rises (x ∷ y ∷ xs) t (suc i) (suc j) h l = rises (y ∷ xs) (and_r (leb x y) _ t) i j (le_of_suc-le-suc h) (le_of_suc-le-suc l)

-- what a plan that makes sense says of the kth of the needs ns of the part x
pub record GoodAt (x : ℕ) (ns : List Need) (k : ℕ) : Type 0 where
  pub below : on_of k ns < x
  pub climbs : (l l' : ℕ) → l ≤ l' → l' < 16 → least_of k l ns ≤ least_of k l' ns
  pub zeroth : least_of k 0 ns ≡ 0
  pub first : 1 ≤ least_of k 1 ns
  pub fifteen : most_of k ns ≤ 15

good_need_lem : (x : ℕ) (n : Need) (ns : List Need) → T (good_need x n) → GoodAt x (n ∷ ns) 0
unfolding on_of least_of most_of
good_need_lem x n ns t =
    let a = n.least in
    let F = leb n.most 15 in
    let E = leb 1 (least_at n 1) in
    let D = eqb (least_at n 0) 0 in
    let C = rising a in
    let B = eqb (length a) 16 in
    let A = ltb n.on x in
    let t5 = and_l (A && B && C && D && E) F t in
    let t4 = and_l (A && B && C && D) E t5 in
    let t3 = and_l (A && B && C) D t4 in
    let t2 = and_l (A && B) C t3 in
    let len : length a ≡ 16 = eqb→eq (length a) 16 (and_r A B t2) in
    record {
      below = ltb→lt n.on x (and_l A B t2);
      climbs = λ l l' h h'. rises a (and_r (A && B) C t3) l l' h (omega arith);
      zeroth = eqb→eq (least_at n 0) 0 (and_r (A && B && C) D t4);
      first = leb→le 1 (least_at n 1) (and_r (A && B && C && D) E t5);
      fifteen = leb→le n.most 15 (and_r (A && B && C && D && E) F t);
    }

pub good_at : (x : ℕ) (ns : List Need) → T (all (good_need x) ns) → (k : ℕ) → k < length ns → GoodAt x ns k
unfolding all on_of least_of most_of
good_at x [] t k h = absurd (not-suc-le-zero h)
good_at x (n ∷ ns) t zero h = good_need_lem x n ns (and_l (good_need x n) _ t)
good_at x (n ∷ ns) t (suc k) h =
    let r = good_at x ns (and_r (good_need x n) _ t) k (le_of_suc-le-suc h) in
    record { below = r.below; climbs = r.climbs; zeroth = r.zeroth; first = r.first; fifteen = r.fifteen }

pub plan_at : (b : Board) → T (good_plan b) → (x : ℕ) → x < b.parts → (k : ℕ) → k < length (b.needs x) → GoodAt x (b.needs x) k
plan_at b t x h k l =
    let G = all (good_need x) (b.needs x) in
    let A = apart (b.needs x) in
    let L = leb (length (b.needs x)) 4 in
    let D = good_draw (b.draws x) in
    good_at x (b.needs x) (and_l G A (and_l (G && A) L (and_l (G && A && L) D (every_at b.parts _ t x h)))) k l

-- and of what it draws
pub record DrawsWell (b : Board) (x : ℕ) : Type 0 where
  pub zeroth : draw_at b x 0 ≡ 0
  pub climbs : (l l' : ℕ) → l ≤ l' → l' < 16 → draw_at b x l ≤ draw_at b x l'

pub plan_draws : (b : Board) → T (good_plan b) → (x : ℕ) → x < b.parts → DrawsWell b x
plan_draws b t x h =
    let N = all (good_need x) (b.needs x) && apart (b.needs x) && leb (length (b.needs x)) 4 in
    let ds = b.draws x in
    let A = eqb (length ds) 16 in
    let B = rising ds in
    let C = eqb (get_or ds 0 0) 0 in
    let g = and_r N (good_draw ds) (every_at b.parts _ t x h) in
    let len : length ds ≡ 16 = eqb→eq (length ds) 16 (and_l A B (and_l (A && B) C g)) in
    record {
      zeroth = eqb→eq (get_or ds 0 0) 0 (and_r (A && B) C g);
      climbs = λ l l' i j. rises ds (and_r A B (and_l (A && B) C g)) l l' i (omega arith);
    }

-- at a level from 1 to 15, each need is at 1 or more
pub least_one : (x : ℕ) (ns : List Need) (k l : ℕ) → GoodAt x ns k → 1 ≤ l → l < 16 → 1 ≤ least_of k l ns
least_one x ns k l g h h' = omega (arith, g.first, g.climbs 1 l h h')
