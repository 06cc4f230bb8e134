-- What's asked of a part, by its bounds: by one part's needs, by all the parts after it; and so the least levels. Assumes nothing.
use Rattle.std.proofs.Common.{◌≡◌, ℕ, zero, suc, ◌+◌, ◌<◌, ◌≤◌, cond, eqb, List, [], ◌∷◌, length, get_or, refl, ap, le_of_suc-le-suc, not-suc-le-zero, arith}
use Rattle.std.proofs.lemmas.Bool.{cond_both, cond-true, cond-false, eq-eqb, ne_eqb, eqb-true, eqb-false}
use Rattle.power.specs.Board.{Need, on_of, least_of, least_at, larger, asked_of, from_above, and_below, levels}
use Rattle.power.proofs.Larger.{larger_l, larger_r, larger_le}

-- BY ONE PART, at level l, of y
pub asked_at : (y l : ℕ) (ns : List Need) (k : ℕ) → k < length ns → on_of k ns ≡ y → least_of k l ns ≤ asked_of y l ns
unfolding asked_of on_of least_of
asked_at y l [] k h e = absurd (not-suc-le-zero h)
asked_at y l (n ∷ ns) zero h e =
    rw (cond-true (eqb n.on y) (larger (asked_of y l ns) (least_at n l)) (asked_of y l ns) (eq-eqb n.on y e)) (larger_r (asked_of y l ns) (least_at n l))
asked_at y l (n ∷ ns) (suc k) h e =
    let r = asked_at y l ns k (le_of_suc-le-suc h) e in
    cond_both (eqb n.on y) (larger (asked_of y l ns) (least_at n l)) (asked_of y l ns) (λ (m : ℕ). least_of k l ns ≤ m)
    (λ s. omega (arith, larger_l (asked_of y l ns) (least_at n l)))
    (λ s. r)

pub asked_le : (y l : ℕ) (ns : List Need) (m : ℕ) → ((k : ℕ) → k < length ns → on_of k ns ≡ y → least_of k l ns ≤ m) → asked_of y l ns ≤ m
unfolding asked_of on_of least_of
asked_le y l [] m h = omega arith
asked_le y l (n ∷ ns) m h =
    let r = asked_le y l ns m (λ k i e. h (suc k) (omega arith) e) in
    cond_both (eqb n.on y) (larger (asked_of y l ns) (least_at n l)) (asked_of y l ns) (λ (z : ℕ). z ≤ m)
    (λ s. larger_le (asked_of y l ns) (least_at n l) m r (h 0 (omega arith) (eqb-true n.on y s)))
    (λ s. r)

-- BY THE PARTS from x on, at levels ls, of y; w is the ith of them
pub above_at : (needs : ℕ → List Need) (y x : ℕ) (ls : List ℕ) (i w : ℕ) → w ≡ x + i → i < length ls → 0 < get_or ls i 0 → asked_of y (get_or ls i 0) (needs w) ≤ from_above needs y x ls
unfolding from_above
above_at needs y x [] i w e h p = absurd (not-suc-le-zero h)
above_at needs y x (l ∷ ls) zero w e h p =
    let a = cond (eqb l 0) 0 (asked_of y l (needs x)) in
    let s : a ≡ asked_of y l (needs x) = cond-false (eqb l 0) 0 (asked_of y l (needs x)) (ne_eqb l 0 (λ z. omega arith)) in
    let v : w ≡ x = omega arith in
    rw v (omega (arith, larger_l a (from_above needs y (suc x) ls)))
above_at needs y x (l ∷ ls) (suc i) w e h p =
    omega (arith, larger_r (cond (eqb l 0) 0 (asked_of y l (needs x))) (from_above needs y (suc x) ls), above_at needs y (suc x) ls i w (omega arith) (omega arith) p)

pub above_le : (needs : ℕ → List Need) (y x : ℕ) (ls : List ℕ) (m : ℕ) →
    ((i w : ℕ) → w ≡ x + i → i < length ls → 0 < get_or ls i 0 → asked_of y (get_or ls i 0) (needs w) ≤ m) → from_above needs y x ls ≤ m
unfolding from_above
above_le needs y x [] m h = omega arith
above_le needs y x (l ∷ ls) m h =
    larger_le (cond (eqb l 0) 0 (asked_of y l (needs x))) (from_above needs y (suc x) ls) m
    (cond_both (eqb l 0) 0 (asked_of y l (needs x)) (λ (z : ℕ). z ≤ m) (λ s. omega arith) (λ s. h zero x (omega arith) (omega arith) (omega (arith, eqb-false l 0 s))))
    (above_le needs y (suc x) ls m (λ i w e g p. h (suc i) w (omega arith) (omega arith) p))

-- THE LEAST LEVELS of k parts from y on; z is the ith of them, and w the jth
module _ (needs : ℕ → List Need) (want : ℕ → ℕ) where
  pub length_levels : (k y : ℕ) → length (levels k needs want y) ≡ k
  unfolding levels and_below
  length_levels zero y = refl
  length_levels (suc k) y = ap suc (length_levels k (suc y))

  pub levels_wanted : (k y i z : ℕ) → z ≡ y + i → i < k → want z ≤ get_or (levels k needs want y) i 0
  unfolding levels and_below
  levels_wanted zero y i z e h = absurd (not-suc-le-zero h)
  levels_wanted (suc k) y zero z e h = let v : z ≡ y = omega arith in rw v (larger_l (want y) (from_above needs y (suc y) (levels k needs want (suc y))))
  levels_wanted (suc k) y (suc i) z e h = levels_wanted k (suc y) i z (omega arith) (omega arith)

  pub levels_asked : (k y i j z w : ℕ) → z ≡ y + i → w ≡ y + j → i < j → j < k → 0 < get_or (levels k needs want y) j 0 →
      asked_of z (get_or (levels k needs want y) j 0) (needs w) ≤ get_or (levels k needs want y) i 0
  unfolding levels and_below
  levels_asked zero y i j z w e f h g p = absurd (not-suc-le-zero g)
  levels_asked (suc k) y i zero z w e f h g p = absurd (not-suc-le-zero h)
  levels_asked (suc k) y zero (suc j) z w e f h g p =
      let ls = levels k needs want (suc y) in
      let v : z ≡ y = omega arith in
      let q = above_at needs y (suc y) ls j w (omega arith) (omega (arith, length_levels k (suc y))) p in
      rw v (omega (arith, q, larger_r (want y) (from_above needs y (suc y) ls)))
  levels_asked (suc k) y (suc i) (suc j) z w e f h g p = levels_asked k (suc y) i j z w (omega arith) (omega arith) (omega arith) (omega arith) p

  pub levels_le : (k y i z m : ℕ) → z ≡ y + i → i < k → want z ≤ m →
      ((j w : ℕ) → w ≡ y + j → i < j → j < k → 0 < get_or (levels k needs want y) j 0 → asked_of z (get_or (levels k needs want y) j 0) (needs w) ≤ m) →
      get_or (levels k needs want y) i 0 ≤ m
  unfolding levels and_below
  levels_le zero y i z m e h p q = absurd (not-suc-le-zero h)
  levels_le (suc k) y zero z m e h p q =
      let ls = levels k needs want (suc y) in
      let v : z ≡ y = omega arith in
      larger_le (want y) (from_above needs y (suc y) ls) m (rw v at p)
      (above_le needs y (suc y) ls m (λ j w f l r. rw v at (q (suc j) w (omega arith) (omega arith) (omega (arith, length_levels k (suc y))) r)))
  levels_le (suc k) y (suc i) z m e h p q =
      levels_le k (suc y) i z m (omega arith) (omega arith) p (λ j w f l g r. q (suc j) w (omega arith) (omega arith) (omega arith) r)

-- only what's wanted of these parts counts
pub levels_same : (needs : ℕ → List Need) (want also : ℕ → ℕ) (k y : ℕ) → ((z : ℕ) → y ≤ z → z < y + k → want z ≡ also z) → levels k needs want y ≡ levels k needs also y
unfolding levels and_below
levels_same needs want also zero y h = refl
levels_same needs want also (suc k) y h =
    let e = levels_same needs want also k (suc y) (λ z l g. h z (omega arith) (omega arith)) in
    let d = h y (omega arith) (omega arith) in
    rw (d, e)
