-- The data sheet's tests as plain facts, in the words of the trait: served, suits, needed, keeps. Assumes nothing.
use Rattle.std.proofs.Common.{◌≡◌, ℕ, ◌<◌, ◌≤◌, Bool, true, false, not, ◌&&◌, ◌||◌, T, eqb, leb, List, length, sym, refl, ap, ◌∙◌, subst, inl, inr, le→leb, eqb→eq, leb→le, T_not}
use lib.Dec.{not_T, eqb_refl}
use Rattle.power.specs.Board.{Board, Need, Part, Wish, None', Asked, Granted, on_of, least_of, most_of, is_off, is_on, level_of, all, served, suits, needed, keeps, granted_over}
use Rattle.power.specs.Sound.{Has}
use Rattle.power.proofs.Tests.{and_l, and_r, and_i, or_i, or_not, way, every_at, every_of, none_of, none_at, all_at, all_of}

pub not_not : (x : Bool) → T (not (not x)) → T x
not_not true t = tt
not_not false t = t

pub not_not_i : (x : Bool) → T x → T (not (not x))
not_not_i true t = tt
not_not_i false t = t

pub eq→eqb : (m n : ℕ) → m ≡ n → T (eqb m n)
eq→eqb m n e = subst (λ (j : ℕ). T (eqb m j)) e (eqb_refl m)

-- SERVED
served_one : (ℕ → Part) → ℕ → ℕ → (ℕ → ℕ) → ℕ → Bool
served_one f l o ls m = is_on (f o) && leb (ls l) (level_of (f o)) && leb (level_of (f o)) m

pub served_at : (f : ℕ → Part) (ns : List Need) (l : ℕ) → T (served f ns l) → (k : ℕ) → k < length ns → Has f ns k l
unfolding served_one
served_at f ns l t k h =
    let p = f (on_of k ns) in
    let A = is_on p in
    let B = leb (least_of k l ns) (level_of p) in
    let C = leb (level_of p) (most_of k ns) in
    let r = all_at (served_one f l) ns t k h in
    (and_l A B (and_l (A && B) C r), leb→le (least_of k l ns) (level_of p) (and_r A B (and_l (A && B) C r)), leb→le (level_of p) (most_of k ns) (and_r (A && B) C r))

pub served_of : (f : ℕ → Part) (ns : List Need) (l : ℕ) → ((k : ℕ) → k < length ns → Has f ns k l) → T (served f ns l)
unfolding served_one
served_of f ns l g =
    all_of (served_one f l) ns (λ k h.
    let p = f (on_of k ns) in
    let A = is_on p in
    let B = leb (least_of k l ns) (level_of p) in
    let C = leb (level_of p) (most_of k ns) in
    and_i (A && B) C (and_i A B (g k h).0 (le→leb (least_of k l ns) (level_of p) (g k h).1)) (le→leb (level_of p) (most_of k ns) (g k h).2))

-- SUITS
suits_one : ℕ → ℕ → ℕ → ℕ → (ℕ → ℕ) → ℕ → Bool
suits_one y v s o ls m = not (eqb o y) || (leb (ls s) v && leb v m)

pub suits_at : (b : Board) (y v : ℕ) → T (suits b y v) →
    (x k : ℕ) → x < b.parts → T (not (is_off (b.part x))) → k < length (b.needs x) → on_of k (b.needs x) ≡ y →
    (least_of k (level_of (b.part x)) (b.needs x) ≤ v) × (v ≤ most_of k (b.needs x))
unfolding suits_one
suits_at b y v t x k h off h' e =
    let ns = b.needs x in
    let o = on_of k ns in
    let s = level_of (b.part x) in
    let B = leb (least_of k s ns) v in
    let C = leb v (most_of k ns) in
    let a = or_not (is_off (b.part x)) _ (every_at b.parts _ t x h) off in
    let r = all_at (suits_one y v s) ns a k h' in
    let q = or_not (not (eqb o y)) (B && C) r (not_not_i (eqb o y) (eq→eqb o y e)) in
    (leb→le (least_of k s ns) v (and_l B C q), leb→le v (most_of k ns) (and_r B C q))

pub suits_of : (b : Board) (y v : ℕ) →
    ((x k : ℕ) → x < b.parts → T (not (is_off (b.part x))) → k < length (b.needs x) → on_of k (b.needs x) ≡ y →
    (least_of k (level_of (b.part x)) (b.needs x) ≤ v) × (v ≤ most_of k (b.needs x))) →
    T (suits b y v)
unfolding suits_one
suits_of b y v g =
    every_of b.parts _ (λ x h. or_i (is_off (b.part x)) _ (λ off.
    all_of (suits_one y v (level_of (b.part x))) (b.needs x) (λ k h'.
    let ns = b.needs x in
    let o = on_of k ns in
    let s = level_of (b.part x) in
    let B = leb (least_of k s ns) v in
    let C = leb v (most_of k ns) in
    or_i (not (eqb o y)) (B && C) (λ q.
    let r = g x k h off h' (eqb→eq o y (not_not (eqb o y) q)) in
    and_i B C (le→leb (least_of k s ns) v r.0) (le→leb v (most_of k ns) r.1)))))

-- NEEDED
needs_one : ℕ → ℕ → (ℕ → ℕ) → ℕ → Bool
needs_one y o ls m = not (eqb o y)

pub unneeded_at : (b : Board) (y : ℕ) → T (not (needed b y)) →
    (x k : ℕ) → x < b.parts → T (not (is_off (b.part x))) → k < length (b.needs x) → on_of k (b.needs x) ≡ y → ⊥
unfolding needs_one
unneeded_at b y t x k h off h' e =
    let ns = b.needs x in
    let o = on_of k ns in
    let N = all (λ (n : Need). not (eqb n.on y)) ns in
    elim (way N) [
      | inl a ↦ T_not (eqb o y) (all_at (needs_one y) ns a k h') (eq→eqb o y e)
      | inr a ↦ T_not (not (is_off (b.part x)) && not N) (none_at b.parts _ t x h) (and_i (not (is_off (b.part x))) (not N) off a)
    ]

pub unneeded_of : (b : Board) (y : ℕ) →
    ((x k : ℕ) → x < b.parts → T (not (is_off (b.part x))) → k < length (b.needs x) → on_of k (b.needs x) ≡ y → ⊥) →
    T (not (needed b y))
unfolding needs_one
unneeded_of b y g =
    none_of b.parts _ (λ x h.
    let ns = b.needs x in
    let N = all (λ (n : Need). not (eqb n.on y)) ns in
    let F = not (is_off (b.part x)) in
    not_T (F && not N) (λ q.
    T_not N (and_r F (not N) q)
    (all_of (needs_one y) ns (λ k h'. not_T (eqb (on_of k ns) y) (λ e. g x k h (and_l F (not N) q) h' (eqb→eq (on_of k ns) y e))))))

-- KEEPS
pub keeps_at : (b : Board) (x v : ℕ) → T (keeps b x v) → (u l : ℕ) → u < 32 → b.wish u ≡ Granted x l → l ≤ v
unfolding granted_over
keeps_at b x v t u l h e =
    let r : T (not (eqb x x) || leb l v) = subst (λ (w : Wish). T (granted_over x v w)) e (every_at 32 _ t u h) in
    leb→le l v (or_not (not (eqb x x)) (leb l v) r (not_not_i (eqb x x) (eqb_refl x)))

pub keeps_of : (b : Board) (x v : ℕ) → ((u l : ℕ) → u < 32 → b.wish u ≡ Granted x l → l ≤ v) → T (keeps b x v)
unfolding granted_over
keeps_of b x v g = every_of 32 _ (λ u h. go u h (b.wish u) refl)
  where
    go : (u : ℕ) → u < 32 → (w : Wish) → b.wish u ≡ w → T (granted_over x v w)
    go u h None' e = tt
    go u h (Asked y l a) e = tt
    go u h (Granted y l) e =
        or_i (not (eqb x y)) (leb l v) (λ q.
        let s : x ≡ y = eqb→eq x y (not_not (eqb x y) q) in
        le→leb l v (g u l h (e ∙ ap (λ (z : ℕ). Granted z l) (sym s))))
