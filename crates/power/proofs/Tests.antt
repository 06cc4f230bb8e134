-- The board's tests as plain facts: `&&`, `||`, `every`, `some'` and `all`, one way and back.
-- A test of each need is stated by index, in the words of the trait `Parts`. Assumes nothing.
use Rattle.std.proofs.Common.{◌≡◌, ℕ, zero, suc, ◌<◌, Bool, true, false, not, ◌&&◌, ◌||◌, T, ◌⊎◌, List, [], ◌∷◌, length, refl, subst, inl, inr, le_of_suc-le-suc, not-suc-le-zero, arith, T_not}
use Rattle.std.proofs.lemmas.Bool.{cases_lt}
use Rattle.power.specs.Board.{Need, on_of, least_of, most_of, every, some', all, least_at}

pub and_l : (x y : Bool) → T (x && y) → T x
and_l true y t = tt
and_l false y t = t

pub and_r : (x y : Bool) → T (x && y) → T y
and_r true y t = t
and_r false y t = absurd t

pub and_i : (x y : Bool) → T x → T y → T (x && y)
and_i true y s t = t
and_i false y s t = s

pub or_e : (x y : Bool) → T (x || y) → T x ⊎ T y
or_e true y t = inl tt
or_e false y t = inr t

pub or_l : (x y : Bool) → T x → T (x || y)
or_l true y t = tt
or_l false y t = absurd t

pub or_r : (x y : Bool) → T y → T (x || y)
or_r true y t = tt
or_r false y t = t

-- which way a test goes
pub way : (x : Bool) → T x ⊎ T (not x)
way true = inl tt
way false = inr tt

-- x || y from: y where x fails
pub or_i : (x y : Bool) → (T (not x) → T y) → T (x || y)
or_i true y f = tt
or_i false y f = f tt

-- and y where x || y holds and x fails
pub or_not : (x y : Bool) → T (x || y) → T (not x) → T y
or_not true y t n = absurd n
or_not false y t n = t

pub nor_i : (x y : Bool) → T (not x) → T (not y) → T (not (x || y))
nor_i true y s t = s
nor_i false y s t = t

pub nor_l : (x y : Bool) → T (not (x || y)) → T (not x)
nor_l true y t = t
nor_l false y t = tt

pub nor_r : (x y : Bool) → T (not (x || y)) → T (not y)
nor_r true y t = absurd t
nor_r false y t = t

pub every_at : (n : ℕ) (f : ℕ → Bool) → T (every n f) → (k : ℕ) → k < n → T (f k)
unfolding every
every_at zero f t k h = absurd (not-suc-le-zero h)
every_at (suc n) f t k h =
    elim (cases_lt k n) [
      | inl l ↦ every_at n f (and_l (every n f) (f n) t) k l
      | inr g ↦ let e : n ≡ k = omega arith in subst (λ (j : ℕ). T (f j)) e (and_r (every n f) (f n) t)
    ]

pub every_of : (n : ℕ) (f : ℕ → Bool) → ((k : ℕ) → k < n → T (f k)) → T (every n f)
unfolding every
every_of zero f g = tt
every_of (suc n) f g = and_i (every n f) (f n) (every_of n f (λ k h. g k (omega arith))) (g n (omega arith))

pub none_of : (n : ℕ) (f : ℕ → Bool) → ((k : ℕ) → k < n → T (not (f k))) → T (not (some' n f))
unfolding some'
none_of zero f g = tt
none_of (suc n) f g = nor_i (some' n f) (f n) (none_of n f (λ k h. g k (omega arith))) (g n (omega arith))

pub none_at : (n : ℕ) (f : ℕ → Bool) → T (not (some' n f)) → (k : ℕ) → k < n → T (not (f k))
unfolding some'
none_at zero f t k h = absurd (not-suc-le-zero h)
none_at (suc n) f t k h =
    elim (cases_lt k n) [
      | inl l ↦ none_at n f (nor_l (some' n f) (f n) t) k l
      | inr g ↦ let e : n ≡ k = omega arith in subst (λ (j : ℕ). T (not (f j))) e (nor_r (some' n f) (f n) t)
    ]

pub some_of : (n : ℕ) (f : ℕ → Bool) (k : ℕ) → k < n → T (f k) → T (some' n f)
some_of n f k h t =
    elim (way (some' n f)) [ inl s ↦ s | inr s ↦ absurd (T_not (f k) (none_at n f s k h) t) ]

pub some_at : (n : ℕ) (f : ℕ → Bool) → T (some' n f) → (k : ℕ) × (k < n) × T (f k)
unfolding some'
some_at zero f t = absurd t
some_at (suc n) f t =
    elim (or_e (some' n f) (f n) t) [
      | inl s ↦ let r = some_at n f s in (r.0, omega (arith, r.1), r.2)
      | inr s ↦ (n, omega arith, s)
    ]

-- A test of each need, that asks only what `Parts` tells of a need: `g` takes the part, its least by level, and its most.
pub all_at : (g : ℕ → (ℕ → ℕ) → ℕ → Bool) (ns : List Need) → T (all (λ (n : Need). g n.on (λ (l : ℕ). least_at n l) n.most) ns) →
    (k : ℕ) → k < length ns → T (g (on_of k ns) (λ (l : ℕ). least_of k l ns) (most_of k ns))
unfolding all on_of least_of most_of
all_at g [] t k h = absurd (not-suc-le-zero h)
all_at g (n ∷ ns) t zero h = and_l (g n.on (λ (l : ℕ). least_at n l) n.most) _ t
all_at g (n ∷ ns) t (suc k) h = all_at g ns (and_r (g n.on (λ (l : ℕ). least_at n l) n.most) _ t) k (le_of_suc-le-suc h)

pub all_of : (g : ℕ → (ℕ → ℕ) → ℕ → Bool) (ns : List Need) →
    ((k : ℕ) → k < length ns → T (g (on_of k ns) (λ (l : ℕ). least_of k l ns) (most_of k ns))) →
    T (all (λ (n : Need). g n.on (λ (l : ℕ). least_at n l) n.most) ns)
unfolding all on_of least_of most_of
all_of g [] f = tt
all_of g (n ∷ ns) f = and_i (g n.on (λ (l : ℕ). least_at n l) n.most) _ (f 0 (omega arith)) (all_of g ns (λ k h. f (suc k) (omega arith)))

-- a test's value, from what it says
pub is_true : (x : Bool) → T x → true ≡ x
is_true true t = refl
is_true false t = absurd t

pub is_false : (x : Bool) → (T x → ⊥) → false ≡ x
is_false true f = absurd (f tt)
is_false false f = refl
