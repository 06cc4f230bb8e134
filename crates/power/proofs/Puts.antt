-- A function with one place put anew, and a list with one place set: there, elsewhere, and both together. Assumes nothing.
use Rattle.std.proofs.Common.{◌≡◌, ℕ, ◌<◌, Bool, cond, ◌≢◌, List, length, get_or, set, sym, refl, ap, subst, inl, inr, get_or-set_other, get_or-set_same}
use Rattle.std.proofs.lemmas.Bool.{cases_eq, eq-eqb, ne_eqb}
use Rattle.power.specs.Board.{put}

pub put_same : {A : Type 0} (x : ℕ) (y : A) (f : ℕ → A) (j : ℕ) → j ≡ x → put x y f j ≡ y
put_same x y f j e = ap (λ (t : Bool). cond t y (f j)) (eq-eqb j x e)

pub put_here : {A : Type 0} (x : ℕ) (y : A) (f : ℕ → A) → put x y f x ≡ y
put_here x y f = put_same x y f x refl

pub put_other : {A : Type 0} (x : ℕ) (y : A) (f : ℕ → A) (j : ℕ) → j ≢ x → put x y f j ≡ f j
put_other x y f j ne = ap (λ (t : Bool). cond t y (f j)) (ne_eqb j x ne)

-- what holds at the place anew and at the others holds at each
pub put_each : {A : Type 0} (P : ℕ → A → Type 0) (x : ℕ) (y : A) (f : ℕ → A) (z : ℕ) → (z ≡ x → P z y) → (z ≢ x → P z (f z)) → P z (put x y f z)
put_each P x y f z here there =
    elim (cases_eq z x) [
      | inl e ↦ subst (P z) (sym (put_same x y f z e)) (here e)
      | inr ne ↦ subst (P z) (sym (put_other x y f z ne)) (there ne)
    ]

-- a list set at x goes on saying of f' what it said of f, where f' is f but at x
pub set_each :
    {S V : Type 0} (R : S → V → Type 0) (d : S) (xs : List S) (f f' : ℕ → V) (x : ℕ) (s : S) →
    x < length xs → ((j : ℕ) → R (get_or xs j d) (f j)) → R s (f' x) → ((j : ℕ) → j ≢ x → f' j ≡ f j) →
    (j : ℕ) → R (get_or (set xs x s) j d) (f' j)
set_each R d xs f f' x s h all here rest j =
    elim (cases_eq j x) [
      | inl e ↦ subst (λ (i : ℕ). R (get_or (set xs x s) i d) (f' i)) (sym e) (rw get_or-set_same here)
      | inr ne ↦ rw (get_or-set_other, rest j ne) (all j)
    ]
