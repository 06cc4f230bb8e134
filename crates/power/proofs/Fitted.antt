-- Whether levels fit what the parts allow, as code finds out; and the least that it found. Assumes nothing.
use Rattle.std.proofs.Common.{◌≡◌, ℕ, ◌<◌, ◌≤◌, Bool, true, false, not, ◌||◌, T, eqb, leb, List, length, get_or, replicate, Result, sym, ap, ◌∙◌, subst, le→leb, leb→le}
use mathlib.Core.Path.{fun_ext}
use Rattle.power.specs.declared.types.Levels.{Levels}
use Rattle.power.specs.declared.types.CantBe.{CantBe}
use Rattle.power.specs.declared.types.Aims.{Aims}
use Rattle.power.specs.Board.{Board, every, on_of, most_of, and_also, can_be}
use Rattle.power.specs.Promise.{allowed'}
use Rattle.power.specs.Least.{lv}
use Rattle.power.specs.Found.{needs_fit, parts_fit, Finds, FindsAims}
use Rattle.power.proofs.Tests.{and_r, and_i, every_at, every_of, is_false}
use Rattle.power.proofs.Plain.{needs_fit_at, needs_fit_of}
use Rattle.power.proofs.Ranges.{same_test}
use Rattle.power.proofs.Shown.{get_d_same}

-- OF ONE PART
pub needs_fit_each : (b : Board) (f : ℕ → ℕ) (x : ℕ) → every (length (b.needs x)) (λ (k : ℕ). leb (f (on_of k (b.needs x))) (most_of k (b.needs x))) ≡ needs_fit b f x
needs_fit_each b f x =
    let ns = b.needs x in
    same_test (every (length ns) (λ (k : ℕ). leb (f (on_of k ns)) (most_of k ns))) (needs_fit b f x)
    (λ t. needs_fit_of b f x (λ k i. leb→le (f (on_of k ns)) (most_of k ns) (every_at (length ns) _ t k i)))
    (λ t. every_of (length ns) _ (λ k i. le→leb (f (on_of k ns)) (most_of k ns) (needs_fit_at b f x t k i)))

-- OF ALL
pub parts_fit_each : (b : Board) (f : ℕ → ℕ) → ((x : ℕ) → f x ≤ 15) → every b.parts (λ (x : ℕ). eqb (f x) 0 || needs_fit b f x) ≡ parts_fit b f
parts_fit_each b f l =
    same_test (every b.parts (λ (x : ℕ). eqb (f x) 0 || needs_fit b f x)) (parts_fit b f)
    (λ t. every_of b.parts _ (λ x i. and_i (leb (f x) 15) _ (le→leb (f x) 15 (l x)) (every_at b.parts _ t x i)))
    (λ t. every_of b.parts _ (λ x i. and_r (leb (f x) 15) _ (every_at b.parts _ t x i)))

-- of any levels
pub one_unfit : (b : Board) (f : ℕ → ℕ) (x : ℕ) (r : Bool) → x < b.parts → r ≡ (eqb (f x) 0 || needs_fit b f x) → r ≡ false → false ≡ parts_fit b f
one_unfit b f x r i e n =
    is_false (parts_fit b f) (λ t. let no : T false = subst T (sym e ∙ n) (and_r (leb (f x) 15) _ (every_at b.parts _ t x i)) in no)

-- OF THE LEAST: it's allowed exactly where what's wanted can be
allowed_least : (b : Board) (want f : ℕ → ℕ) → ((x : ℕ) → f x ≡ lv b want x) → allowed' b f ≡ can_be b want
allowed_least b want f e = ap (allowed' b) (fun_ext e)

pub can : (b : Board) (want f : ℕ → ℕ) (r : Bool) → ((x : ℕ) → f x ≡ lv b want x) → r ≡ allowed' b f → r ≡ true → T (can_be b want)
can b want f r e d t = subst T (sym t ∙ d ∙ allowed_least b want f e) tt

pub cannot : (b : Board) (want f : ℕ → ℕ) (r : Bool) → ((x : ℕ) → f x ≡ lv b want x) → r ≡ allowed' b f → r ≡ false → T (not (can_be b want))
cannot b want f r e d t = subst (λ (q : Bool). T (not q)) (sym t ∙ d ∙ allowed_least b want f e) tt

-- only what's wanted matters, not how it's said
pub finds_same : (b : Board) (want also : ℕ → ℕ) (r : Result Levels CantBe) → ((x : ℕ) → want x ≡ also x) → Finds b want r → Finds b also r
finds_same b want also r e f = subst (λ (w : ℕ → ℕ). Finds b w r) (fun_ext e) f

pub finds_aims_same : (b : Board) (g also : ℕ → ℕ) (x l : ℕ) (r : Result Aims CantBe) → ((y : ℕ) → g y ≡ also y) → FindsAims b g x l r → FindsAims b also x l r
finds_aims_same b g also x l r e f = subst (λ (w : ℕ → ℕ). FindsAims b w x l r) (fun_ext e) f

-- x at l, over a table with all parts off
pub alone_at : (ls : List ℕ) (x l : ℕ) → ls ≡ replicate 64 0 → (z : ℕ) → and_also (λ (y : ℕ). get_or ls y 0) x l z ≡ and_also (λ (y : ℕ). 0) x l z
alone_at ls x l e z = ap (λ (f : ℕ → ℕ). and_also f x l z) (fun_ext (λ (y : ℕ). ap (λ (k : List ℕ). get_or k y 0) e ∙ get_d_same 64 0 y))
