-- Calls: why one is turned away, and what it makes of a board. Assumes nothing.
use Rattle.std.proofs.Common.{◌≡◌, ℕ, ◌<◌, ◌≤◌, cond, not, eqb, ◌≢◌, ◌∙◌, arith}
use Rattle.std.proofs.lemmas.Bool.{cond-true, cond-false, eq-eqb, ne_eqb}
use Rattle.std.proofs.lemmas.Bool.Decides.{nat_tests}
use Rattle.power.specs.Board.{Board, None', Asked, is_none, with_wish, why, called}
use Rattle.power.specs.declared.Call.{Call}
use Rattle.power.specs.declared.Call.TheVariants.{Want, Give}

pub why_no_such : (u x l : ℕ) (b : Board) → (u < 32 → x < b.parts → 0 < l → l ≤ 15 → ⊥) → 1 ≡ why (Want u x l) b
unfolding why
why_no_such u x l b h = grind (arith, nat_tests)

pub why_want : (u x l : ℕ) (b : Board) → u < 32 → x < b.parts → 0 < l → l ≤ 15 → cond (not (is_none (b.wish u))) 2 0 ≡ why (Want u x l) b
unfolding why
why_want u x l b h₁ h₂ h₃ h₄ = grind (arith, nat_tests)

pub why_nobody : (u : ℕ) (b : Board) → 32 ≤ u → 1 ≡ why (Give u) b
unfolding why
why_nobody u b h = grind (arith, nat_tests)

pub why_give : (u : ℕ) (b : Board) → u < 32 → cond (is_none (b.wish u)) 3 0 ≡ why (Give u) b
unfolding why
why_give u b h = grind (arith, nat_tests)

-- a call that is turned away changes nothing
pub called_away : (c : Call) (b : Board) (n : ℕ) → n ≡ why c b → n ≢ 0 → called c b ≡ b
unfolding called
called_away (Want u x l) b n e h = cond-false (eqb (why (Want u x l) b) 0) _ b (ne_eqb _ 0 (λ z. h (e ∙ z)))
called_away (Give u) b n e h = cond-false (eqb (why (Give u) b) 0) _ b (ne_eqb _ 0 (λ z. h (e ∙ z)))

pub called_want : (u x l : ℕ) (b : Board) → why (Want u x l) b ≡ 0 → called (Want u x l) b ≡ with_wish u (Asked x l 0) b
unfolding called
called_want u x l b e = cond-true (eqb (why (Want u x l) b) 0) _ b (eq-eqb _ 0 e)

pub called_give : (u : ℕ) (b : Board) → why (Give u) b ≡ 0 → called (Give u) b ≡ with_wish u None' b
unfolding called
called_give u b e = cond-true (eqb (why (Give u) b) 0) _ b (eq-eqb _ 0 e)
