-- What a call that isn't turned away asks, and what it does to the board. Assumes nothing.
use Rattle.std.proofs.Common.{◌≡◌, ℕ, ◌<◌, ◌≤◌, sym, ap, ◌∙◌, arith, eq-eqb, ne_eqb}
use Rattle.std.proofs.lemmas.Bool.Decides.{nat_tests}
use Rattle.power.specs.declared.Call.{Call}
use Rattle.power.specs.declared.Call.TheVariants.{Want, Give}
use Rattle.power.specs.Board.{Board, None', Asked, why, called, with_wish}

-- what is turned away changes nothing
pub away : (c : Call) (b : Board) → (why c b ≡ 0 → ⊥) → b ≡ called c b
unfolding called
away (Want u x l) b n = rw (ne_eqb (why (Want u x l) b) 0 n)
away (Give u) b n = rw (ne_eqb (why (Give u) b) 0 n)

pub want_taken : (u x l : ℕ) (b : Board) → why (Want u x l) b ≡ 0 → with_wish u (Asked x l 0) b ≡ called (Want u x l) b
unfolding called
want_taken u x l b e = rw (eq-eqb (why (Want u x l) b) 0 e)

pub give_taken : (u : ℕ) (b : Board) → why (Give u) b ≡ 0 → with_wish u None' b ≡ called (Give u) b
unfolding called
give_taken u b e = rw (eq-eqb (why (Give u) b) 0 e)

pub want_bounds : (u x l : ℕ) (b : Board) → why (Want u x l) b ≡ 0 → (u < 32) × (x < b.parts) × (1 ≤ l) × (l ≤ 15)
unfolding why
want_bounds u x l b e = (grind (arith, nat_tests), grind (arith, nat_tests), grind (arith, nat_tests), grind (arith, nat_tests))

pub give_bounds : (u : ℕ) (b : Board) → why (Give u) b ≡ 0 → u < 32
unfolding why
give_bounds u b e = grind (arith, nat_tests)

-- the number that a call was answered by is that of the call which it is
pub why_is : (c k : Call) (b : Board) (n : ℕ) → c ≡ k → n ≡ why c b → n ≡ 0 → why k b ≡ 0
why_is c k b n e w z = ap (λ (d : Call). why d b) (sym e) ∙ sym w ∙ z

-- what a call that was answered by 0 asks, and what it does
pub wants : (c : Call) (u x l n : ℕ) (b : Board) → c ≡ Want u x l → n ≡ why c b → n ≡ 0 → ((u < 32) × (x < b.parts) × (1 ≤ l) × (l ≤ 15)) × (with_wish u (Asked x l 0) b ≡ called c b)
wants c u x l n b e w z =
    let t = why_is c (Want u x l) b n e w z in
    (want_bounds u x l b t, want_taken u x l b t ∙ ap (λ (k : Call). called k b) (sym e))

pub gives : (c : Call) (u n : ℕ) (b : Board) → c ≡ Give u → n ≡ why c b → n ≡ 0 → (u < 32) × (with_wish u None' b ≡ called c b)
gives c u n b e w z =
    let t = why_is c (Give u) b n e w z in
    (give_bounds u b t, give_taken u b t ∙ ap (λ (k : Call). called k b) (sym e))
