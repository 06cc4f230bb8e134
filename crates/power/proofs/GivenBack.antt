-- A user who gives back has nothing, and who has nothing changes nothing by it. Assumes nothing.
use Rattle.std.proofs.Common.{◌≡◌, ℕ, ◌<◌, Bool, true, false, cond, T, ◌≢◌, Err, sym, refl, ap, ◌∙◌, subst, inl, inr, arith}
use Rattle.std.proofs.lemmas.Bool.{cases_lt}
use Rattle.power.specs.declared.Call.TheVariants.{Want, Give}
use Rattle.power.specs.declared.refusal.Refusal.{Refusal}
use Rattle.power.specs.declared.refusal.Refusal.TheVariants.{NoSuch, Already, Nothing}
use Rattle.power.specs.declared.knowledge.Keeper.{Keeper}
use Rattle.power.specs.Board.{Board, Wish, None', is_none, why, called}
use Rattle.power.specs.Refused.{number_of}
use Rattle.power.specs.Kept.{Kept}
use Rattle.power.proofs.Tests.{is_true}
use Rattle.power.proofs.Puts.{put_here}
use Rattle.power.proofs.Calls.{called_away, called_give, why_no_such, why_nobody, why_give}

give_nothing : (u : ℕ) (b : Board) → T (is_none (b.wish u)) → called (Give u) b ≡ b
give_nothing u b t =
    elim (cases_lt u 32) [
      | inl h ↦ called_away (Give u) b 3 (ap (λ (n : Bool). cond n 3 0) (is_true (is_none (b.wish u)) t) ∙ why_give u b h) (omega arith)
      | inr h ↦ called_away (Give u) b 1 (why_nobody u b h) (omega arith)
    ]

give_some : (u : ℕ) (b : Board) → u < 32 → T (is_none ((called (Give u) b).wish u))
unfolding is_none
give_some u b h = go (is_none (b.wish u)) refl
  where
    go : (n : Bool) → is_none (b.wish u) ≡ n → T (is_none ((called (Give u) b).wish u))
    go true e = let t : T (is_none (b.wish u)) = subst T (sym e) tt in subst (λ (d : Board). T (is_none (d.wish u))) (sym (give_nothing u b t)) t
    go false e =
        let z : 0 ≡ why (Give u) b = sym (ap (λ (n : Bool). cond n 3 0) e) ∙ why_give u b h in
        subst (λ (d : Board). T (is_none (d.wish u))) (sym (called_give u b (sym z))) (subst (λ (w : Wish). T (is_none w)) (sym (put_here u None' b.wish)) tt)

pub nothing_left : (u x l : ℕ) (b : Board) → T (is_none (b.wish u)) → T (is_none ((called (Give u) (called (Want u x l) b)).wish u))
nothing_left u x l b t =
    elim (cases_lt u 32) [
      | inl h ↦ give_some u (called (Want u x l) b) h
      | inr h ↦
          let e : called (Want u x l) b ≡ b = called_away (Want u x l) b 1 (why_no_such u x l b (λ i _ _ _. omega arith)) (omega arith) in
          subst (λ (d : Board). T (is_none ((called (Give u) d).wish u))) (sym e) (subst (λ (d : Board). T (is_none (d.wish u))) (sym (give_nothing u b t)) t)
    ]

refused : (e : Refusal) → number_of (Err e) ≢ 0
refused NoSuch z = omega arith
refused Already z = omega arith
refused Nothing z = omega arith

pub want_refused :
    (k : Keeper) (u x l : ℕ) (b : Board) (e : Refusal) → number_of (Err e) ≡ why (Want u x l) b → T (is_none (b.wish u)) → Kept k (called (Want u x l) b) →
    Kept k (called (Give u) (called (Want u x l) b))
want_refused k u x l b e w t m =
    let d : called (Want u x l) b ≡ b = called_away (Want u x l) b (number_of (Err e)) w (refused e) in
    let n : T (is_none ((called (Want u x l) b).wish u)) = subst (λ (c : Board). T (is_none (c.wish u))) (sym d) t in
    subst (λ (c : Board). Kept k c) (sym (give_nothing u (called (Want u x l) b) n)) m
