use Rattle.std.proofs.Common.{◌≡◌, cond, not, T, sym, refl, ap, ◌∙◌, subst, arith}
use Rattle.power.specs.Board.{why}
use Rattle.power.specs.declared.Call.TheVariants.{Want}
use Rattle.power.proofs.Calls.{called_want, why_no_such, why_want}
use Rattle.power.proofs.Said.{nothing_said, something_said}
use Rattle.power.proofs.KeptCalls.{kept_away, kept_no_such, kept_want}
use Rattle.power.proofs.knowledge.Keeper.want.Goals as goal

pub returns-in_err-user : goal.returns-in_err-user
returns-in_err-user c b m =
    let none = c.in_err-user.ensures in
    kept_no_such c.args.self.now _ b c.from_residual.result c.from_residual.ensures.1 (why_no_such _ _ _ b (λ h₁ h₂ h₃ h₄. omega arith)) m

pub returns-in_err-part : goal.returns-in_err-part
returns-in_err-part c b m =
    let none = c.in_err-part.ensures in
    kept_no_such c.args.self.now _ b c.from_residual-in_err-part.result c.from_residual-in_err-part.ensures.1 (why_no_such _ _ _ b (λ h₁ h₂ h₃ h₄. omega (arith, m.mirrors.parts))) m

pub returns-then-part-self : goal.returns-then-part-self
returns-then-part-self c b m =
    let same = c.in_ok-part.ensures in
    kept_away c.args.self.now _ b 1 (omega arith) (why_no_such _ _ _ b (λ h₁ h₂ h₃ h₄. omega (arith, m.mirrors.parts))) m

pub returns-in_err-level : goal.returns-in_err-level
returns-in_err-level c b m =
    let none = c.in_err-level.ensures in
    kept_no_such c.args.self.now _ b c.from_residual-in_err-level.result c.from_residual-in_err-level.ensures.1 (why_no_such _ _ _ b (λ h₁ h₂ h₃ h₄. omega arith)) m

pub returns-in_default : goal.returns-in_default
returns-in_default c b m =
    let u = c.in_ok-user.user.n in
    let e = something_said _ (b.wish u) (m.mirrors.says u) (λ z. c.in_default.not-Nothing (c.get.ensures ∙ z)) in
    rw (← c.in_ok-user.ensures, ← c.in_ok-part.ensures, ← c.in_ok-level.ensures)
    (kept_away c.args.self.now _ b 2 (omega arith)
    (sym (ap (λ n. cond (not n) 2 0) e) ∙ why_want _ _ _ b (omega arith) (omega (arith, m.mirrors.parts)) (omega arith) (omega arith)) m)

pub returns : goal.returns
returns c b m =
    let u = c.in_ok-user.user.n in
    let x = c.in_ok-part.part.n in
    let l = c.in_ok-level.level.n in
    let e = nothing_said _ (b.wish u) (m.mirrors.says u) (sym c.in-Nothing.ensures) in
    let w : 0 ≡ why (Want u x l) b = sym (ap (λ n. cond (not n) 2 0) e) ∙ why_want _ _ _ b (omega arith) (omega (arith, m.mirrors.parts)) (omega arith) (omega arith) in
    rw (← c.in_ok-user.ensures, ← c.in_ok-part.ensures, ← c.in_ok-level.ensures)
    (w, kept_want c.args.self.now _ b u (omega arith) m refl refl refl x l (Want u x l) (called_want u x l b (sym w)) (subst T (sym e) tt) (c.ask.ensures b m.mirrors.says) refl)
