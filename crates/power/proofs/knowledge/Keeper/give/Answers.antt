use Rattle.std.proofs.Common.{◌≡◌, cond, sym, refl, ap, ◌∙◌, arith}
use Rattle.power.specs.Board.{why}
use Rattle.power.specs.declared.Call.TheVariants.{Give}
use Rattle.power.proofs.Calls.{called_give, why_give, why_nobody}
use Rattle.power.proofs.Said.{nothing_said, something_said}
use Rattle.power.proofs.KeptCalls.{kept_away, kept_no_such, kept_give}
use Rattle.power.proofs.knowledge.Keeper.give.Goals as goal

pub returns-in_err-user : goal.returns-in_err-user
returns-in_err-user c b m = kept_no_such c.args.self.now (Give c.args.u) b c.from_residual.result c.from_residual.ensures.1 (why_nobody _ b c.in_err-user.ensures) m

pub returns-in-Nothing : goal.returns-in-Nothing
returns-in-Nothing c b m =
    let u = c.in_ok-user.user.n in
    let e = nothing_said _ (b.wish u) (m.mirrors.says u) (sym c.in-Nothing.ensures) in
    rw (← c.in_ok-user.ensures) (kept_away c.args.self.now (Give u) b 3 (omega arith) (sym (ap (λ n. cond n 3 0) e) ∙ why_give _ b (omega arith)) m)

pub returns : goal.returns
returns c b m =
    let u = c.in_ok-user.user.n in
    let e = something_said _ (b.wish u) (m.mirrors.says u) (λ z. c.in_default.not-Nothing (c.get.ensures ∙ z)) in
    let w : 0 ≡ why (Give u) b = sym (ap (λ n. cond n 3 0) e) ∙ why_give _ b (omega arith) in
    rw (← c.in_ok-user.ensures)
    (w, kept_give c.args.self.now _ b u (omega arith) m refl refl refl (Give u) (called_give u b (sym w)) (c.take_back.ensures b m.mirrors.says) c.over.ensures)
