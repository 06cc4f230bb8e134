use Rattle.power.proofs.GivenBack.{nothing_left, want_refused}
use Rattle.power.proofs.guard.with_held.Goals as goal

pub returns-in_err-want-clause-kept : goal.returns-in_err-want-clause-kept
returns-in_err-want-clause-kept g c = λ b m t. let r = c.in_err-want.ensures b m in want_refused _ c.args.u c.args.x c.args.l b _ r.0 t r.1

pub returns-in_err-want-clause-nothing : goal.returns-in_err-want-clause-nothing
returns-in_err-want-clause-nothing g c = nothing_left c.args.u c.args.x c.args.l

pub returns-clause-nothing : goal.returns-clause-nothing
returns-clause-nothing g c = nothing_left c.args.u c.args.x c.args.l
