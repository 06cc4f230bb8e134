-- What is read after the draws is what there was.
use Rattle.std.proofs.Common.{Some, None, [], codes, ap, sym, ◌∙◌, rules}
use Rattle.std.proofs.lemmas.Result.{err_from_is_err_and}
use Rattle.script.specs.Lines.{draws_line}
use Rattle.script.proofs.Listed.{draws_begin, draws_small, draws_stop, to_left}
use Rattle.script.specs.Text.{to_come}
use Rattle.script.proofs.read.with_draws.Goals as goal

pub returns-in_err-draws : goal.returns-in_err-draws
returns-in_err-draws c =
    let p = err_from_is_err_and c.from_residual.result c.from_residual.ensures.1 in
    rw p.1 (sym (draws_begin c.args.x (to_come c.args.words) None c.in_err-draws.ensures))

pub returns-in-None : goal.returns-in-None
returns-in-None c =
    let d = c.in_ok-draws.ensures in
    let drew = draws_small (codes "needs") (to_come c.args.words) (to_come c.read.new.words) d.0 c.in_ok-draws.draws d.1 d.2 in
    ap Some (c.whole.ensures d.0 [] drew (search rules)) ∙ sym (draws_begin c.args.x (to_come c.args.words) (Some (d.0, (to_come c.read.new.words))) d.1 ∙ ap (draws_line c.args.x d.0) c.in-None.ensures.steps.0)

pub returns-in-Some : goal.returns-in-Some
returns-in-Some c =
    let d = c.in_ok-draws.ensures in
    let drew = draws_small (codes "needs") (to_come c.args.words) (to_come c.read.new.words) d.0 c.in_ok-draws.draws d.1 d.2 in
    let read = draws_begin c.args.x (to_come c.args.words) (Some (d.0, (to_come c.read.new.words))) d.1 ∙ draws_stop c.args.x d.0 c.in-Some.field-0.now (to_come c.read.new.words) (to_come c.next.new.self) (to_left (codes "needs") (to_come c.args.words) d.0 (to_come c.read.new.words) d.1).0 c.in-Some.ensures.steps in
    search rules
