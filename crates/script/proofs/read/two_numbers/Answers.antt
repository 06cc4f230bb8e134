-- What is made of both numbers.
use Rattle.std.proofs.Common.{sym, ◌∙◌}
use Rattle.script.specs.Text.{to_come}
use Rattle.script.proofs.Alone.{alone_err, alone_none, alone_some}
use Rattle.script.proofs.Listed.{numbers_first}
use Rattle.script.proofs.read.two_numbers.Goals as goal

pub returns-then-is_err : goal.returns-then-is_err
returns-then-is_err g c f h =
    let ws = to_come c.number-2.new.self in
    alone_err ws ws c.say-said.result c.if-is_err.ensures.value
    ∙ h c.in_ok-m.m c.in_ok-n.n _ ws c.say-said.ensures ∙ sym (numbers_first f c.in_ok-m.m c.in_ok-n.n (to_come c.args.words) (to_come c.number.new.self) ws c.in_ok-m.ensures c.in_ok-n.ensures)

pub returns-then-is_some : goal.returns-then-is_some
returns-then-is_some g c f h =
    let ws = to_come c.number-2.new.self in
    alone_some ws (to_come c.next.new.self) c.say-said.result c.next.result c.if-is_some.ensures c.next.ensures.steps
    ∙ h c.in_ok-m.m c.in_ok-n.n _ ws c.say-said.ensures ∙ sym (numbers_first f c.in_ok-m.m c.in_ok-n.n (to_come c.args.words) (to_come c.number.new.self) ws c.in_ok-m.ensures c.in_ok-n.ensures)

pub returns : goal.returns
returns g c f h =
    let ws = to_come c.number-2.new.self in
    alone_none ws (to_come c.next.new.self) c.say-said.result c.next.result c.if-is_some.ensures c.next.ensures.steps
    ∙ h c.in_ok-m.m c.in_ok-n.n _ ws c.say-said.ensures ∙ sym (numbers_first f c.in_ok-m.m c.in_ok-n.n (to_come c.args.words) (to_come c.number.new.self) ws c.in_ok-m.ensures c.in_ok-n.ensures)
