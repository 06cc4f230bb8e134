use Rattle.std.proofs.Common.{codes, sym, ◌∙◌, arith, rules}
use Rattle.script.specs.Lines.{only, user_line, want}
use Rattle.script.proofs.Listed.{first_is}
use Rattle.script.specs.Text.{to_come}
use Rattle.script.proofs.read.by_user.Goals as goal

pub returns-in-want : goal.returns-in-want
returns-in-want c =
    let u = c.args.user in
    c.two_numbers.ensures (λ x l. only (want u x l)) (λ m n r ws p. search rules) ∙ sym (first_is (user_line u) (codes "want") c.in_ok-word.word.now (to_come c.args.words) (to_come c.next.new.self) (search rules) (omega arith) (search rules))
