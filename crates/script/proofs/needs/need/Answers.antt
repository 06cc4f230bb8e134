-- A need is read word by word.
use Rattle.std.proofs.Common.{Some, None, codes, length, ap, ◌∙◌, arith}
use Rattle.std.proofs.lemmas.Result.{err_from_is_err_and}
use Rattle.script.proofs.Listed.{need_begins, to_left, levels_end, most_begins, most_is, most_lacks}
use Rattle.script.specs.Text.{to_come}
use Rattle.script.proofs.needs.need.Goals as goal

pub returns-in_err-levels : goal.returns-in_err-levels
returns-in_err-levels c =
    let p = err_from_is_err_and c.from_residual-in_err-levels.result c.from_residual-in_err-levels.ensures.1 in
    let k = c.in_ok-keyword.ensures in
    rw p.1 (need_begins c.in_ok-on.on k.0 (to_come c.args.words.now) (to_come c.number.new.self) (to_come c.keyword.new.self) None c.in_ok-on.ensures k.1 k.2 c.in_err-levels.ensures)

pub returns-in_err-keyword-2 : goal.returns-in_err-keyword-2
returns-in_err-keyword-2 c =
    let p = err_from_is_err_and c.from_residual-in_err-keyword-2.result c.from_residual-in_err-keyword-2.ensures.1 in
    let k = c.in_ok-keyword.ensures in
    let l = c.in_ok-levels.ensures in
    let s = to_left (codes "most") (to_come c.keyword.new.self) l.0 (to_come c.read.new.words) l.1 in
    rw p.1 (need_begins c.in_ok-on.on k.0 (to_come c.args.words.now) (to_come c.number.new.self) (to_come c.keyword.new.self) (Some (l.0, (to_come c.read.new.words))) c.in_ok-on.ensures k.1 k.2 l.1
    ∙ levels_end c.in_ok-on.on l.0 (to_come c.read.new.words) s.0 c.in_err-keyword-2.ensures)

pub returns-in_err-most : goal.returns-in_err-most
returns-in_err-most c =
    let p = err_from_is_err_and c.from_residual-in_err-most.result c.from_residual-in_err-most.ensures.1 in
    let k = c.in_ok-keyword.ensures in
    let l = c.in_ok-levels.ensures in
    let m = c.in_ok-keyword-2.ensures in
    rw p.1 (need_begins c.in_ok-on.on k.0 (to_come c.args.words.now) (to_come c.number.new.self) (to_come c.keyword.new.self) (Some (l.0, (to_come c.read.new.words))) c.in_ok-on.ensures k.1 k.2 l.1
    ∙ most_begins c.in_ok-on.on l.0 m.0 (to_come c.read.new.words) (to_come c.keyword-2.new.self) m.1 m.2 ∙ most_lacks c.in_ok-on.on l.0 (to_come c.keyword-2.new.self) c.in_err-most.ensures)

pub returns : goal.returns
returns c =
    let on = c.in_ok-on.on in
    let k = c.in_ok-keyword.ensures in
    let l = c.in_ok-levels.ensures in
    let m = c.in_ok-keyword-2.ensures in
    let n = c.in_ok-most.most in
    let s = to_left (codes "most") (to_come c.keyword.new.self) l.0 (to_come c.read.new.words) l.1 in (
      record { on = on; levels = l.0; most = n },
      c.plan_need.ensures l.0 l.2,
      need_begins on k.0 (to_come c.args.words.now) (to_come c.number.new.self) (to_come c.keyword.new.self) (Some (l.0, (to_come c.read.new.words))) c.in_ok-on.ensures k.1 k.2 l.1
          ∙ most_begins on l.0 m.0 (to_come c.read.new.words) (to_come c.keyword-2.new.self) m.1 m.2 ∙ most_is on n l.0 (to_come c.keyword-2.new.self) (to_come c.number-2.new.self) c.in_ok-most.ensures,
      omega (arith, ap length c.in_ok-on.ensures.front, ap length k.1, s.1, ap length m.1, ap length c.in_ok-most.ensures.front),
    )
