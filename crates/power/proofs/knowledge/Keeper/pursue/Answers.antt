use Rattle.std.proofs.Common.{Some, None, ap, sym, ◌∙◌, ◌≡◌, arith, rules}
use Rattle.std.specs.Option.{option_copied}
use Rattle.power.specs.NotDone.{told_number}
use Rattle.power.specs.declared.Answer.TheVariants.{Done, No}
use Rattle.power.proofs.Pursuing.{pursued_five, pursued_spent, pursued_done, pursued_stuck, pursued_seen}
use Rattle.power.proofs.knowledge.Keeper.pursue.Goals as goal

pub returns-in-Err-clause-pursued : goal.returns-in-Err-clause-pursued
returns-in-Err-clause-pursued g c =
    let five : c.into.result ≡ 5 = omega (arith, c.into.ensures, ap told_number c.from.ensures) in
    rw five (pursued_five (g.P.Parts.board c.args.b.now) c.take.new.self.aims c.args.r.part.n c.args.r.level.n c.in-Err.ensures.aims)

pub returns-in-Ok-clause-pursued : goal.returns-in-Ok-clause-pursued
returns-in-Ok-clause-pursued g c =
    let b = g.P.Parts.board c.args.b.now in
    let o = c.take.new.self.aims in
    let x = c.args.r.part.n in
    let l = c.args.r.level.n in
    let e = sym c.as_ref.ensures.value ∙ ap option_copied c.unwrap-aims.ensures in
    pursued_seen g.P.Parts.board _ c.go.new.self.board.now (Some Done) o x l b (search rules)
    (pursued_done b o _ e x l _ _ _ c.in_default.ensures.aims c.in-Ok.ensures.came c.args.r.level.on c.requires.part c.in-Ok.ensures.ends)

pub returns-in-Err-Spent-clause-pursued : goal.returns-in-Err-Spent-clause-pursued
returns-in-Err-Spent-clause-pursued g c =
    let b = g.P.Parts.board c.args.b.now in
    let o = c.take.new.self.aims in
    let x = c.args.r.part.n in
    let l = c.args.r.level.n in
    let e = sym c.as_ref.ensures.value ∙ ap option_copied c.unwrap-aims.ensures in
    let r = rw c.in-Err-Spent.field-0-is at c.in-Err-Spent.ensures.ends in
    pursued_seen g.P.Parts.board _ c.go.new.self.board.now None o x l b (search rules)
    (pursued_spent b o _ e x l _ _ _ c.in_default.ensures.aims c.in-Err-Spent.ensures.came c.requires.sound (omega (arith, c.requires.mirrors.parts, c.requires.mirrors.few)) c.requires.all r)

pub returns-in-Err-Stuck-clause-pursued : goal.returns-in-Err-Stuck-clause-pursued
returns-in-Err-Stuck-clause-pursued g c =
    let b = g.P.Parts.board c.args.b.now in
    let o = c.take.new.self.aims in
    let x = c.args.r.part.n in
    let l = c.args.r.level.n in
    let e = sym c.as_ref.ensures.value ∙ ap option_copied c.unwrap-aims.ensures in
    let r = rw c.in-Err-Stuck.field-0-is at c.in-Err-Stuck.ensures.ends in
    rw c.into-in-Err-Stuck.ensures (
    pursued_seen g.P.Parts.board _ c.go.new.self.board.now (Some (No 6)) o x l b (search rules)
    (pursued_stuck b o _ e x l _ _ _ c.in_default.ensures.aims c.in-Err-Stuck.ensures.came r)
    )
