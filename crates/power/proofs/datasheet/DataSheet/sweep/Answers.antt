use Rattle.std.proofs.Common.{ℕ, ◌<◌, List, get_or, ap, ◌∙◌, arith}
use Rattle.power.specs.Tables.{at}
use Rattle.power.proofs.Shown.{get_d_same}
use Rattle.power.proofs.Sweeping.{sweeping_none, sweeping_more, too_high}
use Rattle.power.proofs.datasheet.DataSheet.sweep.Goals as goal

pub loop-n-init : goal.loop-n-init
loop-n-init g c =
    sweeping_none (g.P.Parts.board c.args.self.now.board.now) (at c.args.want.now) (at c.new-ls.result) c.parts-parts.result (omega arith)
    (λ (x : ℕ). ap (λ (l : List ℕ). get_or l x 0) c.new-ls.ensures ∙ get_d_same 64 0 x)

pub returns-then-l-gt-TOP : goal.returns-then-l-gt-TOP
returns-then-l-gt-TOP g c =
    let b = g.P.Parts.board c.args.self.now.board.now in
    let p = c.part-x.result.part.n in
    let is = c.part-x.ensures.part in
    let h : p < b.parts = omega arith in
    too_high b (at c.args.want.now) (at c.loop-n.ls) (at c.also.new.self) c.args.self.now.plan c.loop-n.n p (omega arith) h c.loop-n.invariant c.get.result c.get.ensures c.also.ensures
    c.get-l.result c.get-l.ensures c.if-l-gt-TOP.true

pub loop-n-preserved : goal.loop-n-preserved
loop-n-preserved g c =
    let b = g.P.Parts.board c.args.self.now.board.now in
    let p = c.part-x.result.part.n in
    let is = c.part-x.ensures.part in
    let h : p < b.parts = omega arith in
    rw (← c.part-x.ensures.part)
    (sweeping_more b (at c.args.want.now) (at c.loop-n.ls) (at c.also.new.self) c.args.self.now.plan c.loop-n.n p (omega arith) h c.loop-n.invariant c.get.result c.get.ensures c.also.ensures
    c.get-l.result c.get-l.ensures c.if-l-gt-TOP.false (at c.push.new.ls) (rw c.part-x.ensures.board at c.push.ensures))
