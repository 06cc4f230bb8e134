-- One more need, and `and`.
use Rattle.std.proofs.Common.{[], ◌∷◌, ◌++◌, codes, arith}
use Rattle.std.proofs.lemmas.Slice.Eq.{text_from_reads}
use Rattle.script.specs.Lines.{needs}
use Rattle.script.proofs.Listed.{follow_more}
use Rattle.script.specs.Text.{to_come}
use Rattle.script.proofs.needs.all_needs.Goals as goal

pub loop-one-preserved : goal.loop-one-preserved
loop-one-preserved c =
    let inv = c.loop-one.invariant in
    let n = c.in_ok-one.ensures in
    (inv.0 ++ n.0 ∷ [], c.push_need.ensures inv.0 n.0 inv.1 n.1, follow_more inv.0 n.0 (to_come c.loop-one.words) (to_come c.need.new.words) (to_come c.next.new.self) c.in-Some-and.field-0.now (needs (to_come c.args.words.now)) inv.2 n.2 c.in-Some-and.ensures.steps (text_from_reads c.in-Some-and.field-0.now (codes "and") (omega arith) (omega arith, (omega arith, (omega arith, tt)))))
