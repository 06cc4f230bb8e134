-- The line goes into the buffer, and what follows its newline is left.
use Rattle.std.proofs.Common.{List, [], ℕ, length, sym, ap, subst, arith}
use Rattle.std.proofs.lemmas.Bool.{eqb-false}
use Rattle.script.specs.Sources.{Buffered}
use Rattle.script.proofs.Ended.{after_shorter}
use Rattle.script.proofs.lines.SliceLinesLines.next_line.Goals as goal

pub returns : goal.returns
returns c =
    let text = c.args.self.now.rest.now in
    let told = c.split_line.ensures in
    let some = after_shorter text (omega (arith, eqb-false (length text) 0 (sym c.if-is_empty.ensures))) in
    (subst (λ (bs : List ℕ). Buffered c.add.new.self bs) told.front (c.add.ensures [] c.clear.ensures), told.rest, omega (arith, some, ap length told.rest))
