-- The first word ends at a blank or at the end.
use Rattle.std.proofs.Common.{length, sym, ◌∙◌, arith, rules}
use Rattle.std.proofs.lemmas.Bool.{eqb-true, eqb-false}
use Rattle.script.proofs.Spaced.{some_word, no_word}
use Rattle.script.proofs.words.Words.next.Goals as goal

pub returns-then-is_empty : goal.returns-then-is_empty
returns-then-is_empty c =
    let a = c.split_at.ensures in
    let b = c.split_at-2.ensures in
    let empty = eqb-true (length c.split_at-2.result.0.now) 0 (sym c.is_empty.ensures ∙ c.if-is_empty.true) in
    let (none, _) = no_word c.args.self.now.rest.now c.split_at.result.1.now c.split_at-2.result.0.now c.split_at-2.result.1.now c.blanks_len.result c.word_len.result c.blanks_len.ensures.value a.back c.word_len.ensures.value b.front b.back (omega (arith, empty, b.front_len)) in
    record { steps = (none, none); shorter = search rules }

pub returns : goal.returns
returns c =
    let a = c.split_at.ensures in
    let b = c.split_at-2.ensures in
    let some = eqb-false (length c.split_at-2.result.0.now) 0 (sym c.is_empty.ensures ∙ c.if-is_empty.false) in
    let first = some_word c.args.self.now.rest.now c.split_at.result.1.now c.split_at-2.result.0.now c.split_at-2.result.1.now c.blanks_len.result c.word_len.result c.blanks_len.ensures.value a.back c.word_len.ensures.value b.front b.back (omega (arith, some)) in
    record { steps = first; shorter = search rules }
