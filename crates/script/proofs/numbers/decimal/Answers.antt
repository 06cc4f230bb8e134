-- Each digit is worth ten times what stands before it, and its own.
use Rattle.std.proofs.Common.{◌≡◌, length, ap, sym, ◌∙◌, Some, rules}
use Rattle.std.proofs.lemmas.Bool.{eqb-false}
use Rattle.std.specs.List.{fold}
use Rattle.script.proofs.Counted.{one_more, number_some}
use Rattle.script.proofs.numbers.decimal.Goals as goal

pub returns : goal.returns
returns c =
    let w = c.args.word.now in
    let v : c.fold-value.result ≡ fold one_more 0 w = search rules in
    ap Some v ∙ number_some w (eqb-false (length w) 0 (search rules)) (sym c.if-not-all_digits.ensures)
