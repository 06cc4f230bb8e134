-- What each first word says.
use Rattle.std.proofs.Common.{◌≡◌, ℕ, None, Option, ◌∷◌, ap, codes, sym, ◌∙◌, arith, rules}
use Rattle.script.specs.Lines.{after, heard, line_of, user_line, tick, bad, gives, slow_line}
use Rattle.script.specs.Text.{number_of, to_come, words_of}
use Rattle.script.proofs.Listed.{first_is, other_first, unlike}
use Rattle.script.proofs.read.read_line.Goals as goal

pub returns-in-tick : goal.returns-in-tick
returns-in-tick c =
    c.one_number-in-tick.ensures tick (λ n l p. search rules) ∙ sym (first_is line_of (codes "tick") c.in_ok-word.word.now (words_of c.args.text.now) (to_come c.next.new.self) (search rules) (omega arith) (search rules))

pub returns-in-bad : goal.returns-in-bad
returns-in-bad c =
    c.one_number.ensures bad (λ n l p. search rules) ∙ sym (first_is line_of (codes "bad") c.in_ok-word.word.now (words_of c.args.text.now) (to_come c.next.new.self) (search rules) (omega arith) (search rules))

pub returns-in-gives : goal.returns-in-gives
returns-in-gives c =
    c.one_number-in-gives.ensures gives (λ n l p. search rules) ∙ sym (first_is line_of (codes "gives") c.in_ok-word.word.now (words_of c.args.text.now) (to_come c.next.new.self) (search rules) (omega arith) (search rules))

pub returns-in-slow : goal.returns-in-slow
returns-in-slow c =
    c.two_numbers.ensures slow_line (λ m n r ws p. p ws) ∙ sym (first_is line_of (codes "slow") c.in_ok-word.word.now (words_of c.args.text.now) (to_come c.next.new.self) (search rules) (omega arith) (search rules))

pub returns-in_err-ok_or-in_default : goal.returns-in_err-ok_or-in_default
returns-in_err-ok_or-in_default c =
    let w = c.in_ok-word.word.now in
    let ws = (to_come c.next.new.self) in
    let part = unlike w (codes "part") (λ l a b d e f. grind arith) in
    let run = unlike w (codes "run") (λ l a b d e f. grind arith) in
    let new = unlike w (codes "new") (λ l a b d e f. grind arith) in
    let tick = unlike w (codes "tick") (λ l a b d e f. grind arith) in
    let bad = unlike w (codes "bad") (λ l a b d e f. grind arith) in
    let slow = unlike w (codes "slow") (λ l a b d e f. grind arith) in
    let least = unlike w (codes "least") (λ l a b d e f. grind arith) in
    let gives = unlike w (codes "gives") (λ l a b d e f. grind arith) in
    let drawn = unlike w (codes "drawn") (λ l a b d e f. grind arith) in
    let first : words_of c.args.text.now ≡ w ∷ ws = search rules in
    let none : number_of w ≡ None = search rules in
    let refused : heard c.from_residual-in_err-ok_or-in_default.result ≡ None = search rules in
    refused ∙ sym (ap line_of first ∙ other_first w ws part run new tick bad slow least gives drawn ∙ ap (λ (o : Option ℕ). after o (λ u. user_line u ws)) none)
