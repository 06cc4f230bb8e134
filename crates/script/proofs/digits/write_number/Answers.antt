-- One digit and two.
use Rattle.std.proofs.Common.{◌≡◌, ℕ, zero, suc, ◌<◌, ◌+◌, ◌/◌, ◌%◌, List, [], ◌∷◌, ◌++◌, sym, ap, ◌∙◌, arith}
use Rattle.std.proofs.Output.{has_written_of_eq}
use Rattle.std.proofs.lemmas.Fmt.{decimal_digit, decimal_step}
use Rattle.std.proofs.lemmas.Str.{IsUtf8-from_ascii}
use Rattle.std.specs.Fmt.{decimal}
use Rattle.std.specs.Str.{IsAscii}
use Rattle.script.proofs.digits.write_number.Goals as goal

-- one byte more
ascii : (b : ℕ) (bs : List ℕ) → b < 128 → IsAscii bs → IsAscii (b ∷ bs)
ascii b bs h a zero = h
ascii b bs h a (suc i) = a i

pub from_utf8_unchecked-requires : goal.from_utf8_unchecked-requires
from_utf8_unchecked-requires g c = IsUtf8-from_ascii _ (ascii (48 + c.args.n) [] (omega arith) (λ i. omega arith))

pub returns-then-n-lt10 : goal.returns-then-n-lt10
returns-then-n-lt10 g c p ok = has_written_of_eq _ _ _ _ _ (c.from_utf8_unchecked.ensures ∙ sym (decimal_digit c.args.n c.if-n-lt10.true)) (c.write_str.ensures.writes p ok)

pub from_utf8_unchecked-requires-then-n-lt100 : goal.from_utf8_unchecked-requires-then-n-lt100
from_utf8_unchecked-requires-then-n-lt100 g c = IsUtf8-from_ascii _ (ascii (48 + c.args.n / 10) ((48 + c.args.n % 10) ∷ []) (omega arith) (ascii (48 + c.args.n % 10) [] (omega arith) (λ i. omega arith)))

pub returns-then-n-lt100 : goal.returns-then-n-lt100
returns-then-n-lt100 g c p ok =
    let n = c.args.n in
    let text : decimal n ≡ (48 + n / 10) ∷ (48 + n % 10) ∷ [] = decimal_step n (omega arith) (omega arith) ∙ ap (λ (l : List ℕ). l ++ (48 + n % 10) ∷ []) (decimal_digit (n / 10) (omega arith)) in
    has_written_of_eq _ _ _ _ _ (c.from_utf8_unchecked-then-n-lt100.ensures ∙ sym text) (c.write_str-then-n-lt100.ensures.writes p ok)
