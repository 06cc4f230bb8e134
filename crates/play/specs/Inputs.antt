-- What the lines of an input come to.
use Rattle.std.specs.Prelude.{◌≡◌, ℕ, ◌+◌, ◌-◌, ◌^◌, ◌<◌, min, List, length, codes, Some, None, Option, Ok, Err, Result}
use Rattle.script.specs.Lines.{line_of, reason, said_of}
use Rattle.script.specs.Sources.{without_return}
use Rattle.script.specs.Text.{words_of}
use Rattle.script.specs.declared.line.Line.{Line}
use Rattle.play.specs.declared.reader.Unclear.{Unclear}
use Rattle.play.specs.declared.reader.Unclear.TheVariants.{TooLong, NoLine}

-- lines are counted, as far as a number of 64 bits goes
abbrev pub number_after : Option (Result Line Unclear) → ℕ → ℕ
number_after None n = n
number_after (Some r) n = min (n + 1) (2 ^ 64 - 1)

-- why what comes next is no line, in words
abbrev pub text_of : Unclear → List ℕ
text_of TooLong = codes "too long"
text_of (NoLine e) = reason e

-- these bytes say that, or are too many, or no line
abbrev pub Says : List ℕ → Result Line Unclear → Type 0
Says bs (Ok l) = line_of (words_of (without_return bs)) ≡ Some (said_of l)
Says bs (Err TooLong) = 4096 < length bs
Says bs (Err (NoLine e)) = line_of (words_of (without_return bs)) ≡ None

-- the same, where there is a line
abbrev pub Reads : List ℕ → Option (Result Line Unclear) → Type 0
Reads bs None = Unit {0}
Reads bs (Some r) = Says bs r
