-- Where a line ends.
use Rattle.std.specs.Prelude.{◌≡◌, ℕ, ◌<◌, cond, List, [], ◌∷◌, length, take, MatchOption, ◌==◌}
use Rattle.script.specs.declared.buffer.LineBuffer.{LineBuffer}

-- the bytes before the first newline, or all
abbrev pub first_line : List ℕ → List ℕ
first_line [] = []
first_line (b ∷ bs) = cond (b == 10) [] (b ∷ first_line bs)

-- what stands after the first newline
abbrev pub after_line : List ℕ → List ℕ
after_line [] = []
after_line (b ∷ bs) = cond (b == 10) bs (after_line bs)

-- a line without the carriage return at its end
abbrev pub without_return : List ℕ → List ℕ
without_return [] = []
without_return (b ∷ []) = cond (b == 13) [] (b ∷ [])
without_return (b ∷ c ∷ bs) = b ∷ without_return (c ∷ bs)

-- the line is in the buffer, or is too long for it
abbrev pub Buffered : LineBuffer → List ℕ → Type 0
Buffered l bs = MatchOption l.len (4096 < length bs) (λ n. take n l.bytes ≡ bs)
