-- The words of a line, and the numbers among them.
use Rattle.std.specs.Prelude.{ℕ, ◌+◌, ◌-◌, ◌*◌, ◌^◌, min, Bool, false, cond, ◌||◌, List, [], ◌∷◌, ◌++◌, Some, None, Option, ◌==◌}
use Rattle.std.specs.Str.{all_ascii_digits}
use Rattle.script.specs.declared.words.Words.{Words}

-- a space or a tab
abbrev pub is_blank : ℕ → Bool
is_blank b = b == 32 || b == 9

-- a word ends here, unless there is none
abbrev pub ended : List ℕ → List (List ℕ) → List (List ℕ)
ended [] ws = ws
ended (b ∷ bs) ws = (b ∷ bs) ∷ ws

-- the words of what follows, where the bytes of a word stand before it
abbrev pub words_after : List ℕ → List ℕ → List (List ℕ)
words_after w [] = ended w []
words_after w (b ∷ bs) = cond (is_blank b) (ended w (words_after [] bs)) (words_after (w ++ b ∷ []) bs)

-- the words of a text: what stands between blanks
abbrev pub words_of : List ℕ → List (List ℕ)
words_of bs = words_after [] bs

-- the words that are still to come
abbrev pub to_come : Words → List (List ℕ)
to_come w = words_of w.rest.now

-- one or more decimal digits
abbrev pub is_number : List ℕ → Bool
is_number [] = false
is_number (b ∷ bs) = all_ascii_digits (b ∷ bs)

-- the value of digits, where n is that of those before them
abbrev pub value_after : ℕ → List ℕ → ℕ
value_after n [] = n
value_after n (b ∷ bs) = value_after (n * 10 + (b - 48)) bs

abbrev pub value_of : List ℕ → ℕ
value_of bs = value_after 0 bs

-- a number too large to be held counts as the largest that is
abbrev pub held : ℕ → ℕ
held n = min n (2 ^ 32 - 1)

-- the number that a word writes, if it writes one
abbrev pub number_of : List ℕ → Option ℕ
number_of w = cond (is_number w) (Some (held (value_of w))) None
