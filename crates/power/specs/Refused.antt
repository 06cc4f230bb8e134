-- The numbers by which calls are turned away, and the texts.
-- Assumes nothing.
use Rattle.std.specs.Prelude.{ℕ, List, Ok, Err, Result, codes}
use Rattle.power.specs.declared.refusal.Refusal.{Refusal}
use Rattle.power.specs.declared.refusal.Refusal.TheVariants.{NoSuch, Already, Nothing}

-- a refusal's number, and its text
abbrev pub code_of : Refusal → ℕ
code_of NoSuch = 1
code_of Already = 2
code_of Nothing = 3

abbrev pub text_of : Refusal → List ℕ
text_of NoSuch = codes "no such user, part or level"
text_of Already = codes "the user wants something already"
text_of Nothing = codes "the user wants nothing"

-- 0 if it isn't
abbrev pub number_of : Result Unit Refusal → ℕ
number_of (Ok u) = 0
number_of (Err r) = code_of r
