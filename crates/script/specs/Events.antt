-- What is printed.
use Rattle.std.specs.Prelude.{ℕ, List, [], ◌∷◌, ◌++◌, codes, decimal}
use Rattle.script.specs.declared.event.Event.{Event}
use Rattle.script.specs.declared.event.Event.TheVariants as event

-- an event, without the end of its line
abbrev pub printed : Event → List ℕ
printed event.Taken = codes "taken"
printed (event.Away k) = codes "away " ++ decimal k
printed (event.Done u) = decimal u ++ codes " done"
printed (event.No u k) = decimal u ++ (codes " no " ++ decimal k)
printed (event.Raise x) = codes "raise " ++ decimal x
printed (event.Good x) = codes "good " ++ decimal x
printed (event.Level x l) = codes "level " ++ (decimal x ++ (codes " " ++ decimal l))
printed (event.Lower x) = codes "lower " ++ decimal x
printed (event.Drawn n) = decimal n
printed event.NoPlan = codes "no plan"
printed (event.NoLine n) = codes "line " ++ (decimal n ++ codes "?")

-- numbers with single spaces between them
abbrev pub spaced : List ℕ → List ℕ
spaced [] = []
spaced (l ∷ []) = decimal l
spaced (l ∷ m ∷ ls) = decimal l ++ 32 ∷ spaced (m ∷ ls)
