-- What is written into memory: a sheet, or the buffer of a printer.
use Rattle.std.specs.Prelude.{◌≡◌, ℕ, ◌⊎◌, List, ◌++◌, take, MatchBool}
use Rattle.script.specs.declared.sheet.Sheet.{Sheet}

-- the bytes stand after what was written, or there was no room and nothing changed
abbrev pub Added : Sheet → Sheet → List ℕ → Type 0
Added s t bs = MatchBool t.full ((t.len ≡ s.len) × (t.text.now ≡ s.text.now)) (take t.len t.text.now ≡ take s.len s.text.now ++ bs)

-- the bytes wait after what waited before, or alone, where that was printed
abbrev pub Waits : List ℕ → List ℕ → List ℕ → Type 0
Waits was bs is = (is ≡ was ++ bs) ⊎ (is ≡ bs)
