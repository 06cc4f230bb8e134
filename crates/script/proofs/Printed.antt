-- What is written into a line, and levels on a line.
use Rattle.std.proofs.Common.{◌≡◌, ℕ, ◌+◌, ◌<◌, List, [], ◌∷◌, ◌++◌, length, get_or, take, decimal, Option, None, Some, IfSome, Result, Ok, Err, IsOk, OnOk, sym, refl, ap, ◌∙◌, subst, append_assoc}
use Rattle.std.proofs.lemmas.List.{take_more}
use Rattle.std.proofs.lemmas.Fmt.{contents_after_writes}
use Rattle.std.specs.Fmt.{WritesText}
use Rattle.std.specs.declared.fmt.Error.{Error}
use Rattle.arrayvec.specs.ArrayString.{ArrayString}
use Rattle.script.specs.Events.{spaced}

spaced_next : (y : ℕ) (xs : List ℕ) (x : ℕ) → spaced ((y ∷ xs) ++ x ∷ []) ≡ spaced (y ∷ xs) ++ 32 ∷ decimal x
spaced_next y [] x = refl
spaced_next y (z ∷ xs) x = ap (λ (l : List ℕ). decimal y ++ 32 ∷ l) (spaced_next z xs x) ∙ sym (append_assoc (decimal y) (32 ∷ spaced (z ∷ xs)) (32 ∷ decimal x))

pub spaced_more : (y : ℕ) (xs : List ℕ) (i : ℕ) → i < length xs → spaced (y ∷ take i xs) ++ 32 ∷ decimal (get_or xs i 0) ≡ spaced (y ∷ take (i + 1) xs)
spaced_more y xs i h = sym (spaced_next y (take i xs) (get_or xs i 0)) ∙ ap (λ (l : List ℕ). spaced (y ∷ l)) (sym (take_more xs i 0 h))

-- a text was written, and then the end of its line
pub line_written : (text : Option (List ℕ)) (was then is : ArrayString) (r : Result (Unit {0}) Error) → WritesText (λ s bs t. t.bytes ≡ s.bytes ++ bs) was text then → (IsOk r → is.bytes ≡ then.bytes ++ 10 ∷ []) → IfSome text (λ bs. OnOk r (is.bytes ≡ was.bytes ++ (bs ++ 10 ∷ [])))
line_written None was then is r wrote h = tt
line_written (Some bs) was then is (Err e) wrote h = tt
line_written (Some bs) was then is (Ok u) wrote h =
    h refl ∙ ap (λ (l : List ℕ). l ++ 10 ∷ []) (contents_after_writes _ (λ (s : ArrayString). s.bytes) (λ _ _ _ t. t) was bs then wrote) ∙ append_assoc was.bytes bs (10 ∷ [])

-- such a line, in a string that was empty
pub line_put : (P : List ℕ → Type 0) (text : Option (List ℕ)) (empty line : ArrayString) → empty.bytes ≡ [] → IfSome text (λ bs. line.bytes ≡ empty.bytes ++ (bs ++ 10 ∷ [])) → P line.bytes → IfSome text (λ bs. P (bs ++ 10 ∷ []))
line_put P None empty line e wrote h = tt
line_put P (Some bs) empty line e wrote h = subst P (wrote ∙ ap (λ (l : List ℕ). l ++ (bs ++ 10 ∷ [])) e) h
