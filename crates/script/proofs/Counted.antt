-- Reading digits one by one gives what they are worth, also past the largest number that is held.
use Rattle.std.proofs.Common.{◌≡◌, ℕ, ◌+◌, ◌-◌, ◌*◌, ◌&&◌, true, Bool, length, List, [], ◌∷◌, Some, None, sym, refl, ap, ◌∙◌, arith}
use Rattle.std.proofs.lemmas.Bool.{cond-true}
use Rattle.std.specs.Char.{is_ascii_digit}
use Rattle.std.specs.List.{fold, list_all}
use Rattle.std.specs.Str.{all_ascii_digits}
use Rattle.script.specs.Text.{value_after, held, number_of}

-- one digit more
abbrev pub one_more : ℕ → ℕ → ℕ
one_more n b = held (held (n * 10) + (b - 48))

one_more_held : (n b : ℕ) → one_more (held n) b ≡ held (n * 10 + (b - 48))
one_more_held n b = omega arith

held_fold : (n : ℕ) (bs : List ℕ) → fold one_more (held n) bs ≡ held (value_after n bs)
held_fold n [] = refl
held_fold n (b ∷ bs) = ap (λ (m : ℕ). fold one_more m bs) (one_more_held n b) ∙ held_fold (n * 10 + (b - 48)) bs

digits_are : (bs : List ℕ) → all_ascii_digits bs ≡ list_all is_ascii_digit bs
digits_are [] = refl
digits_are (b ∷ bs) = ap (λ (r : Bool). is_ascii_digit b && r) (digits_are bs)

pub number_some : (w : List ℕ) → (length w ≡ 0 → ⊥) → list_all is_ascii_digit w ≡ true → Some (fold one_more 0 w) ≡ number_of w
number_some [] some d = absurd (some refl)
number_some (b ∷ bs) some d = ap Some (held_fold 0 (b ∷ bs)) ∙ sym (cond-true (all_ascii_digits (b ∷ bs)) _ None (digits_are (b ∷ bs) ∙ d))
