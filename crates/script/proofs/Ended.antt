-- Where a line ends: at the first newline, less a carriage return at the end.
use Rattle.std.proofs.Common.{◌≡◌, ℕ, zero, suc, ◌+◌, ◌-◌, ◌<◌, ◌≤◌, ltb, Bool, true, false, not, cond, eqb, List, [], ◌∷◌, length, get_or, take, drop, Option, None, Some, MatchOption, sym, refl, ap, ◌∙◌, subst, arith}
use Rattle.std.specs.List.{position, position_or_len, before_first, after_first}
use Rattle.std.proofs.lemmas.List.{length-drop, take_all, drop_all}
use Rattle.std.proofs.lemmas.Bool.{cond-true, cond-false, eq-eqb, ne_eqb, ltb-false}
use Rattle.script.specs.Sources.{first_line, after_line, without_return}

one_more : (n : ℕ) → 1 + n ≡ suc n
one_more n = omega arith

front_step : (t : Bool) (b n : ℕ) (bs line : List ℕ) → take n bs ≡ line → take (cond (not t) (1 + n) 0) (b ∷ bs) ≡ cond t [] (b ∷ line)
front_step true b n bs line e = refl
front_step false b n bs line e = ap (λ (k : ℕ). take k (b ∷ bs)) (one_more n) ∙ ap (λ (l : List ℕ). b ∷ l) e

first_line_is : (bs : List ℕ) → before_first (λ b. eqb b 10) bs ≡ first_line bs
first_line_is [] = refl
first_line_is (b ∷ bs) = front_step (eqb b 10) b _ bs (first_line bs) (first_line_is bs)

one_past : (n : ℕ) → (1 + n) + 1 ≡ suc (n + 1)
one_past n = omega arith

rest_step : (t : Bool) (b n : ℕ) (bs rest : List ℕ) → drop (n + 1) bs ≡ rest → drop (cond (not t) (1 + n) 0 + 1) (b ∷ bs) ≡ cond t bs rest
rest_step true b n bs rest e = refl
rest_step false b n bs rest e = ap (λ (k : ℕ). drop k (b ∷ bs)) (one_past n) ∙ e

after_line_is : (bs : List ℕ) → after_first (λ b. eqb b 10) bs ≡ after_line bs
after_line_is [] = refl
after_line_is (b ∷ bs) = rest_step (eqb b 10) b _ bs (after_line bs) (after_line_is bs)

pub after_shorter : (bs : List ℕ) → 0 < length bs → length (after_line bs) < length bs
after_shorter bs some = omega (arith, ap length (after_line_is bs), length-drop (position_or_len (λ b. eqb b 10) bs + 1) bs)

-- what is told of a line that ends at n, and of one that nothing ends
abbrev pub EndsAt : List ℕ → Option ℕ → Type 0
EndsAt text r = MatchOption r ((text ≡ first_line text) × ([] ≡ after_line text)) (λ n. (take n text ≡ first_line text) × (drop (n + 1) text ≡ after_line text))

ends_within : (text : List ℕ) (n : ℕ) (t : Bool) → ltb n (length text) ≡ t → take n text ≡ first_line text → drop (n + 1) text ≡ after_line text → EndsAt text (cond t (Some n) None)
ends_within text n true h f r = (f, r)
ends_within text n false h f r =
    let past : length text ≤ n = ltb-false n (length text) h in
    (sym (take_all n text past) ∙ f, sym (drop_all (n + 1) text (omega (arith, past))) ∙ r)

pub ends_at : (text : List ℕ) (r : Option ℕ) → r ≡ position (λ b. eqb b 10) text → EndsAt text r
ends_at text r e = subst (EndsAt text) (sym e) (ends_within text _ _ refl (first_line_is text) (after_line_is text))

-- a carriage return at the end
last_off : (k : ℕ) (bs : List ℕ) → length bs ≡ suc k → get_or bs k 0 ≡ 13 → take k bs ≡ without_return bs
last_off k [] l e = absurd (omega arith)
last_off zero (b ∷ []) l e = sym (cond-true (eqb b 13) [] (b ∷ []) (eq-eqb b 13 e))
last_off (suc k) (b ∷ []) l e = absurd (omega arith)
last_off zero (b ∷ c ∷ bs) l e = absurd (omega arith)
last_off (suc k) (b ∷ c ∷ bs) l e = ap (λ (xs : List ℕ). b ∷ xs) (last_off k (c ∷ bs) (omega arith) e)

other_on : (k : ℕ) (bs : List ℕ) → length bs ≡ suc k → (get_or bs k 0 ≡ 13 → ⊥) → bs ≡ without_return bs
other_on k [] l e = absurd (omega arith)
other_on zero (b ∷ []) l e = sym (cond-false (eqb b 13) [] (b ∷ []) (ne_eqb b 13 e))
other_on (suc k) (b ∷ []) l e = absurd (omega arith)
other_on zero (b ∷ c ∷ bs) l e = absurd (omega arith)
other_on (suc k) (b ∷ c ∷ bs) l e = ap (λ (xs : List ℕ). b ∷ xs) (other_on k (c ∷ bs) (omega arith) e)

pub without_last : (bs : List ℕ) → 1 ≤ length bs → get_or bs (length bs - 1) 0 ≡ 13 → take (length bs - 1) bs ≡ without_return bs
without_last bs some e = last_off (length bs - 1) bs (omega (arith, some)) e

pub without_other : (bs : List ℕ) → 1 ≤ length bs → (get_or bs (length bs - 1) 0 ≡ 13 → ⊥) → bs ≡ without_return bs
without_other bs some e = other_on (length bs - 1) bs (omega (arith, some)) e
