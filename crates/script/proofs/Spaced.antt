-- Words are cut at blanks: what may be passed over, and where a word ends.
use Rattle.std.proofs.Common.{◌≡◌, ℕ, suc, ◌+◌, ◌<◌, Bool, true, false, not, List, [], ◌∷◌, ◌++◌, length, take, drop, sym, refl, ap, ◌∙◌, ⊎_elim, append_assoc, append-nil, arith}
use Rattle.std.proofs.lemmas.Bool.{cond-true, cond-false, cases_Bool}
use Rattle.std.specs.List.{prefix_len}
use Rattle.script.specs.Text.{is_blank, ended, words_after, words_of}

-- a byte of a word
abbrev pub in_word : ℕ → Bool
in_word b = not (is_blank b)

module _ (p : ℕ → Bool) (b : ℕ) (bs : List ℕ) where
  passed : p b ≡ true → prefix_len p (b ∷ bs) ≡ suc (prefix_len p bs)
  passed e = let one : 1 + prefix_len p bs ≡ suc (prefix_len p bs) = omega arith in cond-true (p b) (1 + prefix_len p bs) 0 e ∙ one

  stopped : p b ≡ false → prefix_len p (b ∷ bs) ≡ 0
  stopped e = cond-false (p b) (1 + prefix_len p bs) 0 e

-- a blank in front is passed over
pub words_blank : (b : ℕ) (bs : List ℕ) → is_blank b ≡ true → words_of (b ∷ bs) ≡ words_of bs
words_blank b bs e = cond-true (is_blank b) (words_of bs) (words_after (b ∷ []) bs) e

-- what stands after the blanks in front
abbrev past_blanks : List ℕ → List ℕ
past_blanks bs = drop (prefix_len is_blank bs) bs

past_blank : (b : ℕ) (bs : List ℕ) → is_blank b ≡ true → past_blanks (b ∷ bs) ≡ past_blanks bs
past_blank b bs e = ap (λ (n : ℕ). drop n (b ∷ bs)) (passed is_blank b bs e)

past_none : (b : ℕ) (bs : List ℕ) → is_blank b ≡ false → past_blanks (b ∷ bs) ≡ b ∷ bs
past_none b bs e = ap (λ (n : ℕ). drop n (b ∷ bs)) (stopped is_blank b bs e)

same_words : (bs : List ℕ) → words_of (past_blanks bs) ≡ words_of bs
same_words [] = refl
same_words (b ∷ bs) =
    ⊎_elim (λ (e : is_blank b ≡ true). ap words_of (past_blank b bs e) ∙ same_words bs ∙ sym (words_blank b bs e)) (λ (e : is_blank b ≡ false). ap words_of (past_none b bs e)) (cases_Bool (is_blank b))

-- they were all blanks, where no word follows them
only_blanks : (bs : List ℕ) → prefix_len in_word (past_blanks bs) ≡ 0 → past_blanks bs ≡ []
only_blanks [] h = refl
only_blanks (b ∷ bs) h =
    ⊎_elim (λ (e : is_blank b ≡ true). past_blank b bs e ∙ only_blanks bs (ap (prefix_len in_word) (sym (past_blank b bs e)) ∙ h)) (λ (e : is_blank b ≡ false). let z = ap (prefix_len in_word) (sym (past_none b bs e)) ∙ h in absurd (omega (arith, z, passed in_word b bs (ap not e)))) (cases_Bool (is_blank b))

-- the bytes up to the first blank belong to the word before them
words_run : (w bs : List ℕ) → words_after w bs ≡ ended (w ++ take (prefix_len in_word bs) bs) (words_of (drop (prefix_len in_word bs) bs))
words_run w [] = ap (λ (v : List ℕ). ended v []) (sym (append-nil w))
words_run w (b ∷ bs) = ⊎_elim ends (goes (words_run (w ++ b ∷ []) bs)) (cases_Bool (is_blank b))
  where
    ends : is_blank b ≡ true → words_after w (b ∷ bs) ≡ ended (w ++ take (prefix_len in_word (b ∷ bs)) (b ∷ bs)) (words_of (drop (prefix_len in_word (b ∷ bs)) (b ∷ bs)))
    ends e =
        cond-true (is_blank b) (ended w (words_of bs)) (words_after (w ++ b ∷ []) bs) e ∙ ap (ended w) (sym (words_blank b bs e)) ∙ ap (λ (v : List ℕ). ended v (words_of (b ∷ bs))) (sym (append-nil w))
        ∙ ap (λ (n : ℕ). ended (w ++ take n (b ∷ bs)) (words_of (drop n (b ∷ bs)))) (sym (stopped in_word b bs (ap not e)))

    goes : words_after (w ++ b ∷ []) bs ≡ ended ((w ++ b ∷ []) ++ take (prefix_len in_word bs) bs) (words_of (drop (prefix_len in_word bs) bs)) → is_blank b ≡ false → words_after w (b ∷ bs) ≡ ended (w ++ take (prefix_len in_word (b ∷ bs)) (b ∷ bs)) (words_of (drop (prefix_len in_word (b ∷ bs)) (b ∷ bs)))
    goes more e =
        let n = prefix_len in_word bs in
        cond-false (is_blank b) (ended w (words_of bs)) (words_after (w ++ b ∷ []) bs) e ∙ more ∙ ap (λ (v : List ℕ). ended v (words_of (drop n bs))) (append_assoc w (b ∷ []) (take n bs))
        ∙ ap (λ (m : ℕ). ended (w ++ take m (b ∷ bs)) (words_of (drop m (b ∷ bs)))) (sym (passed in_word b bs (ap not e)))

pub ended_some : (w : List ℕ) (ws : List (List ℕ)) → 0 < length w → ended w ws ≡ w ∷ ws
ended_some [] ws h = absurd (omega arith)
ended_some (b ∷ bs) ws h = refl

module _ (bs text word rest : List ℕ) (n m : ℕ) (passed : n ≡ prefix_len is_blank bs) (after : text ≡ drop n bs) (long : m ≡ prefix_len in_word text) (cut : word ≡ take m text) (left : rest ≡ drop m text) where
  same_text : text ≡ past_blanks bs
  same_text = after ∙ ap (λ (k : ℕ). drop k bs) passed

  of_text : words_of bs ≡ ended word (words_of rest)
  of_text =
      sym (same_words bs) ∙ ap words_of (sym same_text) ∙ words_run [] text ∙ ap (λ (k : ℕ). ended (take k text) (words_of (drop k text))) (sym long)
      ∙ ap (λ (w : List ℕ). ended w (words_of (drop m text))) (sym cut) ∙ ap (λ (r : List ℕ). ended word (words_of r)) (sym left)

  -- the first word of a text
  pub some_word : 0 < length word → words_of bs ≡ word ∷ words_of rest
  some_word h = of_text ∙ ended_some word (words_of rest) h

  -- a text without words
  pub no_word : m ≡ 0 → (words_of bs ≡ []) × (words_of rest ≡ [])
  no_word z =
      let none = same_text ∙ only_blanks bs (ap (prefix_len in_word) (sym same_text) ∙ sym long ∙ z) in
      let over = left ∙ ap (λ (k : ℕ). drop k text) z ∙ none in
      (sym (same_words bs) ∙ ap words_of (sym same_text ∙ none), ap words_of over)
