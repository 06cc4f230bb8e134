-- Each form of a line is read as what it means.
use Rattle.std.proofs.Common.{◌≡◌, ℕ, true, false, eqb, List, [], ◌∷◌, ◌++◌, Some, None, codes, Option, sym, refl, ap, ◌∙◌, ⊎_elim, append_assoc, append-nil, arith}
use Rattle.std.proofs.lemmas.Slice.Eq.{bytes_eq-Decides}
use Rattle.std.proofs.lemmas.Bool.{cond-false, cases_Bool, ne_eqb}
use Rattle.std.specs.List.{AllByRecursion as All}
use Rattle.std.specs.Str.{bytes_eq}
use Rattle.script.proofs.Listed.{other_first}
use Rattle.script.proofs.Spaced.{ended_some}
use Rattle.script.specs.Forms.{unwords, IsWord, Spells, Pairwise, NeedWords, SpellsNeed, need_before, needs_words, needs_part, part_words, ReadsBack}
use Rattle.script.specs.Lines.{Written, after, levels, most, follow, needs, from_word, first_level, line_of, user_line, with_number, only, slow_line, draws_line, part_line, part_with, gives, want, tick, bad, slow}
use Rattle.script.specs.Text.{is_blank, ended, number_of, words_after, words_of}

-- bytes without a blank go to the word before them
words_in : (v w rest : List ℕ) → All (λ b. is_blank b ≡ false) w → words_after v (w ++ rest) ≡ words_after (v ++ w) rest
words_in v [] rest a = ap (λ (u : List ℕ). words_after u rest) (sym (append-nil v))
words_in v (b ∷ w) rest a =
    cond-false (is_blank b) (ended v (words_of (w ++ rest))) (words_after (v ++ b ∷ []) (w ++ rest)) a.0 ∙ words_in (v ++ b ∷ []) w rest a.1
    ∙ ap (λ (u : List ℕ). words_after u rest) (append_assoc v (b ∷ []) w)

words_back : (ws : List (List ℕ)) → All IsWord ws → words_of (unwords ws) ≡ ws
words_back [] a = refl
words_back (w ∷ []) a = ap words_of (sym (append-nil w)) ∙ words_in [] w [] a.0.1 ∙ ended_some w [] a.0.0
words_back (w ∷ v ∷ ws) a =
    words_in [] w (32 ∷ unwords (v ∷ ws)) a.0.1 ∙ ended_some w (words_of (unwords (v ∷ ws))) a.0.0 ∙ ap (λ (us : List (List ℕ)). w ∷ us) (words_back (v ∷ ws) a.1)

-- a number is no word that is none
not_word : (w k : List ℕ) (n : ℕ) → Spells w n → number_of k ≡ None → bytes_eq w k ≡ false
not_word w k n s e = ⊎_elim (λ (t : bytes_eq w k ≡ true). absurd (clash (ap number_of ((bytes_eq-Decides w k).0 t)))) (λ (t : bytes_eq w k ≡ false). t) (cases_Bool (bytes_eq w k))
  where
    clash : number_of w ≡ number_of k → ⊥
    clash same = let z : ◌≡◌ {A = ℕ} 0 1 = cc in omega arith

module _ {A : Type 0} (f : ℕ → Option A) where
  spelt : (w : List ℕ) (n : ℕ) → Spells w n → after (number_of w) f ≡ f n
  spelt w n s = ap (λ (o : Option ℕ). after o f) s

levels_back : (on : ℕ) (ls : List ℕ) (xs : List (List ℕ)) (bs : List ℕ) (rest : List (List ℕ)) → Pairwise Spells xs bs → levels on ls (xs ++ codes "most" ∷ rest) ≡ most on (ls ++ bs) rest
levels_back on ls [] [] rest p = ap (λ (ms : List ℕ). most on ms rest) (sym (append-nil ls))
levels_back on ls [] (b ∷ bs) rest p = absurd p
levels_back on ls (a ∷ xs) [] rest p = absurd p
levels_back on ls (a ∷ xs) (b ∷ bs) rest p =
    cond-false (bytes_eq a (codes "most")) _ _ (not_word a (codes "most") b p.0 refl) ∙ spelt (λ l. levels on (ls ++ l ∷ []) (xs ++ codes "most" ∷ rest)) a b p.0
    ∙ levels_back on (ls ++ b ∷ []) xs bs rest p.1 ∙ ap (λ (ms : List ℕ). most on ms rest) (append_assoc ls (b ∷ []) bs)

need_back : (s : NeedWords) (n : Written) (ws : List (List ℕ)) → SpellsNeed s n → needs (need_before s ws) ≡ follow n ws
need_back s n ws h =
    spelt (λ on. from_word on (codes "from" ∷ s.level ∷ (s.levels ++ codes "most" ∷ s.most ∷ ws))) s.on n.on h.on ∙ read n.levels h.levels
  where
    read : (ls : List ℕ) → Pairwise Spells (s.level ∷ s.levels) ls → first_level n.on (s.level ∷ (s.levels ++ codes "most" ∷ s.most ∷ ws)) ≡ follow (record { on = n.on; levels = ls; most = n.most }) ws
    read [] p = absurd p
    read (l ∷ ls) p =
        spelt (λ m. levels n.on (m ∷ []) (s.levels ++ codes "most" ∷ s.most ∷ ws)) s.level l p.0 ∙ levels_back n.on (l ∷ []) s.levels ls (s.most ∷ ws) p.1
        ∙ spelt (λ m. follow (record { on = n.on; levels = l ∷ ls; most = m }) ws) s.most n.most h.most

needs_back : (s : NeedWords) (ss : List NeedWords) (n : Written) (ns : List Written) → SpellsNeed s n → Pairwise SpellsNeed ss ns → needs (needs_words s ss) ≡ Some (n ∷ ns)
needs_back s [] n [] h p = need_back s n [] h
needs_back s [] n (m ∷ ns) h p = absurd p
needs_back s (t ∷ ts) n [] h p = absurd p
needs_back s (t ∷ ts) n (m ∷ ns) h p =
    need_back s n (codes "and" ∷ needs_words t ts) h ∙ ap (λ (o : Option (List Written)). after o (λ ms. Some (n ∷ ms))) (needs_back t ts m ns p.0 p.1)

-- after these draws
listed_back : (x : ℕ) (ds : List ℕ) (ss : List NeedWords) (ns : List Written) → Pairwise SpellsNeed ss ns → draws_line x ds (needs_part ss) ≡ Some (part_with x ds ns)
listed_back x ds [] [] p = refl
listed_back x ds [] (n ∷ ns) p = absurd p
listed_back x ds (s ∷ ss) [] p = absurd p
listed_back x ds (s ∷ ss) (n ∷ ns) p = ap (λ (o : Option (List Written)). after o (λ ms. Some (part_with x ds ms))) (needs_back s ss n ns p.0 p.1)

draws_back : (x : ℕ) (ds : List ℕ) (xs : List (List ℕ)) (bs : List ℕ) (rest : List (List ℕ)) → Pairwise Spells xs bs → draws_line x ds (xs ++ rest) ≡ draws_line x (ds ++ bs) rest
draws_back x ds [] [] rest p = ap (λ (ms : List ℕ). draws_line x ms rest) (sym (append-nil ds))
draws_back x ds [] (b ∷ bs) rest p = absurd p
draws_back x ds (a ∷ xs) [] rest p = absurd p
draws_back x ds (a ∷ xs) (b ∷ bs) rest p =
    cond-false (bytes_eq a (codes "needs")) _ _ (not_word a (codes "needs") b p.0 refl) ∙ spelt (λ d. draws_line x (ds ++ d ∷ []) (xs ++ rest)) a b p.0
    ∙ draws_back x (ds ++ b ∷ []) xs bs rest p.1 ∙ ap (λ (ms : List ℕ). draws_line x ms rest) (append_assoc ds (b ∷ []) bs)

-- without draws
plain_back : (x : ℕ) (ss : List NeedWords) (ns : List Written) → Pairwise SpellsNeed ss ns → part_line x (needs_part ss) ≡ Some (part_with x [] ns)
plain_back x [] [] p = refl
plain_back x [] (n ∷ ns) p = absurd p
plain_back x (s ∷ ss) [] p = absurd p
plain_back x (s ∷ ss) (n ∷ ns) p = ap (λ (o : Option (List Written)). after o (λ ms. Some (part_with x [] ms))) (needs_back s ss n ns p.0 p.1)

part_back : (x : ℕ) (ds : List (List ℕ)) (ms : List ℕ) (ss : List NeedWords) (ns : List Written) → Pairwise Spells ds ms → Pairwise SpellsNeed ss ns → part_line x (part_words ds ss) ≡ Some (part_with x ms ns)
part_back x [] [] ss ns q p = plain_back x ss ns p
part_back x [] (m ∷ ms) ss ns q p = absurd q
part_back x (d ∷ ds) [] ss ns q p = absurd q
part_back x (d ∷ ds) (m ∷ ms) ss ns q p =
    spelt (λ a. draws_line x (a ∷ []) (ds ++ needs_part ss)) d m q.0 ∙ draws_back x (m ∷ []) ds ms (needs_part ss) q.1 ∙ listed_back x (m ∷ ms) ss ns p

-- a line that begins with a number is a user's
user_back : (w : List ℕ) (u : ℕ) (ws : List (List ℕ)) → Spells w u → line_of (w ∷ ws) ≡ user_line u ws
user_back w u ws s =
    let other = λ (k : List ℕ) (e : number_of k ≡ None). not_word w k u s e in
    other_first w ws (other (codes "part") refl) (other (codes "run") refl) (other (codes "new") refl) (other (codes "tick") refl) (other (codes "bad") refl) (other (codes "slow") refl) (other (codes "least") refl) (other (codes "gives") refl) (other (codes "drawn") refl)
    ∙ spelt (λ v. user_line v ws) w u s

pub reads_back : ReadsBack
reads_back =
    record {
      words = words_back;
      part = λ w x ds ms ss ns s q p. spelt (λ y. part_line y (part_words ds ss)) w x s ∙ part_back x ds ms ss ns q p;
      gives = λ w n s. spelt (λ m. only (gives m) []) w n s;
      run = refl;
      new = refl;
      least = refl;
      drawn = refl;
      want = λ w v u user x l s q r. user_back w user (codes "want" ∷ v ∷ u ∷ []) s ∙ spelt (λ y. with_number (λ m. only (want user y m)) (u ∷ [])) v x q ∙ spelt (λ m. only (want user x m) []) u l r;
      give = λ w user s. user_back w user (codes "give" ∷ []) s;
      tick = λ w n s. spelt (λ m. only (tick m) []) w n s;
      bad = λ w x s. spelt (λ y. only (bad y) []) w x s;
      slow = λ w v x n s q h. spelt (λ y. with_number (slow_line y) (v ∷ [])) w x s ∙ spelt (λ m. slow_line x m []) v n q ∙ cond-false (eqb n 0) None (only (slow x n) []) (ne_eqb n 0 (λ z. omega arith));
    }
