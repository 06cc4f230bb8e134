-- The forms of a line as one writes it, and that each is read as what it means.
use Rattle.std.specs.Prelude.{◌≡◌, ℕ, ◌<◌, false, List, [], ◌∷◌, ◌++◌, length, Some, codes}
use Rattle.std.specs.List.{AllByRecursion}
use Rattle.script.specs.Lines.{Written, line_of, part_with, run, new, least, gives, drawn, want, give, tick, bad, slow}
use Rattle.script.specs.Text.{is_blank, number_of, words_of}

-- words with single spaces between them
abbrev pub unwords : List (List ℕ) → List ℕ
unwords [] = []
unwords (w ∷ []) = w
unwords (w ∷ v ∷ ws) = w ++ 32 ∷ unwords (v ∷ ws)

-- a word: some bytes, and no blank
abbrev pub IsWord : List ℕ → Type 0
IsWord w = (0 < length w) × AllByRecursion (λ b. is_blank b ≡ false) w

-- the word is a spelling of the number
abbrev pub Spells : List ℕ → ℕ → Type 0
Spells w n = number_of w ≡ Some n

-- one by one
abbrev pub Pairwise : {A B : Type 0} → (A → B → Type 0) → List A → List B → Type 0
Pairwise R [] [] = Unit {0}
Pairwise R [] (y ∷ ys) = ⊥
Pairwise R (x ∷ xs) [] = ⊥
Pairwise R (x ∷ xs) (y ∷ ys) = R x y × Pairwise R xs ys

-- the words of a need that say something of their own; it has a level at least
pub record NeedWords : Type 0 where
  pub on : List ℕ
  pub level : List ℕ
  pub levels : List (List ℕ)
  pub most : List ℕ

-- they spell this need
pub record SpellsNeed (s : NeedWords) (n : Written) : Type 0 where
  pub on : Spells s.on n.on
  pub levels : Pairwise Spells (s.level ∷ s.levels) n.levels
  pub most : Spells s.most n.most

-- a need in full, before the words ws
abbrev pub need_before : NeedWords → List (List ℕ) → List (List ℕ)
need_before s ws = s.on ∷ codes "from" ∷ s.level ∷ (s.levels ++ codes "most" ∷ s.most ∷ ws)

-- needs with `and` between them
abbrev pub needs_words : NeedWords → List NeedWords → List (List ℕ)
needs_words s [] = need_before s []
needs_words s (t ∷ ts) = need_before s (codes "and" ∷ needs_words t ts)

-- what stands after `part X` and its draws
abbrev pub needs_part : List NeedWords → List (List ℕ)
needs_part [] = []
needs_part (s ∷ ss) = codes "needs" ∷ needs_words s ss

-- what stands after `part X`: the words of its draws, if it has any, and its needs
abbrev pub part_words : List (List ℕ) → List NeedWords → List (List ℕ)
part_words [] ss = needs_part ss
part_words (d ∷ ds) ss = codes "draws" ∷ d ∷ (ds ++ needs_part ss)

pub record ReadsBack : Type 0 where
  pub words : (ws : List (List ℕ)) → AllByRecursion IsWord ws → words_of (unwords ws) ≡ ws
  pub part : (w : List ℕ) (x : ℕ) (ds : List (List ℕ)) (ms : List ℕ) (ss : List NeedWords) (ns : List Written) → Spells w x → Pairwise Spells ds ms → Pairwise SpellsNeed ss ns →
      line_of (codes "part" ∷ w ∷ part_words ds ss) ≡ Some (part_with x ms ns)
  pub gives : (w : List ℕ) (n : ℕ) → Spells w n → line_of (codes "gives" ∷ w ∷ []) ≡ Some (gives n)
  pub run : line_of (codes "run" ∷ []) ≡ Some run
  pub new : line_of (codes "new" ∷ []) ≡ Some new
  pub least : line_of (codes "least" ∷ []) ≡ Some least
  pub drawn : line_of (codes "drawn" ∷ []) ≡ Some drawn
  pub want : (w v u : List ℕ) (user x l : ℕ) → Spells w user → Spells v x → Spells u l → line_of (w ∷ codes "want" ∷ v ∷ u ∷ []) ≡ Some (want user x l)
  pub give : (w : List ℕ) (user : ℕ) → Spells w user → line_of (w ∷ codes "give" ∷ []) ≡ Some (give user)
  pub tick : (w : List ℕ) (n : ℕ) → Spells w n → line_of (codes "tick" ∷ w ∷ []) ≡ Some (tick n)
  pub bad : (w : List ℕ) (x : ℕ) → Spells w x → line_of (codes "bad" ∷ w ∷ []) ≡ Some (bad x)
  pub slow : (w v : List ℕ) (x n : ℕ) → Spells w x → Spells v n → 0 < n → line_of (codes "slow" ∷ w ∷ v ∷ []) ≡ Some (slow x n)
