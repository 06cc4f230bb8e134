-- What the steps of reading a line have read: for the contracts of the functions below `read_line`.
use Rattle.std.specs.Prelude.{◌≡◌, ℕ, Bool, true, false, cond, leb, List, [], ◌∷◌, ◌++◌, map, length, take, drop, Some, None, Option}
use Rattle.std.specs.Str.{bytes_eq}
use Rattle.sim.specs.Plans.{need_of, needs_of}
use Rattle.sim.specs.declared.plan.PlanNeed.{PlanNeed}
use Rattle.sim.specs.declared.plan.PlanPart.{PlanPart}
use Rattle.script.specs.Text.{number_of}
use Rattle.script.specs.Lines.{Said, Written, after, only, spread, need_from, up_to, levels_fit, draws_fit, need_fits, needs_fit, with_number}

-- n is the first number of the words ws, and rest follows it
pub record Began (n : ℕ) (ws rest : List (List ℕ)) : Type 0 where
  pub word : List ℕ
  pub front : ws ≡ word ∷ rest
  pub value : number_of word ≡ Some n

-- the words begin with no number
abbrev pub Lacks : List (List ℕ) → Type 0
Lacks [] = Unit {0}
Lacks (w ∷ ws) = number_of w ≡ None

-- the words don't begin with v
abbrev pub Misses : List ℕ → List (List ℕ) → Type 0
Misses v [] = Unit {0}
Misses v (w ∷ ws) = bytes_eq w v ≡ false

-- there is no word, or v
abbrev pub Stops : List ℕ → List (List ℕ) → Type 0
Stops v [] = Unit {0}
Stops v (w ∷ ws) = bytes_eq w v ≡ true

-- after these numbers: those up to the word v or the end, and the words from there on
abbrev pub numbers_until : List ℕ → List ℕ → List (List ℕ) → Option (List ℕ × List (List ℕ))
numbers_until v ns [] = Some (ns, [])
numbers_until v ns (w ∷ ws) = cond (bytes_eq w v) (Some (ns, w ∷ ws)) (after (number_of w) (λ n. numbers_until v (ns ++ n ∷ []) ws))

-- the same where one number stands at least
abbrev pub numbers_to : List ℕ → List (List ℕ) → Option (List ℕ × List (List ℕ))
numbers_to v ws = with_number (λ n. numbers_until v (n ∷ [])) ws

-- the first n after level 0
abbrev pub written : ℕ → List ℕ → List ℕ
written n ls = take n (drop 1 ls)

-- up to 15 numbers, each up to top
abbrev pub spread_fits : ℕ → List ℕ → Bool
spread_fits top ls = up_to 15 (λ l. leb l top) ls

-- the first `count` levels are numbers that fit, and the last of them holds for all that follow
pub record IsSpread (top count : ℕ) (levels : List ℕ) : Type 0 where
  pub long : length (written count levels) ≡ count
  pub fits : spread_fits top (written count levels) ≡ true
  pub all : levels ≡ 0 ∷ spread 15 0 (written count levels)

-- these numbers, if they fit
abbrev pub if_spread_fits : ℕ → List ℕ → Option (List ℕ)
if_spread_fits top ls = cond (spread_fits top ls) (Some ls) None

-- the levels ls were read, and are those, or none that a plan can hold
abbrev pub Levelled : Option (List ℕ) → List ℕ → Type 0
Levelled o ls = o ≡ cond (levels_fit ls) (Some ls) None

-- the draws ds were read, and are those, or none that a plan can hold
abbrev pub Drew : Option (List ℕ) → List ℕ → Type 0
Drew o ds = o ≡ cond (draws_fit ds) (Some ds) None

-- the need w was read, and is no need of a plan, or this one
abbrev pub Needed : Option PlanNeed → Written → Type 0
Needed None w = need_fits w ≡ false
Needed (Some n) w = (need_fits w ≡ true) × (need_of n ≡ need_from w)

-- the needs ws were read, and are those of this part, or none that a plan can hold
abbrev pub Gathered : Option PlanPart → List Written → Type 0
Gathered None ws = needs_fit ws ≡ false
Gathered (Some p) ws = (needs_fit ws ≡ true) × (needs_of p ≡ map need_from ws)

-- this, if it says something and no word follows
abbrev pub only_if : Option Said → List (List ℕ) → Option Said
only_if o ws = after o (λ s. only s ws)
