-- What a line says, word by word.
use Rattle.std.specs.Prelude.{ℕ, zero, suc, Bool, true, cond, ◌&&◌, leb, List, [], ◌∷◌, ◌++◌, map, length, Some, None, Ok, Err, codes, Option, Result, ◌==◌, nat_le}
use Rattle.std.specs.Str.{bytes_eq}
use Rattle.power.specs.Board.{Need}
use Rattle.sim.specs.Plans.{needs_of, draw_of}
use Rattle.script.specs.Text.{number_of}
use Rattle.script.specs.declared.line.Line.{Line}
use Rattle.script.specs.declared.line.Line.TheVariants as line
use Rattle.script.specs.declared.line.NoLine.{NoLine}
use Rattle.script.specs.declared.line.NoLine.TheVariants as fault

-- a need as it is written: the part, its least at level 1, 2, .. and its most
pub record Written : Type 0 where
  pub on : ℕ
  pub levels : List ℕ
  pub most : ℕ

-- n levels: those that are written, and the last of them for all that follow
abbrev pub spread : ℕ → ℕ → List ℕ → List ℕ
spread zero l ls = []
spread (suc n) l [] = l ∷ spread n l []
spread (suc n) l (m ∷ ls) = m ∷ spread n m ls

-- the need that is written; level 0 asks for nothing
abbrev pub need_from : Written → Need
need_from w = record { on = w.on; least = 0 ∷ spread 15 0 w.levels; most = w.most }

abbrev pub each : {A : Type 0} → (A → Bool) → List A → Bool
each f [] = true
each f (x ∷ xs) = f x && each f xs

-- up to n, and f holds of each
abbrev pub up_to : {A : Type 0} → ℕ → (A → Bool) → List A → Bool
up_to n f xs = nat_le (length xs) n && each f xs

-- a plan can hold up to 15 levels, each up to 15
abbrev pub levels_fit : List ℕ → Bool
levels_fit ls = up_to 15 (λ l. leb l 15) ls

abbrev pub need_fits : Written → Bool
need_fits w = levels_fit w.levels && nat_le w.most 15

-- up to four needs
abbrev pub needs_fit : List Written → Bool
needs_fit ws = up_to 4 need_fits ws

-- up to 15 draws, of any size
abbrev pub draws_fit : List ℕ → Bool
draws_fit ds = nat_le (length ds) 15

-- what a line says
pub data Said : Type 0 where
  part : ℕ → List ℕ → List Need → Said
  unfit : ℕ → Said
  run : Said
  new : Said
  least : Said
  gives : ℕ → Said
  drawn : Said
  want : ℕ → ℕ → ℕ → Said
  give : ℕ → Said
  tick : ℕ → Said
  bad : ℕ → Said
  slow : ℕ → ℕ → Said

-- part x with these draws, at level 1, 2, .., and these needs, if a plan can hold them; off it draws nothing
abbrev pub part_with : ℕ → List ℕ → List Written → Said
part_with x ds ns = cond (draws_fit ds && needs_fit ns) (part x (0 ∷ spread 15 0 ds) (map need_from ns)) (unfit x)

abbrev pub after : {A B : Type 0} → Option A → (A → Option B) → Option B
after None f = None
after (Some x) f = f x

-- no word more
abbrev pub only : Said → List (List ℕ) → Option Said
only s [] = Some s
only s (w ∷ ws) = None

-- a number, and then what f makes of it and of the words that follow
abbrev pub with_number : {A : Type 0} → (ℕ → List (List ℕ) → Option A) → List (List ℕ) → Option A
with_number f [] = None
with_number f (w ∷ ws) = after (number_of w) (λ n. f n ws)

abbrev mutual
  -- the part that is needed
  pub needs : List (List ℕ) → Option (List Written)
  needs [] = None
  needs (w ∷ ws) = after (number_of w) (λ on. from_word on ws)

  -- `from`
  pub from_word : ℕ → List (List ℕ) → Option (List Written)
  from_word on [] = None
  from_word on (w ∷ ws) = cond (bytes_eq w (codes "from")) (first_level on ws) None

  -- the first level
  pub first_level : ℕ → List (List ℕ) → Option (List Written)
  first_level on [] = None
  first_level on (w ∷ ws) = after (number_of w) (λ l. levels on (l ∷ []) ws)

  -- after these levels: one more, or `most`
  pub levels : ℕ → List ℕ → List (List ℕ) → Option (List Written)
  levels on ls [] = None
  levels on ls (w ∷ ws) = cond (bytes_eq w (codes "most")) (most on ls ws) (after (number_of w) (λ l. levels on (ls ++ l ∷ []) ws))

  -- the most, and then what follows the need
  pub most : ℕ → List ℕ → List (List ℕ) → Option (List Written)
  most on ls [] = None
  most on ls (m ∷ ws) = after (number_of m) (λ n. follow (record { on = on; levels = ls; most = n }) ws)

  -- nothing, or `and` and more needs
  pub follow : Written → List (List ℕ) → Option (List Written)
  follow n [] = Some (n ∷ [])
  follow n (w ∷ ws) = cond (bytes_eq w (codes "and")) (after (needs ws) (λ ns. Some (n ∷ ns))) None

-- after `needs`
abbrev pub needs_line : ℕ → List ℕ → List (List ℕ) → Option Said
needs_line x ds ws = after (needs ws) (λ ns. Some (part_with x ds ns))

-- after these draws: nothing, one more, or `needs` and the needs
abbrev pub draws_line : ℕ → List ℕ → List (List ℕ) → Option Said
draws_line x ds [] = Some (part_with x ds [])
draws_line x ds (w ∷ ws) = cond (bytes_eq w (codes "needs")) (needs_line x ds ws) (after (number_of w) (λ d. draws_line x (ds ++ d ∷ []) ws))

-- after `part X`: nothing, `draws` and the draws, or `needs` and the needs
abbrev pub part_line : ℕ → List (List ℕ) → Option Said
part_line x [] = Some (part_with x [] [])
part_line x (w ∷ ws) = cond (bytes_eq w (codes "draws")) (with_number (λ d. draws_line x (d ∷ [])) ws) (cond (bytes_eq w (codes "needs")) (needs_line x [] ws) None)

-- after `slow X N`: nothing, where N is not 0
abbrev pub slow_line : ℕ → ℕ → List (List ℕ) → Option Said
slow_line x n ws = cond (n == 0) None (only (slow x n) ws)

-- after a user's number: `give`, or `want X L`
abbrev pub user_line : ℕ → List (List ℕ) → Option Said
user_line u [] = None
user_line u (w ∷ ws) = cond (bytes_eq w (codes "give")) (only (give u) ws) (cond (bytes_eq w (codes "want")) (with_number (λ x. with_number (λ l. only (want u x l))) ws) None)

-- what the words of a line say, if they are one
abbrev pub line_of : List (List ℕ) → Option Said
line_of [] = None
line_of (w ∷ ws) =
    cond (bytes_eq w (codes "part")) (with_number part_line ws)
    (cond (bytes_eq w (codes "run")) (only run ws)
    (cond (bytes_eq w (codes "new")) (only new ws)
    (cond (bytes_eq w (codes "tick")) (with_number (λ n. only (tick n)) ws)
    (cond (bytes_eq w (codes "bad")) (with_number (λ x. only (bad x)) ws)
    (cond (bytes_eq w (codes "slow")) (with_number (λ x. with_number (slow_line x)) ws)
    (cond (bytes_eq w (codes "least")) (only least ws)
    (cond (bytes_eq w (codes "gives")) (with_number (λ n. only (gives n)) ws)
    (cond (bytes_eq w (codes "drawn")) (only drawn ws)
    (after (number_of w) (λ u. user_line u ws))))))))))

-- what was read
abbrev pub said_of : Line → Said
said_of (line.Part x p) = part x (draw_of p) (needs_of p)
said_of (line.Unfit x) = unfit x
said_of line.Run = run
said_of line.New = new
said_of (line.Want u x l) = want u x l
said_of (line.Give u) = give u
said_of (line.Tick n) = tick n
said_of (line.Bad x) = bad x
said_of (line.Slow x n) = slow x n
said_of line.Least = least
said_of (line.Gives n) = gives n
said_of line.Drawn = drawn

abbrev pub heard : Result Line NoLine → Option Said
heard (Ok l) = Some (said_of l)
heard (Err e) = None

-- why a text is no line, as it is printed
abbrev pub reason : NoLine → List ℕ
reason fault.Empty = codes "empty"
reason fault.UnknownWord = codes "unknown word"
reason fault.MissingWord = codes "missing word"
reason fault.NotANumber = codes "not a number"
reason fault.ExtraWord = codes "extra word"
reason fault.NeverAsked = codes "never asked"
