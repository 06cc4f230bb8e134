-- What holds of the keeper and the board between any two calls of the keeper, and what a tick's work comes to.
-- Assumes nothing.
use Rattle.std.specs.Prelude.{◌≡◌, ℕ, ◌+◌, ◌<◌, ◌≤◌, not, T, Some, None, Option, IfSome, IsSomeAnd}
use Rattle.power.specs.declared.Answer.{Answer}
use Rattle.power.specs.declared.types.Aims.{Aims}
use Rattle.power.specs.declared.knowledge.Keeper.{Keeper}
use Rattle.power.specs.Board.{Board, Asked, is_asked, lean, may_tell, may_tell_of, told, in_time, ticked}
use Rattle.power.specs.Sound.{Sound}
use Rattle.power.specs.Cost.{costs}
use Rattle.power.specs.Mirrors.{Knows, SaysAll}
use Rattle.power.specs.Ages.{goal, Aged}
use Rattle.power.specs.Turns.{AimsAt, AimsFor}

-- what the keeper knows of the board is so
pub record Mirrors (k : Keeper) (b : Board) : Type 0 where
  pub parts : k.parts ≡ b.parts
  pub few : k.parts ≤ 64
  pub knows : Knows k.driver b
  pub says : SaysAll k.wishes b
  pub idle : k.idle ≡ b.quiet

-- THE INVARIANT. While it is quiet nothing was asked in this tick, and nobody waits; after more than 32 quiet ticks the board is lean;
-- nobody has waited too long; and what is aimed at is right for the user whose turn it is.
pub record Kept (k : Keeper) (b : Board) : Type 0 where
  pub mirrors : Mirrors k b
  pub sound : Sound b
  pub left : 1024 ≤ b.left
  pub fresh : 0 < b.quiet → b.left ≡ 1024
  pub still : 0 < b.quiet → (u : ℕ) → u < 32 → T (not (is_asked (b.wish u)))
  pub low : 32 < b.quiet → T (lean b)
  pub aged : Aged k.turn.user.n b
  pub aims : IfSome k.turn.aims (λ a. AimsFor b a (b.wish k.turn.user.n))

-- A tick's work for the want x at l. Nothing to tell: all 1,024 askings went into its goal, and what is aimed at still is right. Else an answer that may be told.
abbrev pub Pursued : Option Answer → Option Aims → (x l : ℕ) → Board → Board → Type 0
Pursued None o x l b b' = (costs b (goal b x l) ≤ 5056) × (costs b' (goal b' x l) + 1024 ≤ costs b (goal b x l)) × IsSomeAnd o (λ a. AimsAt b' a x l)
Pursued (Some r) o x l b b' = (g : ℕ) → T (may_tell_of b' (Asked x l g) r)

-- What a tick's work leaves: what is told may be told, the board is in time after it, and the invariant holds after the tick.
abbrev pub Worked : Option (ℕ × Answer) → Keeper → Board → Type 0
Worked None k b = T (in_time b) × Kept k (ticked b)
Worked (Some p) k b = T (may_tell b p.0 p.1) × T (in_time (told p.0 p.1 b)) × Kept k (ticked (told p.0 p.1 b))
