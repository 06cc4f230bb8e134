-- Whose turn it is, and what is aimed at for them.
-- Assumes nothing.
use Rattle.std.specs.Prelude.{◌≡◌, ℕ, T, ◌≢◌, Some, IfSome}
use Rattle.power.specs.declared.types.Aims.{Aims}
use Rattle.power.specs.declared.state.Turn.{Turn}
use Rattle.power.specs.Board.{Board, Wish, None', Asked, Granted, can_be, granted, and_also}
use Rattle.power.specs.Tables.{at}
use Rattle.power.specs.Moves.{Targets}
use Rattle.power.specs.Rota.{moved_on}
use Rattle.power.specs.Ages.{goal}

-- a ceiling, and the goal of x at l, which still can be with what is granted
pub record AimsAt (b : Board) (a : Aims) (x l : ℕ) : Type 0 where
  pub targets : Targets b (at a.ceiling) (at a.goal)
  pub same : ◌≡◌ {A = ℕ → ℕ} (at a.goal) (goal b x l)
  pub can : T (can_be b (and_also (granted b) x l))

-- the same for a user who wants w: they wait
abbrev pub AimsFor : Board → Aims → Wish → Type 0
AimsFor b a None' = ⊥
AimsFor b a (Asked x l g) = AimsAt b a x l
AimsFor b a (Granted x l) = ⊥

-- u is done with: the turn moves on if it was u's, and what is aimed at is kept only for another
pub record DoneWith (u : ℕ) (t t' : Turn) : Type 0 where
  pub user : t'.user.n ≡ moved_on u t.user.n
  pub aims : IfSome t'.aims (λ a. (t.user.n ≢ u) × (t.aims ≡ Some a))
