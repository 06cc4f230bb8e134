-- What comes of making a board in memory from a plan.
use Rattle.std.specs.Prelude.{◌≡◌, ℕ, ◌<◌, false, Some, Ok, Err, Result}
use Rattle.power.specs.Board.{AtStart, good_plan}
use Rattle.sim.specs.declared.plan.Plan.{Plan}
use Rattle.sim.specs.declared.plan.PlanFault.{PlanFault}
use Rattle.sim.specs.declared.plan.PlanFault.TheVariants.{Senseless}
use Rattle.sim.specs.declared.state.Sim.{Sim}
use Rattle.sim.specs.Boards.{board_of}
use Rattle.sim.specs.Paces.{pace_of, next_pace_of}
use Rattle.sim.specs.Plans.{board_for}

-- the plan's board, with nothing done to it, and every part good when it's first asked
pub record Fresh (p : Plan) (s : Sim) : Type 0 where
  pub board : board_of s ≡ board_for p
  pub starts : AtStart (board_of s)
  pub pace : (x : ℕ) → x < 64 → pace_of s x ≡ Some 1
  pub next : (x : ℕ) → x < 64 → next_pace_of s x ≡ Some 1

-- a board exactly if the plan makes sense
abbrev pub Started : Plan → Result Sim PlanFault → Type 0
Started p (Ok s) = Fresh p s
Started p (Err e) = (good_plan (board_for p) ≡ false) × (e ≡ Senseless)
