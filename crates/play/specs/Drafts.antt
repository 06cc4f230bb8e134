-- What a draft comes to. Where it has no plan, none can hold what was written.
use Rattle.std.specs.Prelude.{◌≡◌, ℕ, ◌+◌, false, ◌⊎◌, Some, None, Option, ◌≢◌}
use Rattle.power.specs.Board.{put, good_plan}
use Rattle.sim.specs.declared.plan.Plan.{Plan}
use Rattle.sim.specs.declared.plan.PlanPart.{PlanPart}
use Rattle.sim.specs.declared.state.Sim.{Sim}
use Rattle.sim.specs.Plans.{needs_of, needs_at, draw_of, draws_at, board_for}
use Rattle.sim.specs.Starts.{Fresh}
use Rattle.script.specs.declared.line.Line.{Line}
use Rattle.script.specs.declared.line.Line.TheVariants as line
use Rattle.play.specs.declared.draft.Step.{Step}
use Rattle.play.specs.declared.draft.Step.TheVariants.{More, Whole}

-- no part yet, and as much given as can be said
abbrev pub Begun : Option Plan → Type 0
Begun None = ⊥
Begun (Some p) = (p.parts ≡ 0) × (p.gives ≡ 4294967295)

-- part x is the next one, or else the plan is spoilt
abbrev pub Added : ℕ → PlanPart → Option Plan → Option Plan → Type 0
Added x p None None = Unit {0}
Added x p None (Some e) = ⊥
Added x p (Some d) None = (d.parts ≢ x) ⊎ (d.parts ≡ 64)
Added x p (Some d) (Some e) =
    (d.parts ≡ x) × (e.parts ≡ x + 1) × (needs_at e.part ≡ put x (needs_of p) (needs_at d.part)) × (draws_at e.part ≡ put x (draw_of p) (draws_at d.part)) × (e.gives ≡ d.gives)

-- so much is given
abbrev pub Given : ℕ → Option Plan → Option Plan → Type 0
Given n None None = Unit {0}
Given n None (Some e) = ⊥
Given n (Some d) None = ⊥
Given n (Some d) (Some e) = (e.parts ≡ d.parts) × (e.part ≡ d.part) × (e.gives ≡ n)

-- a board exactly if the plan isn't spoilt and makes sense
abbrev pub Drafted : Option Plan → Option Sim → Type 0
Drafted None None = Unit {0}
Drafted None (Some s) = ⊥
Drafted (Some p) None = good_plan (board_for p) ≡ false
Drafted (Some p) (Some s) = Fresh p s

-- what each line of a plan comes to
abbrev pub Heeded : Line → Option Step → Option Plan → Option Plan → Type 0
Heeded (line.Part x p) r d e = (r ≡ Some More) × Added x p d e
Heeded (line.Unfit x) r d e = (r ≡ Some More) × (e ≡ None)
Heeded line.Run r d e = (r ≡ Some Whole) × (e ≡ d)
Heeded line.New r d e = (r ≡ Some More) × Begun e
Heeded (line.Gives n) r d e = (r ≡ Some More) × Given n d e
Heeded (line.Want u x l) r d e = (r ≡ None) × (e ≡ d)
Heeded (line.Give u) r d e = (r ≡ None) × (e ≡ d)
Heeded (line.Tick n) r d e = (r ≡ None) × (e ≡ d)
Heeded (line.Bad x) r d e = (r ≡ None) × (e ≡ d)
Heeded (line.Slow x n) r d e = (r ≡ None) × (e ≡ d)
Heeded line.Least r d e = (r ≡ None) × (e ≡ d)
Heeded line.Drawn r d e = (r ≡ None) × (e ≡ d)
