use Rattle.std.proofs.Common.{◌≡◌, ℕ, ◌<◌, ◌≤◌, length, get_or}
use Rattle.power.specs.Board.{older}
use Rattle.power.specs.declared.state.Wanted.TheVariants.{Nothing}
use Rattle.sim.specs.Boards.{wish_of}
use Rattle.sim.proofs.wishes.let_tick_pass.Given as goal

-- those so far are older, and the others as they were
abbrev pub invariant-loop-wanted : goal.invariant-loop-wanted
invariant-loop-wanted l =
    (length l.wishes ≡ 32)
    × ((k : ℕ) → k < l.wanted-index → wish_of (get_or l.wishes k Nothing) ≡ older (wish_of (get_or l.initial.wishes k Nothing)))
    × ((k : ℕ) → l.wanted-index ≤ k → get_or l.wishes k Nothing ≡ get_or l.initial.wishes k Nothing)
