-- The board that a board in memory is.
use Rattle.std.specs.Prelude.{ℕ, Some, slice_index_or}
use Rattle.power.specs.Board.{Board, Wish, None', Asked, Granted}
use Rattle.power.specs.Mirrors.{part_of}
use Rattle.power.specs.declared.state.PartState.TheVariants as state
use Rattle.power.specs.declared.state.Wanted.{Wanted}
use Rattle.power.specs.declared.state.Wanted.TheVariants as wanted
use Rattle.sim.specs.declared.state.SimPart.{SimPart}
use Rattle.sim.specs.declared.state.Sim.{Sim}
use Rattle.sim.specs.Plans.{needs_at, draws_at}

-- a part past the last
abbrev pub no_part : SimPart
no_part = record { state = state.Off; tried = 0; pace = Some 0; next_pace = Some 0 }

abbrev pub part_at : Sim → ℕ → SimPart
part_at s x = slice_index_or s.parts x no_part

abbrev pub wish_of : Wanted ℕ → Wish
wish_of wanted.Nothing = None'
wish_of (wanted.Asked r g) = Asked r.part.n r.level.n g
wish_of (wanted.Granted r) = Granted r.part.n r.level.n

abbrev pub board_of : Sim → Board
board_of s =
    record {
      parts = s.plan.parts;
      needs = needs_at s.plan.part;
      draws = draws_at s.plan.part;
      gives = s.plan.gives;
      part = λ x. part_of (part_at s x).state;
      tried = λ x. (part_at s x).tried;
      wish = λ u. wish_of (slice_index_or s.wishes u wanted.Nothing);
      quiet = s.quiet;
      left = s.left;
    }

-- every part is tried anew
abbrev pub anew : Board → Board
anew b = record { parts = b.parts; needs = b.needs; draws = b.draws; gives = b.gives; part = b.part; tried = λ x. 0; wish = b.wish; quiet = b.quiet; left = b.left }
