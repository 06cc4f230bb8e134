-- What a written plan means: the needs and draws of each part, in the words of the board.
use Rattle.std.specs.Prelude.{◌≡◌, ℕ, Bool, ◌&&◌, List, [], map, length, take, nat_le, slice_index_or}
use Rattle.power.specs.Board.{Board, Need, Off, None', least_at, on_of, least_of, most_of, all, apart, good_need, good_draw}
use Rattle.sim.specs.declared.plan.PlanNeed.{PlanNeed}
use Rattle.sim.specs.declared.plan.PlanPart.{PlanPart}
use Rattle.sim.specs.declared.plan.Plan.{Plan}

abbrev pub need_of : PlanNeed → Need
need_of n = record { on = n.on; least = n.least; most = n.most }

abbrev pub needs_of : PlanPart → List Need
needs_of p = map need_of (take p.count p.needs)

-- a part that isn't there needs nothing
abbrev pub needs_at : List PlanPart → ℕ → List Need
needs_at ps x = slice_index_or (map needs_of ps) x []

-- and draws nothing
abbrev pub draw_of : PlanPart → List ℕ
draw_of p = p.draw

abbrev pub draws_at : List PlanPart → ℕ → List ℕ
draws_at ps x = slice_index_or (map draw_of ps) x []

-- what a plan that makes sense has for part x, that needs these and draws these
abbrev pub sense : ℕ → List Need → List ℕ → Bool
sense x ns ds = all (good_need x) ns && apart ns && nat_le (length ns) 4 && good_draw ds

-- n is the kth of the needs ns, in the words of the trait `Parts`
pub record Tells (n : Need) (k : ℕ) (ns : List Need) : Type 0 where
  pub on : n.on ≡ on_of k ns
  pub least : (l : ℕ) → least_at n l ≡ least_of k l ns
  pub most : n.most ≡ most_of k ns

-- the board of a plan, with everything off and nobody who wants anything
abbrev pub board_for : Plan → Board
board_for p = record { parts = p.parts; needs = needs_at p.part; draws = draws_at p.part; gives = p.gives; part = λ x. Off; tried = λ x. 0; wish = λ u. None'; quiet = 0; left = 1024 }
