use Rattle.std.proofs.Common.{◌≡◌, ℕ, slice_index_or}
use Rattle.power.specs.Board.{most}
use Rattle.power.specs.Tables.{at}
use Rattle.power.specs.Grants.{grant_of}
use Rattle.power.specs.declared.state.Wanted.TheVariants.{Nothing}
use Rattle.power.proofs.types.Levels.granted.Given as goal

abbrev pub invariant-loop-w : goal.invariant-loop-w
invariant-loop-w g l = (x : ℕ) → at l.levels x ≡ most l.w-index (λ u. grant_of x (slice_index_or l.wanted u Nothing))
