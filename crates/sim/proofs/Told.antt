-- What power says of a want, said of a wish. Assumes nothing.
use Rattle.std.proofs.Common.{◌≡◌, ℕ, refl}
use Rattle.power.specs.Board.{told_of, is_asked}
use Rattle.power.specs.Mirrors.{asks, once_told}
use Rattle.power.specs.declared.Answer.{Answer}
use Rattle.power.specs.declared.Answer.TheVariants.{Done, No}
use Rattle.power.specs.declared.state.Wanted.{Wanted}
use Rattle.power.specs.declared.state.Wanted.TheVariants.{Nothing, Asked, Granted}
use Rattle.sim.specs.Boards.{wish_of}

pub wish_told : (w : Wanted ℕ) (a : Answer) → wish_of (once_told w a) ≡ told_of (wish_of w) a
unfolding told_of
wish_told Nothing a = refl
wish_told (Asked r t) Done = refl
wish_told (Asked r t) (No k) = refl
wish_told (Granted r) a = refl

pub wish_asked : (w : Wanted ℕ) → asks w ≡ is_asked (wish_of w)
unfolding is_asked
wish_asked Nothing = refl
wish_asked (Asked r t) = refl
wish_asked (Granted r) = refl
