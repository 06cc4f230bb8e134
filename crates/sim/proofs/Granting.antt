-- What is granted, user by user. Assumes nothing.
use Rattle.std.proofs.Common.{◌≡◌, ℕ, get_or, refl, ap, List}
use mathlib.Core.Path.{fun_ext}
use Rattle.power.specs.Board.{want_of, most}
use Rattle.power.specs.Grants.{grant_of}
use Rattle.power.specs.declared.state.Wanted.{Wanted}
use Rattle.power.specs.declared.state.Wanted.TheVariants.{Nothing, Asked, Granted}
use Rattle.sim.specs.Boards.{wish_of}

same_grant : (x : ℕ) (w : Wanted ℕ) → grant_of x w ≡ want_of x (wish_of w)
unfolding want_of
same_grant x Nothing = refl
same_grant x (Asked r a) = refl
same_grant x (Granted r) = refl

pub same_grants : (x : ℕ) (ws : List (Wanted ℕ)) → most 32 (λ u. grant_of x (get_or ws u Nothing)) ≡ most 32 (λ u. want_of x (wish_of (get_or ws u Nothing)))
same_grants x ws = ap (most 32) (fun_ext (λ u. same_grant x (get_or ws u Nothing)))
