-- What was granted, as what users want says it.
-- Assumes nothing.
use Rattle.std.specs.Prelude.{ℕ, cond, ◌==◌}
use Rattle.power.specs.declared.state.Wanted.{Wanted}
use Rattle.power.specs.declared.state.Wanted.TheVariants.{Nothing, Asked, Granted}

-- the level of x that one user was granted
abbrev pub grant_of : {A : Type 0} → ℕ → Wanted A → ℕ
grant_of x Nothing = 0
grant_of x (Asked r a) = 0
grant_of x (Granted r) = cond (x == r.part.n) r.level.n 0
