-- The levels in a table, as a function.
use Rattle.std.specs.Prelude.{ℕ, slice_index}
use Rattle.power.specs.declared.types.Levels.{Levels}

-- the level of part x; 0 past the last
abbrev pub at : Levels → ℕ → ℕ
at ls x = slice_index ls.of x
