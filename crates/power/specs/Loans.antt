-- That a board and its driver are still the ones that were lent.
-- Assumes nothing.
use Rattle.std.specs.Prelude.{◌≡◌}
use Rattle.power.specs.declared.Parts.{Ghosts}
use Rattle.power.specs.declared.drive.Drive.{Drive}

abbrev pub SameLoans : {P : Type 0} {G : Ghosts P} → Drive P G → Drive P G → Type 0
SameLoans d d' = (d'.board.ghost_name ≡ d.board.ghost_name) × (d'.driver.ghost_name ≡ d.driver.ghost_name)
