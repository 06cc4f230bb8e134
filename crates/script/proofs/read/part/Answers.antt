-- A part alone on its line.
use Rattle.std.proofs.Common.{[], Some, ap, rules}
use Rattle.script.proofs.read.part.Goals as goal

pub returns-in-None : goal.returns-in-None
returns-in-None c = let h = c.whole.ensures [] [] (ap Some c.new.ensures) (search rules) in search rules
