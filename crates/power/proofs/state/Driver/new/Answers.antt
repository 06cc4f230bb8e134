use Rattle.std.proofs.Common.{arith}
use Rattle.power.proofs.Shown.{shows_start}
use Rattle.power.proofs.state.Driver.new.Goals as goal

pub returns : goal.returns
returns c b s = record { parts = shows_start c.new.result b c.new.ensures s; left = omega arith }
