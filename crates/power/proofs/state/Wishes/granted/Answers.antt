use Rattle.std.proofs.Common.{◌∙◌}
use Rattle.power.proofs.Granting.{granted_said}
use Rattle.power.proofs.state.Wishes.granted.Goals as goal

pub returns : goal.returns
returns c b s x = c.granted.ensures x ∙ granted_said c.args.self.now b s x
