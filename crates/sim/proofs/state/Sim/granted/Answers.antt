use Rattle.std.proofs.Common.{◌∙◌}
use Rattle.sim.proofs.Granting.{same_grants}
use Rattle.sim.proofs.state.Sim.granted.Goals as goal

pub returns : goal.returns
returns c x = c.granted.ensures x ∙ same_grants x c.args.self.now.wishes
