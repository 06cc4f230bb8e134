use Rattle.std.proofs.Common.{refl}
use Rattle.power.proofs.KeptTicks.{mirrors_ticked}
use Rattle.power.proofs.knowledge.Keeper.tick.Goals as goal

pub returns-clause-mirrors : goal.returns-clause-mirrors
returns-clause-mirrors c = λ b m. mirrors_ticked c.args.self.now _ b m refl refl (c.quiet_after-self.ensures.counts b m.says m.idle) (c.rest.ensures b m.knows)
