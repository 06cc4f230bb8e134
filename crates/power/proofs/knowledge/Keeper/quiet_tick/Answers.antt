use Rattle.std.proofs.Common.{◌+◌, cond, ltb, refl, ap, ◌∙◌}
use Rattle.power.proofs.Said.{nobody_asked}
use Rattle.power.proofs.Quiet.{quiet_none}
use Rattle.power.proofs.KeptTicks.{mirrors_ticked}
use Rattle.power.proofs.knowledge.Keeper.quiet_tick.Goals as goal

pub returns-clause-mirrors : goal.returns-clause-mirrors
returns-clause-mirrors c = λ b m.
    let counts = c.one_more-self.ensures ∙ ap (λ n. cond (ltb n 64) (n + 1) 64) m.idle ∙ quiet_none b (nobody_asked c.args.self.now.wishes b m.says c.requires.nobody) in
    mirrors_ticked c.args.self.now _ b m refl refl counts (c.rest.ensures b m.knows)
