use Rattle.std.proofs.Common.{sym, ◌∙◌}
use Rattle.power.proofs.Shown.{shows_told, shows_six}
use Rattle.power.proofs.state.Driver.answered.Goals as goal

pub returns-then-is_not_good : goal.returns-then-is_not_good
returns-then-is_not_good c b u k =
    record { parts = shows_six c.args.self.now.mirror c.anew.new.self b u c.args.a (sym c.is_not_good.ensures ∙ c.if-is_not_good.true) c.anew.ensures k.parts; left = k.left }

pub returns-else-is_not_good : goal.returns-else-is_not_good
returns-else-is_not_good c b u k =
    record { parts = shows_told c.args.self.now.mirror b u c.args.a (sym c.is_not_good.ensures ∙ c.if-is_not_good.false) k.parts; left = k.left }
