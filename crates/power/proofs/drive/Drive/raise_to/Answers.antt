use Rattle.std.proofs.Common.{◌∙◌, arith}
use Rattle.power.specs.Tables.{at}
use Rattle.power.proofs.OnePart.{off_is, on_is}
use Rattle.power.proofs.Shown.{part_shown, tried_shown}
use Rattle.power.proofs.Sweeps.{up_steps}
use Rattle.power.proofs.Moved.{still_there, may_level_up, raises_on, levels_up, tries_on}
use Rattle.power.proofs.drive.Drive.raise_to.Goals as goal

pub raise_part-requires-clause-may : goal.raise_part-requires-clause-may
raise_part-requires-clause-may g c =
    let d = c.loop-self.self in
    let i = c.loop-self.invariant in
    let b = g.P.Parts.board d.board.now in
    let there = still_there c.args.x.n i.came.only c.requires.part in
    let off = off_is _ (part_shown d.driver.now.mirror b c.args.x.n _ d.knows.parts c.in-Off.ensures) in
    ((up_steps b (at c.args.aims.now.ceiling) (at c.args.aims.now.goal) c.args.x.n there i.up).0
    (omega (arith, d.knows.left)) off (omega (arith, c.get-l.ensures))).0

pub loop-self-preserved-in-Off : goal.loop-self-preserved-in-Off
loop-self-preserved-in-Off g c =
    let d = c.loop-self.self in
    let i = c.loop-self.invariant in
    let b = g.P.Parts.board d.board.now in
    let there = still_there c.args.x.n i.came.only c.requires.part in
    let off = part_shown d.driver.now.mirror b c.args.x.n _ d.knows.parts c.in-Off.ensures in
    let r =
    raises_on (at c.args.aims.now.ceiling) (at c.args.aims.now.goal) _ _ _ b c.args.x.n i.came i.up there (omega (arith, c.get-l.ensures))
    _ c.raise_part.ensures.spends _ (omega (arith, d.knows.left)) off c.raise_part.ensures.does in
    record { came = r.0; up = r.1; same_board = c.raise_part.ensures.same.0 ∙ i.same_board; same_driver = c.raise_part.ensures.same.1 ∙ i.same_driver }

pub loop-self-preserved-in-Rising : goal.loop-self-preserved-in-Rising
loop-self-preserved-in-Rising g c =
    let d = c.loop-self.self in
    let i = c.loop-self.invariant in
    let b = g.P.Parts.board d.board.now in
    let there = still_there c.args.x.n i.came.only c.requires.part in
    let tried = tried_shown d.driver.now.mirror b c.args.x.n c.in-Rising.tried d.knows.parts c.in-Rising.ensures in
    let r =
    tries_on (at c.args.aims.now.ceiling) (at c.args.aims.now.goal) _ _ _ b c.args.x.n i.came i.up there (omega (arith, c.get-l.ensures))
    _ c.try_part.ensures.spends _ _ (omega (arith, c.in-Rising.tried.most)) c.try_part.ensures.does in
    record { came = r.0; up = r.1; same_board = c.try_part.ensures.same.0 ∙ i.same_board; same_driver = c.try_part.ensures.same.1 ∙ i.same_driver }

pub returns-then-v-l-clause-ends : goal.returns-then-v-l-clause-ends
returns-then-v-l-clause-ends g c =
    let d = c.loop-self.self in
    let on = on_is _ c.in-On.v.n (part_shown d.driver.now.mirror _ c.args.x.n _ d.knows.parts c.in-On.ensures) in
    (omega (arith, on.1, c.get-l.ensures), λ _. on.0)

pub level_part-requires-clause-may : goal.level_part-requires-clause-may
level_part-requires-clause-may g c =
    let d = c.loop-self.self in
    let i = c.loop-self.invariant in
    let b = g.P.Parts.board d.board.now in
    let there = still_there c.args.x.n i.came.only c.requires.part in
    let on = part_shown d.driver.now.mirror b c.args.x.n _ d.knows.parts c.in-On.ensures in
    may_level_up b (at c.args.aims.now.ceiling) (at c.args.aims.now.goal) c.args.x.n c.in-On.v.n i.up there (omega (arith, d.knows.left))
    on (omega (arith, c.get-l.ensures))

pub loop-self-preserved : goal.loop-self-preserved
loop-self-preserved g c =
    let d = c.loop-self.self in
    let i = c.loop-self.invariant in
    let b = g.P.Parts.board d.board.now in
    let there = still_there c.args.x.n i.came.only c.requires.part in
    let on = part_shown d.driver.now.mirror b c.args.x.n _ d.knows.parts c.in-On.ensures in
    let r =
    levels_up (at c.args.aims.now.ceiling) (at c.args.aims.now.goal) _ _ _ b c.args.x.n i.came i.up there (omega (arith, c.get-l.ensures))
    _ c.level_part.ensures.spends _ (omega (arith, d.knows.left)) c.in-On.v.n on (omega (arith, c.get-l.ensures)) c.level_part.ensures.does in
    record { came = r.0; up = r.1; same_board = c.level_part.ensures.same.0 ∙ i.same_board; same_driver = c.level_part.ensures.same.1 ∙ i.same_driver }
