use Rattle.std.proofs.Common.{◌∙◌, arith}
use Rattle.power.specs.Tables.{at}
use Rattle.power.proofs.SoundLevels.{level_top}
use Rattle.power.proofs.Shown.{level_shown}
use Rattle.power.proofs.Sweeps.{down_steps}
use Rattle.power.proofs.Moved.{still_there, may_level_down, lowers_on, levels_down}
use Rattle.power.proofs.drive.Drive.lower_to.Goals as goal

pub lower_part-requires-clause-may : goal.lower_part-requires-clause-may
lower_part-requires-clause-may g c =
    let d = c.loop-self.self in
    let i = c.loop-self.invariant in
    let b = g.P.Parts.board d.board.now in
    let there = still_there c.args.x.n i.came.only c.requires.part in
    let v = level_shown d.driver.now.mirror b c.args.x.n c.level-v.result d.knows.parts c.level-v.ensures in
    ((down_steps b (at c.args.ceiling.now) c.args.x.n there i.down).0
    (omega (arith, d.knows.left)) (omega (arith, c.get-t.ensures)) (omega (arith, c.get-t.ensures))).0

pub loop-self-preserved-then-t-eq0 : goal.loop-self-preserved-then-t-eq0
loop-self-preserved-then-t-eq0 g c =
    let d = c.loop-self.self in
    let i = c.loop-self.invariant in
    let b = g.P.Parts.board d.board.now in
    let there = still_there c.args.x.n i.came.only c.requires.part in
    let v = level_shown d.driver.now.mirror b c.args.x.n c.level-v.result d.knows.parts c.level-v.ensures in
    let r =
    lowers_on (at c.args.ceiling.now) _ _ _ b c.args.x.n i.came i.down there (omega (arith, d.knows.left)) (omega (arith, c.get-t.ensures))
    _ c.lower_part.ensures.spends _ (omega (arith, c.get-t.ensures)) c.lower_part.ensures.does in
    record { came = r.0; down = r.1; same_board = c.lower_part.ensures.same.0 ∙ i.same_board; same_driver = c.lower_part.ensures.same.1 ∙ i.same_driver }

pub invariant_of-level_part : goal.invariant_of-level_part
invariant_of-level_part g c =
    let d = c.loop-self.self in
    let i = c.loop-self.invariant in
    let b = g.P.Parts.board d.board.now in
    let there = still_there c.args.x.n i.came.only c.requires.part in
    let v = level_shown d.driver.now.mirror b c.args.x.n c.level-v.result d.knows.parts c.level-v.ensures in
    let top = level_top b i.down.sound c.args.x.n there in
    record { on = omega arith; top = omega (arith, top) }

pub level_part-requires-clause-may : goal.level_part-requires-clause-may
level_part-requires-clause-may g c =
    let d = c.loop-self.self in
    let i = c.loop-self.invariant in
    let b = g.P.Parts.board d.board.now in
    let there = still_there c.args.x.n i.came.only c.requires.part in
    let v = level_shown d.driver.now.mirror b c.args.x.n c.level-v.result d.knows.parts c.level-v.ensures in
    may_level_down b (at c.args.ceiling.now) c.args.x.n _ i.down there (omega (arith, d.knows.left))
    (omega (arith, c.get-t.ensures)) (omega (arith, c.get-t.ensures)) (omega arith)

pub loop-self-preserved : goal.loop-self-preserved
loop-self-preserved g c =
    let d = c.loop-self.self in
    let i = c.loop-self.invariant in
    let b = g.P.Parts.board d.board.now in
    let there = still_there c.args.x.n i.came.only c.requires.part in
    let v = level_shown d.driver.now.mirror b c.args.x.n c.level-v.result d.knows.parts c.level-v.ensures in
    let r =
    levels_down (at c.args.ceiling.now) _ _ _ b c.args.x.n i.came i.down there (omega (arith, d.knows.left)) (omega (arith, c.get-t.ensures))
    _ c.level_part.ensures.spends _ _ (omega arith) (omega (arith, c.get-t.ensures)) c.level_part.ensures.does in
    record { came = r.0; down = r.1; same_board = c.level_part.ensures.same.0 ∙ i.same_board; same_driver = c.level_part.ensures.same.1 ∙ i.same_driver }
