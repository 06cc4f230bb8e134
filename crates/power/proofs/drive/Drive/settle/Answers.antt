use Rattle.power.specs.Tables.{at}
use Rattle.power.proofs.Settling.{never_unfit, settle_fits, settle_covers, settle_lean}
use Rattle.power.proofs.drive.Drive.settle.Goals as goal

pub come_down-requires-clause-fits : goal.come_down-requires-clause-fits
come_down-requires-clause-fits g c =
    let b = g.P.Parts.board c.args.self.now.board.now in
    settle_fits b (at c.granted-granted.result) c.args.self.now.sound (c.granted-granted.ensures b c.requires.says) c.in-Ok.to c.in-Ok.ensures

pub come_down-requires-clause-covers : goal.come_down-requires-clause-covers
come_down-requires-clause-covers g c =
    let b = g.P.Parts.board c.args.self.now.board.now in
    settle_covers b (at c.granted-granted.result) c.args.self.now.sound (c.granted-granted.ensures b c.requires.says) c.in-Ok.to c.in-Ok.ensures

pub returns-in-Ok-clause-low : goal.returns-in-Ok-clause-low
returns-in-Ok-clause-low g c =
    let b = g.P.Parts.board c.args.self.now.board.now in
    let r = c.come_down.ensures in
    settle_lean b (at c.granted-granted.result) c.args.self.now.sound (c.granted-granted.ensures b c.requires.says) c.in-Ok.to c.in-Ok.ensures
    _ _ _ _ c.args.self.now.few c.requires.all r.came r.ends c.come_down.new.self.sound

pub returns-in_default-clause-low : goal.returns-in_default-clause-low
returns-in_default-clause-low g c =
    let b = g.P.Parts.board c.args.self.now.board.now in
    absurd (never_unfit b (at c.granted-granted.result) c.args.self.now.sound (c.granted-granted.ensures b c.requires.says) c.in_default.ensures)
