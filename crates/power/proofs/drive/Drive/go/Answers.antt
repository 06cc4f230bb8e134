use Rattle.power.specs.Tables.{at}
use Rattle.power.proofs.Sweeps.{up_start}
use Rattle.power.proofs.Targets.{targets_only}
use Rattle.power.proofs.drive.Drive.go.Goals as goal

pub go_up-requires : goal.go_up-requires
go_up-requires g c =
    let b' = g.P.Parts.board c.come_down.new.self.board.now in
    let e = c.come_down.ensures in
    let t = targets_only _ b' (at c.args.aims.now.ceiling) (at c.args.aims.now.goal) e.came.only c.requires.aims in
    record { up = up_start b' (at c.args.aims.now.ceiling) (at c.args.aims.now.goal) c.come_down.new.self.sound t.fits t.serves c.in_ok-come_down.ensures.ends t.under }
