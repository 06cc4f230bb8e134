use Rattle.power.specs.Tables.{at}
use Rattle.power.proofs.Fitted.{can, cannot}
use Rattle.power.proofs.datasheet.DataSheet.least.Goals as goal

pub returns-then-allows : goal.returns-then-allows
returns-then-allows g c =
    let s = c.in_ok-ls.ensures in
    record {
      can = can (g.P.Parts.board c.args.self.now.board.now) (at c.args.want.now) (at c.in_ok-ls.ls.of) c.allows.result s.same c.allows.ensures c.if-allows.true;
      same = s.same;
      low = c.in_ok-ls.ls.low;
    }

pub returns-else-allows : goal.returns-else-allows
returns-else-allows g c =
    cannot (g.P.Parts.board c.args.self.now.board.now) (at c.args.want.now) (at c.in_ok-ls.ls.of) c.allows.result c.in_ok-ls.ensures.same c.allows.ensures c.if-allows.false
