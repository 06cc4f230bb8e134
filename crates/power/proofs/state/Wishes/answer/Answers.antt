use Rattle.power.specs.Board.{told_of}
use Rattle.power.specs.Mirrors.{once_told, wanted_by}
use Rattle.power.proofs.Said.{says_put, says_told}
use Rattle.power.proofs.state.Wishes.answer.Goals as goal

pub returns : goal.returns
returns c b s =
    let u = c.args.u.n in
    let w = wanted_by c.args.self.now u in
    says_put c.args.self.now c.put.new.self b.wish u (once_told w c.args.a) (told_of (b.wish u) c.args.a) c.args.u.below (cc) s (says_told w (b.wish u) c.args.a (s u))
