use Rattle.std.proofs.lemmas.Result.{err_from_is_err_and}
use Rattle.power.specs.Tables.{at}
use Rattle.power.proofs.AimsKept.{aims_made, never_made}
use Rattle.power.proofs.state.Turn.take.Goals as goal

pub returns-in_err-found-clause-aims : goal.returns-in_err-found-clause-aims
returns-in_err-found-clause-aims g c = let b = g.P.Parts.board c.args.b.now in
    let h = never_made b (at c.granted.result) c.args.r.part.n c.args.r.level.n (c.granted.ensures b c.requires.says) c.in_err-found.ensures in
    rw (err_from_is_err_and c.from_residual.result c.from_residual.ensures.1).1 h

pub returns-in_ok-found-clause-aims : goal.returns-in_ok-found-clause-aims
returns-in_ok-found-clause-aims g c =
    let b = g.P.Parts.board c.args.b.now in
    aims_made b (at c.granted.result) c.args.r.part.n c.args.r.level.n c.in_ok-found.found c.requires.sound (c.granted.ensures b c.requires.says) c.in_ok-found.ensures
