-- It's good, and on at 1; or it isn't, and was tried once more.
use Rattle.std.proofs.Common.{◌+◌, ◌<◌, cond, ltb, length, refl, ap, ◌∙◌, arith}
use Rattle.std.proofs.lemmas.List.{get_or_default}
use Rattle.power.specs.Mirrors.{part_of}
use Rattle.sim.specs.declared.state.SimPart.{SimPart}
use Rattle.sim.specs.Boards.{no_part}
use Rattle.sim.proofs.Stepped.{now_good, not_good_yet}
use Rattle.sim.proofs.board.SimParts.good.Goals as goal

pub returns-then-is_ready-clause-does : goal.returns-then-is_ready-clause-does
returns-then-is_ready-clause-does c =
    let s = c.args.self.now in
    let h : c.args.x < length s.parts = omega arith in
    let e = get_or_default s.parts c.args.x c.index-self-x.result no_part h in
    now_good s c.args.x _ h c.requires.1.1 refl (ap (λ (q : SimPart). q.tried) e)

pub returns-clause-does : goal.returns-clause-does
returns-clause-does c =
    let s = c.args.self.now in
    let h : c.args.x < length s.parts = omega arith in
    let e = get_or_default s.parts c.args.x c.index-self-x.result no_part h in
    not_good_yet s c.args.x _ h c.requires.1.1 (ap (λ (q : SimPart). part_of q.state) e)
    (c.one_more.ensures ∙ ap (λ (q : SimPart). cond (ltb q.tried 64) (q.tried + 1) 64) e)
