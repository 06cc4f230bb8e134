use Rattle.std.proofs.Common.{◌≡◌, ℕ, ◌+◌, cond, ltb, ap, ◌∙◌, arith}
use Rattle.power.proofs.Said.{waits_asked, nobody_asked}
use Rattle.power.proofs.Quiet.{quiet_some, quiet_none}
use Rattle.power.proofs.knowledge.Keeper.quiet_after.Goals as goal

pub returns-then-self-gt0-clause-counts : goal.returns-then-self-gt0-clause-counts
returns-then-self-gt0-clause-counts c b s e =
    c.one_more.ensures ∙ ap (λ n. cond (ltb n 64) (n + 1) 64) e ∙ quiet_none b (nobody_asked c.args.self.now.wishes b s (c.args.self.now.calm (omega arith)))

pub returns-in-Some-clause-counts : goal.returns-in-Some-clause-counts
returns-in-Some-clause-counts c b s e =
    let w = c.in-Some.ensures in
    let u = c.in-Some.field-0.n in
    quiet_some b u w.2 (waits_asked c.args.self.now.wishes b u s w.0)

pub returns-in-None-clause-counts : goal.returns-in-None-clause-counts
returns-in-None-clause-counts c b s e =
    let z : ◌≡◌ {A = ℕ} 0 b.quiet = omega arith in
    ap (λ n. cond (ltb n 64) (n + 1) 64) z ∙ quiet_none b (nobody_asked c.args.self.now.wishes b s c.in-None.ensures)
