use Rattle.std.proofs.Common.{rules}
use Rattle.std.proofs.lemmas.Iterator.{first_from_Range}
use Rattle.power.specs.Mirrors.{Waits, wanted_by}
use Rattle.power.proofs.state.Wishes.first.Goals as goal

pub returns-in_err-n : goal.returns-in_err-n
returns-in_err-n c =
    let ws = c.args.self.now in
    let found = first_from_Range _ _ _ c.find.result (λ n. Waits (wanted_by ws n)) (λ n. Waits (wanted_by ws n) → ⊥) c.find.ensures.ran (λ x q k. search rules) (λ x q k. search rules) in
    rw c.from_residual.ensures (rw c.in_err-n.was at found)

pub returns : goal.returns
returns c =
    let ws = c.args.self.now in
    let found = first_from_Range _ _ _ c.find.result (λ n. Waits (wanted_by ws n)) (λ n. Waits (wanted_by ws n) → ⊥) c.find.ensures.ran (λ x q k. search rules) (λ x q k. search rules) in
    let first = rw c.in_ok-n.was at found in
    (first.2, first.0, first.1, first.3)
