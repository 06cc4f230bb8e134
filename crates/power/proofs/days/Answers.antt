use Rattle.std.proofs.Common.{sym, ap, ◌∙◌, subst}
use Rattle.power.specs.Board.{Board, ticked}
use Rattle.power.specs.Kept.{Kept}
use Rattle.power.proofs.days.Goals as goal

pub loop-n-preserved : goal.loop-n-preserved
loop-n-preserved g c =
    let k = c.work.new.self in
    subst (λ (b : Board). Kept k b) (sym c.ticks.ensures)
    (elim c.match-work.branch [
      | goal.in-Some w ↦ subst (λ (b : Board). Kept k (ticked b)) (sym (ap g.W.Parts.board w.w-is ∙ w.told.ensures)) w.in-Some.ensures.2
      | goal.in_default w ↦ subst (λ (b : Board). Kept k (ticked b)) (sym (ap g.W.Parts.board w.w-is)) w.in_default.ensures.1
    ])
