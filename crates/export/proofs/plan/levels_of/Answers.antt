-- A level is copied, or stays 0.
use Rattle.std.proofs.Common.{length, get_or, ap, sym, ◌∙◌, ⊎_elim, rules}
use Rattle.std.proofs.lemmas.List.{get_or_past, get_or-replicate}
use Rattle.std.proofs.lemmas.Bool.{cases_lt}
use Rattle.export.proofs.plan.levels_of.Goals as goal

pub returns : goal.returns
returns c x h =
    let wants = c.args.wants.now in
    let copied = c.copy_front.ensures in
    ⊎_elim (λ l. copied.front x (search rules) l) (λ g. copied.rest x g ∙ ap (λ zs. get_or zs x 0) c.new-levels.ensures ∙ get_or-replicate 64 x 0 0 h ∙ sym (get_or_past wants x 0 g)) (cases_lt x (length wants))
