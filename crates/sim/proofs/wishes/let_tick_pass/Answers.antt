-- Those so far are older, and the others as they were.
use Rattle.std.proofs.Common.{◌<◌, ◌≤◌, length, sym, ap, ◌∙◌, ⊎_elim, arith, rules}
use Rattle.std.proofs.lemmas.Iterator.{YieldsList-from_slice}
use Rattle.std.proofs.lemmas.Iterator.Search.{any_from_yields_List}
use Rattle.std.proofs.lemmas.Bool.{cases_lt}
use Rattle.std.proofs.lemmas.List.{get_or_default, get_or_past}
use Rattle.power.specs.Board.{young, older, is_asked}
use Rattle.power.specs.declared.state.Wanted.TheVariants.{Nothing}
use Rattle.sim.specs.Boards.{wish_of}
use Rattle.sim.proofs.Aging.{some_listed}
use Rattle.sim.proofs.wishes.let_tick_pass.Goals as goal

pub a_tick_older-requires : goal.a_tick_older-requires
a_tick_older-requires c =
    let l = c.loop-wanted in
    let h : l.wanted-index < length l.wishes = omega (arith, l.invariant.0) in
    ap (λ w. young (wish_of w)) (get_or_default l.wishes l.wanted-index c.wanted-item.result Nothing h ∙ l.invariant.2 l.wanted-index (omega arith)) ∙ c.requires l.wanted-index c.loop-wanted-test.true

pub returns-clause-asked : goal.returns-clause-asked
unfolding is_asked
returns-clause-asked c =
    let ws = c.args.wishes.now in
    any_from_yields_List (λ w. is_asked (wish_of w)) _ _ c.any-waiting.result c.any-waiting.ensures.ran (YieldsList-from_slice ws c.iter.ensures.rest) (λ w b q k. search rules)
    ∙ some_listed (λ w. is_asked (wish_of w)) Nothing ws 32 (omega arith)

pub returns-clause-each : goal.returns-clause-each
unfolding older
returns-clause-each c k =
    let l = c.loop-wanted in
    ⊎_elim (λ (h : k < 32). l.invariant.1 k (omega arith))
    (λ (h : 32 ≤ k).
    let u : length l.wishes ≤ k = omega (arith, l.invariant.0) in
    let v : length c.args.wishes.now ≤ k = omega arith in
    ap wish_of (get_or_past l.wishes k Nothing u) ∙ sym (ap (λ w. older (wish_of w)) (get_or_past c.args.wishes.now k Nothing v)))
    (cases_lt k 32)
