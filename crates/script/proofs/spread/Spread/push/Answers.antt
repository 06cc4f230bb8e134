-- One more stands for all levels that follow.
use Rattle.std.proofs.Common.{◌≡◌, List, ℕ, ◌+◌, ◌-◌, [], ◌∷◌, ◌++◌, ap, subst, ◌∙◌, rules}
use borrow.Rule.Slice.PartMut.{put_mid}
use Rattle.script.specs.Steps.{IsSpread, written}
use Rattle.script.proofs.Levelling.{spread_with, spread_is}
use Rattle.script.proofs.spread.Spread.push.Goals as goal

pub invariant_of-self : goal.invariant_of-self
invariant_of-self g c =
    let n = c.self.inside.count + 1 in
    let s = spread_with g.row.TOP c.args.n c.self.inside.count c.self.inside.levels c.fill.new.self c.self.invariant c.if-n.false c.if-self-ge-MOST_LEVELS.false _ (c.fill.ensures.after (λ y e. search rules)) (search rules) in
    subst (λ (m : ℕ). IsSpread g.row.TOP n (put_mid n (m - n) c.self.inside.levels c.fill.new.self)) c.self.told s.0

pub returns : goal.returns
returns g c =
    let n = c.self.inside.count + 1 in
    let s = spread_with g.row.TOP c.args.n c.self.inside.count c.self.inside.levels c.fill.new.self c.self.invariant c.if-n.false c.if-self-ge-MOST_LEVELS.false _ (c.fill.ensures.after (λ y e. search rules)) (search rules) in
    let fits = subst (λ (m : ℕ). IsSpread g.row.TOP n (put_mid n (m - n) c.self.inside.levels c.fill.new.self)) c.self.told s.0 in
    let is = subst (λ (m : ℕ). written n (put_mid n (m - n) c.self.inside.levels c.fill.new.self) ≡ written c.self.inside.count c.self.inside.levels ++ c.args.n ∷ []) c.self.told s.1 in
    spread_is g.row.TOP _ _ (c.args.self.now ++ c.args.n ∷ []) fits (is ∙ ap (λ (ls : List ℕ). ls ++ c.args.n ∷ []) c.self.view_is)
