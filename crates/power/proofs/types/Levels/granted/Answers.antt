use Rattle.std.proofs.Common.{◌≡◌, ℕ, ◌∙◌, subst, arith, slice_index_or}
use Rattle.power.specs.Board.{most}
use Rattle.power.specs.Tables.{at}
use Rattle.power.specs.Grants.{grant_of}
use Rattle.power.specs.declared.state.Wanted.TheVariants.{Nothing}
use Rattle.power.proofs.Granting.{most_none, grant_more}
use Rattle.power.proofs.types.Levels.granted.Goals as goal

pub loop-w-init : goal.loop-w-init
loop-w-init g c = λ x. most_none _ x _ c.new-levels.ensures

pub loop-w-preserved : goal.loop-w-preserved
loop-w-preserved g c = λ x. c.and_granted.ensures x ∙ grant_more c.args.wanted.now c.loop-w.w-index x _ c.w-item.result (omega arith) (c.loop-w.invariant x)

pub returns : goal.returns
returns g c =
    λ x.
    let e : c.loop-w.w-index ≡ 32 = omega arith in
    subst (λ (n : ℕ). at c.loop-w.levels x ≡ most n (λ u. grant_of x (slice_index_or c.args.wanted.now u Nothing))) e (c.loop-w.invariant x)
