-- All is off, and nobody wants anything.
use Rattle.std.proofs.Common.{Bool, T, refl, subst}
use Rattle.sim.proofs.Fresh.{fresh}
use Rattle.sim.proofs.state.Sim.new.Goals as goal

pub returns : goal.returns
returns c = fresh c.args.plan _ refl refl refl refl refl (subst (λ (b : Bool). T b) c.if-not-makes_sense.ensures tt)
