use Rattle.std.proofs.Common.{◌≡◌, ℕ, ◌<◌, Option, Some, None, MatchOption, rules, arith}
use Rattle.std.proofs.lemmas.Bool.Decides.{nat_tests}
use Rattle.power.specs.Rota.{NobodyWaits, FirstWaits, IsHead}
use Rattle.power.specs.declared.state.Wishes.{Wishes}
use Rattle.power.specs.declared.types.UserId.{UserId}
use Rattle.power.proofs.state.Wishes.head.Goals as goal

-- the first from the turn on, or else the first before it
head_of : (ws : Wishes) (t : ℕ) (o r : Option UserId) (E : Type 0) → t < 32 → MatchOption o (NobodyWaits ws t 32) (λ w. FirstWaits ws t 32 w.n) → MatchOption o E (λ w. r ≡ Some w) →
    (E → MatchOption r (NobodyWaits ws 0 t) (λ w. FirstWaits ws 0 t w.n)) → MatchOption r (NobodyWaits ws 0 32) (λ w. IsHead ws t w.n)
head_of ws t (Some w) r E lt f e k = rw e (f.0, λ u lu waits. grind (arith, nat_tests, f.3 u))
head_of ws t None None E lt f e k = λ u from to waits. grind (arith, f u, k e u)
head_of ws t None (Some w) E lt f e k = let first = k e in (first.0, λ u lu waits. grind (arith, nat_tests, f u, first.3 u))

pub returns : goal.returns
returns c = head_of c.args.self.now c.args.turn.n c.first.result c.or_else.result _ c.args.turn.below c.first.ensures c.or_else.ensures (λ e. search rules)
