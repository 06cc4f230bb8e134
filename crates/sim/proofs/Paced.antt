-- What paces mean: the nth asking is the good one. Assumes nothing.
use Rattle.std.proofs.Common.{◌≡◌, ℕ, zero, suc, ◌+◌, ◌-◌, false, leb, Some, None, refl, ◌∙◌, arith}
use Rattle.std.proofs.lemmas.Bool.Decides.{nat_tests}
use Rattle.sim.specs.Paces.{ready, asked, GoodAtTheNth}

ready_at : (k n : ℕ) → ready (asked k (Some n)) ≡ leb n (k + 1)
unfolding asked
ready_at zero n = refl
ready_at (suc k) n = ready_at k (n - 1) ∙ grind (arith, nat_tests)

ready_never : (k : ℕ) → ready (asked k None) ≡ false
unfolding asked
ready_never zero = refl
ready_never (suc k) = ready_never k

pub good_at_the_nth : GoodAtTheNth
good_at_the_nth n k = (ready_at k n, ready_never k)
