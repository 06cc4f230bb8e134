-- What a tick's work for one want comes to. Assumes nothing.
use Rattle.std.proofs.Common.{◌≡◌, ℕ, ◌+◌, ◌<◌, ◌≤◌, not, T, Some, None, Option, IsSomeAnd, Ok, Err, sym, ap, ◌∙◌, subst, arith}
use Rattle.power.specs.declared.Answer.{Answer}
use Rattle.power.specs.declared.Answer.TheVariants.{Done, No}
use Rattle.power.specs.declared.types.Aims.{Aims}
use Rattle.power.specs.declared.state.Halt.TheVariants.{Stuck}
use Rattle.power.specs.declared.knowledge.Keeper.{Keeper}
use Rattle.power.specs.Board.{Board, Wish, can_be, granted, and_also}
use Rattle.power.specs.Sound.{Sound}
use Rattle.power.specs.Cost.{costs}
use Rattle.power.specs.Tables.{at}
use Rattle.power.specs.Mirrors.{Knows, Says, wanted_by}
use Rattle.power.specs.Moves.{OnlyParts, CameNearer, AllEnd, StuckAt}
use Rattle.power.specs.Ages.{goal}
use Rattle.power.specs.Turns.{AimsAt}
use Rattle.power.specs.Kept.{Mirrors, Pursued}
use Rattle.power.proofs.Larger.{and_also_this}
use Rattle.power.proofs.Lowest.{least_wanted}
use Rattle.power.proofs.Costs.{cost_is_bounded}
use Rattle.power.proofs.Tellings.{tell_done, tell_five, tell_six, goal_only}
use Rattle.power.proofs.AimsKept.{aims_only}

pub pursued_five : (b : Board) (o : Option Aims) (x l : ℕ) → T (not (can_be b (and_also (granted b) x l))) → Pursued (Some (No 5)) o x l b b
pursued_five b o x l t g = tell_five b x l g t

-- from b to b', with n askings left at first and m at last
module _ (b : Board) (o : Option Aims) (a : Aims) (is : o ≡ Some a) (x l n m : ℕ) (b' : Board) (right : IsSomeAnd o (λ c. AimsAt b c x l)) (w : CameNearer (at a.goal) n b m b') where
  h : AimsAt b a x l
  h = subst (λ (p : Option Aims). IsSomeAnd p (λ c. AimsAt b c x l)) is right

  same_goal : ◌≡◌ {A = ℕ → ℕ} (at a.goal) (goal b' x l)
  same_goal = h.same ∙ sym (goal_only b b' x l w.only)

  pub pursued_spent : Sound b → b.parts ≤ 64 → n ≡ 1024 → m ≡ 0 → Pursued None o x l b b'
  pursued_spent s few en em =
      let cost : costs b (at a.goal) ≤ 5056 =
      (cost_is_bounded b s few).0 (at a.goal) (λ z hz. omega (arith, h.targets.under z hz, h.targets.fits.fifteen z hz)) in
      let paid : costs b' (goal b' x l) + n ≤ costs b (at a.goal) + m = subst (λ (g : ℕ → ℕ). costs b' g + n ≤ costs b (at a.goal) + m) same_goal w.nearer in
      let same : costs b (at a.goal) ≡ costs b (goal b x l) = ap (λ (g : ℕ → ℕ). costs b g) h.same in
      (omega (arith, cost, same), omega (arith, paid, same), subst (λ (p : Option Aims). IsSomeAnd p (λ c. AimsAt b' c x l)) (sym is) (aims_only b b' a x l w.only h))

  pub pursued_done : 1 ≤ l → x < b.parts → AllEnd (Ok tt) b' (at a.goal) m → Pursued (Some Done) o x l b b'
  pursued_done one hx all g =
      let wanted : l ≤ at a.goal x = omega (arith, ap (λ (f : ℕ → ℕ). f x) h.same, and_also_this (λ (z : ℕ). 0) x l, least_wanted b (and_also (λ (z : ℕ). 0) x l) x hx) in
      tell_done b' (at a.goal) x l g one wanted (all x (omega (arith, w.only.parts)))

  pub pursued_stuck : AllEnd (Err Stuck) b' (at a.goal) m → Pursued (Some (No 6)) o x l b b'
  pursued_stuck e g =
      let i = aims_only b b' a x l w.only h in
      tell_six b' x l g e.0 i.can e.1 (subst (λ (f : ℕ → ℕ). StuckAt b' f e.0) same_goal e.2)

-- what is left of the board is what its owner sees then
pub pursued_seen : {X : Type 0} (board : X → Board) (seen y : X) (r : Option Answer) (o : Option Aims) (x l : ℕ) (b : Board) → seen ≡ y → Pursued r o x l b (board y) → Pursued r o x l b (board seen)
pursued_seen board seen y r o x l b e h = rw e h

-- what the keeper knows goes on being so
pub mirrors_only :
    (k k' : Keeper) (b b' : Board) → OnlyParts b b' → Mirrors k b → k'.parts ≡ k.parts → k'.wishes ≡ k.wishes → k'.idle ≡ k.idle → Knows k'.driver b' → Mirrors k' b'
mirrors_only k k' b b' o m ep ew ei h =
    record {
      parts = ep ∙ m.parts ∙ sym o.parts;
      few = omega (arith, m.few);
      knows = h;
      says = rw ew (λ u. subst (λ (w : Wish). Says (wanted_by k.wishes u) w) (ap (λ (f : ℕ → Wish). f u) (sym o.wish)) (m.says u));
      idle = ei ∙ m.idle ∙ sym o.quiet;
    }
