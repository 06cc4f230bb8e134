-- What may be told after a walk: done, 5 or 6; and that what can be, and the goal, are as before it. Assumes nothing.
use Rattle.std.proofs.Common.{◌≡◌, ℕ, ◌<◌, ◌≤◌, not, ◌&&◌, T, eqb, ltb, leb, List, sym, ap, ◌∙◌, subst, arith, le→leb, lt→ltb}
use Rattle.power.specs.Board.{Board, Need, Wish, Asked, is_on, is_rising, level_of, can_be, granted, and_also, failed, may_tell_of}
use Rattle.power.specs.Walk.{Reached}
use Rattle.power.specs.Moves.{OnlyParts, StuckAt}
use Rattle.power.specs.Ages.{goal}
use Rattle.power.specs.declared.Answer.TheVariants.{Done, No}
use Rattle.power.proofs.Tests.{and_i, or_l, or_r, some_of}
use Rattle.power.proofs.Sheet.{eq→eqb}
use Rattle.power.proofs.OnePart.{rising_is}

-- any goal l that has x at v or more will do for done
pub tell_done : (b : Board) (l : ℕ → ℕ) (x v g : ℕ) → 1 ≤ v → v ≤ l x → Reached b l x → T (may_tell_of b (Asked x v g) Done)
unfolding may_tell_of
tell_done b l x v g one h r =
    and_i (is_on (b.part x)) (leb v (level_of (b.part x))) (r.1 (omega arith)) (le→leb v (level_of (b.part x)) (omega (arith, r.0)))

pub tell_five : (b : Board) (x v g : ℕ) → T (not (can_be b (and_also (granted b) x v))) → T (may_tell_of b (Asked x v g) (No 5))
unfolding may_tell_of
tell_five b x v g t = or_l (eqb 5 5 && not (can_be b (and_also (granted b) x v))) _ t

pub tell_six : (b : Board) (x v g y : ℕ) → T (can_be b (and_also (granted b) x v)) → y < b.parts → StuckAt b (goal b x v) y → T (may_tell_of b (Asked x v g) (No 6))
unfolding may_tell_of
tell_six b x v g y t hy s =
    let C = can_be b (and_also (granted b) x v) in
    let A = eqb (b.tried y) 64 in
    let B = is_rising (b.part y) in
    let D = ltb 0 (goal b x v y) in
    let f : T (failed b x v) =
    some_of b.parts _ y hy (and_i (A && B) D (and_i A B (eq→eqb (b.tried y) 64 s.2) (rising_is (b.part y) s.1)) (lt→ltb 0 (goal b x v y) s.0)) in
    or_r (eqb 6 5 && not C) (eqb 6 6 && C && failed b x v) (and_i (eqb 6 6 && C) (failed b x v) (and_i (eqb 6 6) C tt t) f)

-- the same after a walk
pub can_only : (b b' : Board) (x v : ℕ) → OnlyParts b b' → T (can_be b (and_also (granted b) x v)) → T (can_be b' (and_also (granted b') x v))
can_only b b' x v o t =
    let P : ℕ → (ℕ → List Need) → (ℕ → List ℕ) → ℕ → (ℕ → Wish) → Type 0 =
    λ n ns ds m ws.
    let c : Board = record { parts = n; needs = ns; draws = ds; gives = m; part = b'.part; tried = b'.tried; wish = ws; quiet = b'.quiet; left = b'.left } in
    T (can_be c (and_also (granted c) x v)) in
    subst (λ (n : ℕ). P n b'.needs b'.draws b'.gives b'.wish) (sym o.parts)
    (subst (λ (ns : ℕ → List Need). P b.parts ns b'.draws b'.gives b'.wish) (sym o.needs)
    (subst (λ (ds : ℕ → List ℕ). P b.parts b.needs ds b'.gives b'.wish) (sym o.draws)
    (subst (λ (m : ℕ). P b.parts b.needs b.draws m b'.wish) (sym o.gives)
    (subst (λ (ws : ℕ → Wish). P b.parts b.needs b.draws b.gives ws) (sym o.wish) t))))

pub goal_only : (b b' : Board) (x v : ℕ) → OnlyParts b b' → ◌≡◌ {A = ℕ → ℕ} (goal b' x v) (goal b x v)
goal_only b b' x v o =
    let B : ℕ → (ℕ → List Need) → Board =
    λ n ns. record { parts = n; needs = ns; draws = b'.draws; gives = b'.gives; part = b'.part; tried = b'.tried; wish = b'.wish; quiet = b'.quiet; left = b'.left } in
    let G : ℕ → (ℕ → List Need) → ℕ → ℕ = λ n ns y. goal (B n ns) x v y in
    ap (λ (n : ℕ). G n b'.needs) o.parts ∙ ap (λ (ns : ℕ → List Need). G b.parts ns) o.needs
