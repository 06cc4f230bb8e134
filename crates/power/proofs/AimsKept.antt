-- What is aimed at for a want, from when it is made: after a walk, a tick, and a call of anybody else. Assumes nothing.
use Rattle.std.proofs.Common.{◌≡◌, ℕ, ◌≤◌, not, T, Some, None, Option, IfSome, IsSomeAnd, sym, ◌∙◌, subst, arith}
use mathlib.Core.Path.{fun_ext}
use Rattle.power.specs.declared.types.Aims.{Aims}
use Rattle.power.specs.Board.{Board, Wish, None', Asked, Granted, is_asked, can_be, granted, and_also, good_plan, with_wish, ticked}
use Rattle.power.specs.Sound.{Sound}
use Rattle.power.specs.Tables.{at}
use Rattle.power.specs.Moves.{OnlyParts}
use Rattle.power.specs.Found.{Aimed}
use Rattle.power.specs.Turns.{AimsAt, AimsFor}
use Rattle.power.proofs.Puts.{put_each}
use Rattle.power.proofs.Larger.{granted_at, granted_le, and_also_le, and_also_more, and_also_this}
use Rattle.power.proofs.Lowest.{can_less}
use Rattle.power.proofs.Aiming.{found_is, found_fits, aimed_covers, aimed_under, goal_serves}
use Rattle.power.proofs.Targets.{targets_only, targets_ticked, targets_wish}
use Rattle.power.proofs.Tellings.{can_only, goal_only}
use Rattle.power.proofs.Quiet.{granted_ticked}

-- MADE, for what is granted as f says it
pub aims_made : (b : Board) (f : ℕ → ℕ) (x l : ℕ) (a : Aims) → Sound b → ((y : ℕ) → f y ≡ granted b y) → Aimed b f x l a → AimsAt b a x l
aims_made b f x l a s e m =
    let t : Aimed b (granted b) x l a = subst (λ (g : ℕ → ℕ). Aimed b g x l a) (fun_ext e) m in
    record {
      targets = record {
        fits = found_fits b (and_also (granted b) x l) a.ceiling s.plan t.ceiling;
        covers = aimed_covers b x l a (λ u y v hu h. (s.holds u y v hu h).0) t;
        serves = goal_serves b (granted b) x l a s.plan t;
        under = λ z hz. aimed_under b (granted b) x l a s.plan t z;
      };
      same = found_is b (and_also (λ (z : ℕ). 0) x l) a.goal t.goal;
      can = t.ceiling.can;
    }

-- or can't be
pub never_made : (b : Board) (f : ℕ → ℕ) (x l : ℕ) → ((y : ℕ) → f y ≡ granted b y) → T (not (can_be b (and_also f x l))) → T (not (can_be b (and_also (granted b) x l)))
never_made b f x l e t = subst (λ (g : ℕ → ℕ). T (not (can_be b (and_also g x l)))) (fun_ext e) t

-- AFTER A WALK, AND A TICK
pub aims_only : (b b' : Board) (a : Aims) (x l : ℕ) → OnlyParts b b' → AimsAt b a x l → AimsAt b' a x l
aims_only b b' a x l o h =
    record { targets = targets_only b b' (at a.ceiling) (at a.goal) o h.targets; same = h.same ∙ sym (goal_only b b' x l o); can = can_only b b' x l o h.can }

pub aims_ticked : (b : Board) (a : Aims) (x l : ℕ) → AimsAt b a x l → AimsAt (ticked b) a x l
aims_ticked b a x l h =
    record {
      targets = targets_ticked b (at a.ceiling) (at a.goal) h.targets;
      same = h.same;
      can = subst (λ (g : ℕ → ℕ). T (can_be b (and_also g x l))) (sym (granted_ticked b)) h.can;
    }

-- AFTER A CALL: no more is granted
fewer_granted : (b : Board) (u : ℕ) (w : Wish) → ((x v : ℕ) → w ≡ Granted x v → ⊥) → (y : ℕ) → granted (with_wish u w b) y ≤ granted b y
fewer_granted b u w n y =
    granted_le (with_wish u w b) y (granted b y) (λ i v hi.
    put_each (λ (j : ℕ) (z : Wish). z ≡ Granted y v → v ≤ granted b y) u w b.wish i (λ _ e. absurd (n y v e)) (λ _ e. granted_at b i y v hi e))

also_fewer : (f g : ℕ → ℕ) (x l y : ℕ) → f y ≤ g y → and_also f x l y ≤ and_also g x l y
also_fewer f g x l y h =
    and_also_le f x l y (and_also g x l y) (omega (arith, and_also_more g x l y)) (λ e. subst (λ (z : ℕ). l ≤ and_also g x l z) e (and_also_this g x l))

aims_wish : (b : Board) (u : ℕ) (w : Wish) (a : Aims) (x l : ℕ) → T (good_plan b) → ((y v : ℕ) → w ≡ Granted y v → ⊥) → AimsAt b a x l → AimsAt (with_wish u w b) a x l
aims_wish b u w a x l p n h =
    record {
      targets = targets_wish b (at a.ceiling) (at a.goal) u w n h.targets;
      same = h.same;
      can = can_less b (and_also (granted (with_wish u w b)) x l) (and_also (granted b) x l) p
          (λ y hy. also_fewer (granted (with_wish u w b)) (granted b) x l y (fewer_granted b u w n y)) h.can;
    }

-- WHOSE IT IS
pub aims_of : (b : Board) (a : Aims) (w : Wish) (x l g : ℕ) → w ≡ Asked x l g → AimsFor b a w → AimsAt b a x l
aims_of b a w x l g e h = subst (λ (v : Wish). AimsFor b a v) e h

pub aims_for : (b : Board) (a : Aims) (w : Wish) (x l g : ℕ) → w ≡ Asked x l g → AimsAt b a x l → AimsFor b a w
aims_for b a w x l g e h = subst (λ (v : Wish). AimsFor b a v) (sym e) h

-- what was made is of the value that there is
pub some_then : {X : Type 0} {P Q : X → Type 0} (o : Option X) → IsSomeAnd o P → ((x : X) → P x → Q x) → IfSome o Q
some_then None p h = absurd p
some_then (Some x) p h = h x p

pub aims_asked : (b : Board) (a : Aims) (w : Wish) → AimsFor b a w → T (is_asked w)
unfolding is_asked
aims_asked b a None' h = h
aims_asked b a (Asked x l g) h = tt
aims_asked b a (Granted x l) h = h

pub aims_for_wish : (b : Board) (u : ℕ) (w : Wish) (a : Aims) (v : Wish) → T (good_plan b) → ((y m : ℕ) → w ≡ Granted y m → ⊥) → AimsFor b a v → AimsFor (with_wish u w b) a v
aims_for_wish b u w a None' p n h = h
aims_for_wish b u w a (Asked x l g) p n h = aims_wish b u w a x l p n h
aims_for_wish b u w a (Granted x l) p n h = h
