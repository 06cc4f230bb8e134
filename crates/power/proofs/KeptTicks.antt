-- The keeper's invariant after a tick's work: when nobody waits, and for the first who does. Assumes nothing.
use Rattle.std.proofs.Common.{◌≡◌, ℕ, ◌+◌, ◌<◌, ◌≤◌, not, T, ltb, ◌≢◌, Some, None, Option, IfSome, sym, refl, ap, ◌∙◌, subst, inl, inr, arith, lt→ltb, T_not}
use Rattle.std.proofs.lemmas.Bool.{cases_lt}
use Rattle.std.proofs.lemmas.Option.{IfSome_then}
use Rattle.std.proofs.lemmas.Bool.Decides.{nat_tests}
use Rattle.power.specs.declared.Answer.{Answer}
use Rattle.power.specs.declared.Answer.TheVariants.{Done, No}
use Rattle.power.specs.declared.types.Aims.{Aims}
use Rattle.power.specs.declared.state.Request.{Request}
use Rattle.power.specs.declared.state.Turn.{Turn}
use Rattle.power.specs.declared.state.Wanted.{Wanted}
use Rattle.power.specs.declared.state.Wanted.TheVariants as wanted
use Rattle.power.specs.declared.knowledge.Keeper.{Keeper}
use Rattle.power.specs.Board.{Board, Wish, Asked, is_asked, put, lean, young, may_tell, may_tell_of, told, told_of, older, ticked}
use Rattle.power.specs.Sound.{Sound}
use Rattle.power.specs.Moves.{OnlyParts}
use Rattle.power.specs.Mirrors.{Knows, Says, wanted_by}
use Rattle.power.specs.Rota.{next_of, dist, NobodyWaits, IsHead}
use Rattle.power.specs.Ages.{Aged}
use Rattle.power.specs.Turns.{AimsAt, AimsFor, DoneWith}
use Rattle.power.specs.Kept.{Mirrors, Kept, Pursued, Worked}
use Rattle.power.proofs.Tests.{and_i}
use Rattle.power.proofs.Puts.{put_each}
use Rattle.power.proofs.Said.{says_ticked, asked_waits, nobody_asked}
use Rattle.power.proofs.SoundUsers.{sound_told, sound_ticked}
use Rattle.power.proofs.Ages.{is_asked_lem, moved_self, aged_young, aged_moved, aged_told, aged_spent, aged_still}
use Rattle.power.proofs.Quiet.{quiet_still, lean_ticked, lean_soon, lean_late, in_time_soon, in_time_lean}
use Rattle.power.proofs.AimsKept.{aims_of, aims_for, aims_asked, aims_ticked, some_then}

kept_ticked :
    (k : Keeper) (b : Board) → Mirrors k (ticked b) → Sound b → (32 < (ticked b).quiet → T (lean b)) → Aged k.turn.user.n (ticked b) →
    IfSome k.turn.aims (λ a. AimsFor (ticked b) a (older (b.wish k.turn.user.n))) → Kept k (ticked b)
kept_ticked k b m s l a t =
    record {
      mirrors = m;
      sound = sound_ticked b s;
      left = omega arith;
      fresh = λ q. refl;
      still = quiet_still b;
      low = λ q. lean_ticked b (l q);
      aged = a;
      aims = t;
    }

young_only : (t : ℕ) (b b' : Board) → OnlyParts b b' → Aged t b → (u : ℕ) → u < 32 → T (young (b'.wish u))
young_only t b b' o a u hu = subst (λ (f : ℕ → Wish). T (young (f u))) (sym o.wish) (aged_young t b a u hu)

-- NOBODY WAITS
module _ (k k' : Keeper) (b : Board) (m : Kept k b) (nobody : NobodyWaits k.wishes 0 32) (et : k'.turn ≡ k.turn) where
  none : (u : ℕ) → u < 32 → T (not (is_asked (b.wish u)))
  none = nobody_asked k.wishes b m.mirrors.says nobody

  not_aiming : (P : Aims → Type 0) → IfSome k.turn.aims P
  not_aiming P =
      let u = k.turn.user.n in
      IfSome_then k.turn.aims m.aims (λ a h. absurd (T_not (is_asked (b.wish u)) (none u k.turn.user.below) (aims_asked b a (b.wish u) h)))

  pub worked_settled : (b' : Board) → k.idle ≡ 32 → OnlyParts b b' → Sound b' → T (lean b') → Mirrors k' (ticked b') → Worked None k' b'
  worked_settled b' e o s l h =
      let still = λ (u : ℕ) (hu : u < 32). subst (λ (f : ℕ → Wish). T (not (is_asked (f u)))) (sym o.wish) (none u hu) in (
        in_time_soon b' (young_only k.turn.user.n b b' o m.aged) (omega (arith, e, m.mirrors.idle, o.quiet)),
        kept_ticked k' b' h s (λ _. l) (aged_still k'.turn.user.n b' still) (rw et (not_aiming _)),
      )

  pub worked_idle : k.idle ≢ 32 → Mirrors k' (ticked b) → Worked None k' b
  worked_idle ne h =
      let y = aged_young k.turn.user.n b m.aged in
      let nq : b.quiet ≢ 32 = λ q. ne (m.mirrors.idle ∙ q) in (
        elim (cases_lt b.quiet 64) [
          | inl q ↦ in_time_soon b y q
          | inr q ↦ in_time_lean b y (m.low (omega arith)) (m.fresh (omega arith))
        ],
        kept_ticked k' b h m.sound (lean_late b nq m.low) (aged_still k'.turn.user.n b none) (rw et (not_aiming _)),
      )

-- what is left of the board is what its owner sees then
pub worked_seen : {X : Type 0} (board : X → Board) (seen x : X) (r : Option (ℕ × Answer)) (k : Keeper) → seen ≡ x → Worked r k (board x) → Worked r k (board seen)
worked_seen board seen x r k e h = rw e h

-- THE FIRST WHO WAITS
pub asked_said : (k : Keeper) (b : Board) (u : ℕ) (r : Request) → Mirrors k b → wanted.Asked r tt ≡ wanted_by k.wishes u → (a : ℕ) × (b.wish u ≡ Asked r.part.n r.level.n a)
asked_said k b u r m e = subst (λ (w : Wanted Unit). Says w (b.wish u)) (sym e) (m.says u)

dist_none : (t u : ℕ) → t < 32 → u < 32 → dist t u ≤ dist t t → u ≡ t
dist_none t u a b h = grind (arith, nat_tests)

older_is : (w : Wish) (x l g : ℕ) → w ≡ Asked x l g → older w ≡ Asked x l (g + 1)
unfolding older
older_is w x l g e = ap older e

young_told : (x l g : ℕ) (a : Answer) → T (young (told_of (Asked x l g) a))
unfolding young told_of
young_told x l g Done = tt
young_told x l g (No n) = tt

module _ (k k' : Keeper) (b : Board) (u x l g : ℕ) (m : Kept k b) (lu : u < 32) (w : b.wish u ≡ Asked x l g) (head : IsHead k.wishes k.turn.user.n u) where
  -- what is aimed at is for them
  pub head_aims : IfSome k.turn.aims (λ a. AimsAt b a x l)
  head_aims =
      let v = k.turn.user.n in
      IfSome_then k.turn.aims m.aims (λ a h.
      let waits = asked_waits k.wishes b v m.mirrors.says (aims_asked b a (b.wish v) h) in
      let e : u ≡ v = dist_none v u k.turn.user.below lu (head.1 v k.turn.user.below waits) in
      aims_of b a (b.wish v) x l g (subst (λ (i : ℕ). b.wish i ≡ Asked x l g) e w) h)

  aged : Aged u b
  aged = aged_moved k.turn.user.n u b k.turn.user.below lu (λ v lv t. head.1 v lv (asked_waits k.wishes b v m.mirrors.says t)) m.aged

  pub not_quiet : b.quiet ≡ 0
  not_quiet =
      elim (cases_lt 0 b.quiet) [
        | inl q ↦ absurd (T_not (is_asked (b.wish u)) (m.still q u lu) (is_asked_lem (b.wish u) x l g w))
        | inr q ↦ omega arith
      ]

  module _ (b' : Board) (o : OnlyParts b b') (s : Sound b') where
    w' : b'.wish u ≡ Asked x l g
    w' = ap (λ (f : ℕ → Wish). f u) o.wish ∙ w

    pub worked_spent : (t : Turn) → k'.turn ≡ t → Pursued None t.aims x l b b' → t.user.n ≡ u → Mirrors k' (ticked b') → Worked None k' b'
    worked_spent t et p e h =
        let q : b'.quiet ≡ 0 = o.quiet ∙ not_quiet in (
          in_time_soon b' (young_only u b b' o aged) (omega arith),
          kept_ticked k' b' h s (lean_soon b' q) (rw (et, e) (aged_spent u b b' x l g o.wish w p.0 p.1 aged))
              (rw (et, e) (some_then t.aims p.2 (λ a i. aims_for (ticked b') a (older (b'.wish u)) x l (g + 1) (older_is (b'.wish u) x l g w') (aims_ticked b' a x l i)))),
        )

    pub worked_told :
        (a : Answer) (t t' : Turn) → k'.turn ≡ t' → ((c : ℕ) → T (may_tell_of b' (Asked x l c) a)) → t.user.n ≡ u → DoneWith u t t' → Mirrors k' (ticked (told u a b')) → Worked (Some (u, a)) k' b'
    worked_told a t t' et p e d h =
        let may : T (may_tell b' u a) =
        and_i (ltb u 32) (may_tell_of b' (b'.wish u) a) (lt→ltb u 32 lu) (subst (λ (v : Wish). T (may_tell_of b' v a)) (sym w') (p g)) in
        let y : (v : ℕ) → v < 32 → T (young (put u (told_of (b'.wish u) a) b'.wish v)) =
        λ v lv. put_each (λ (i : ℕ) (z : Wish). T (young z)) u (told_of (b'.wish u) a) b'.wish v
        (λ _. subst (λ (z : Wish). T (young (told_of z a))) (sym w') (young_told x l g a)) (λ _. young_only u b b' o aged v lv) in
        let next : t'.user.n ≡ next_of u = d.user ∙ moved_self u t.user.n e ∙ ap next_of e in (
          may,
          in_time_soon (told u a b') y (omega arith),
          kept_ticked k' (told u a b') h (sound_told b' u a s may) (lean_soon (told u a b') refl) (rw (et, next) (aged_told u a b b' x l g lu o.wish w aged)) (rw et (IfSome_then t'.aims d.aims (λ a i. absurd (i.0 e)))),
        )

-- A TICK, as the keeper knows it

pub mirrors_ticked :
    (k k' : Keeper) (b : Board) → Mirrors k b → k'.parts ≡ k.parts → k'.wishes ≡ k.wishes → k'.idle ≡ (ticked b).quiet → Knows k'.driver (ticked b) → Mirrors k' (ticked b)
mirrors_ticked k k' b m ep ew ei h =
    record { parts = ep ∙ m.parts; few = omega (arith, m.few); knows = h; says = rw ew (says_ticked k.wishes b m.says); idle = ei }
