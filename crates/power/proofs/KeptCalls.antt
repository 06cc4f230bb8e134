-- The keeper's invariant: at the start, and after a call. Assumes nothing.
use Rattle.std.proofs.Common.{◌≡◌, ℕ, ◌<◌, T, ◌≢◌, None, Option, IfSome, Result, IsErrAnd, replicate, sym, ◌∙◌, subst, arith}
use Rattle.std.proofs.lemmas.Option.{IfSome_then}
use Rattle.std.proofs.lemmas.Result.{err_from_is_err_and}
use Rattle.power.specs.Refused.{number_of}
use Rattle.power.specs.declared.refusal.Refusal.{Refusal}
use Rattle.power.specs.declared.refusal.Refusal.TheVariants.{NoSuch}
use Rattle.power.specs.declared.Call.{Call}
use Rattle.power.specs.declared.knowledge.Keeper.{Keeper}
use Rattle.power.specs.declared.types.Aims.{Aims}
use Rattle.power.specs.declared.state.Wanted.TheVariants as wanted
use Rattle.power.specs.Board.{Board, Wish, None', Asked, Granted, is_none, is_asked, put, with_wish, why, called, AtStart}
use Rattle.power.specs.Sound.{Sound}
use Rattle.power.specs.Mirrors.{Knows, SaysAll}
use Rattle.power.specs.Ages.{Aged}
use Rattle.power.specs.Turns.{AimsFor, DoneWith}
use Rattle.power.specs.Kept.{Mirrors, Kept}
use Rattle.power.proofs.OneWish.{granted_asked, none_granted}
use Rattle.power.proofs.Puts.{put_other}
use Rattle.power.proofs.Calls.{called_away}
use Rattle.power.proofs.Said.{says_start}
use Rattle.power.proofs.SoundUsers.{sound_start, sound_called}
use Rattle.power.proofs.Ages.{moved_other, aged_start, aged_want, aged_give}
use Rattle.power.proofs.AimsKept.{aims_asked, aims_for_wish}

-- THE START
pub kept_start :
    (k : Keeper) (b : Board) → AtStart b → k.parts ≡ b.parts → Knows k.driver b → k.wishes.wanted ≡ replicate 32 wanted.Nothing → k.turn.aims ≡ None → k.idle ≡ 0 → Kept k b
kept_start k b s ep h ew et ei =
    let z = s.4 in
    record {
      mirrors = record { parts = ep; few = omega (arith, s.0); knows = h; says = says_start k.wishes b ew s; idle = ei ∙ sym z };
      sound = sound_start b s;
      left = s.5;
      fresh = λ q. absurd (omega (arith, z));
      still = λ q. absurd (omega (arith, z));
      low = λ q. absurd (omega (arith, z));
      aged = aged_start k.turn.user.n b s;
      aims = rw et tt;
    }

-- A CALL IS TURNED AWAY
pub kept_away : (k : Keeper) (c : Call) (b : Board) (n : ℕ) → n ≢ 0 → n ≡ why c b → Kept k b → (n ≡ why c b) × Kept k (called c b)
kept_away k c b n h e m = (e, rw (called_away c b n e h) m)

-- it names no user, part or level
pub kept_no_such : (k : Keeper) (c : Call) (b : Board) (r : Result Unit Refusal) → IsErrAnd r (λ e. e ≡ NoSuch) → 1 ≡ why c b → Kept k b → (number_of r ≡ why c b) × Kept k (called c b)
kept_no_such k c b r h e m =
    let p = err_from_is_err_and r h in
    rw (p.1, p.2) (kept_away k c b 1 (omega arith) e m)

-- A WISH CHANGES
knows_wish : (k : Keeper) (b : Board) (u : ℕ) (w : Wish) → Knows k.driver b → Knows k.driver (with_wish u w b)
knows_wish k b u w h = record { parts = record { part = h.parts.part; tried = h.parts.tried }; left = h.left }

mirrors_wish : (k k' : Keeper) (b : Board) (u : ℕ) (w : Wish) → Mirrors k b → k'.parts ≡ k.parts → k'.driver ≡ k.driver → k'.idle ≡ 0 → SaysAll k'.wishes (with_wish u w b) → Mirrors k' (with_wish u w b)
mirrors_wish k k' b u w m ep ed ei s =
    record { parts = ep ∙ m.parts; few = omega (arith, m.few); knows = rw ed (knows_wish k b u w m.knows); says = s; idle = ei }

kept_wish :
    (k k' : Keeper) (b : Board) (u : ℕ) (w : Wish) (c : Call) → Kept k b → called c b ≡ with_wish u w b → Mirrors k' (with_wish u w b) → Aged k'.turn.user.n (with_wish u w b) →
    IfSome k'.turn.aims (λ a. AimsFor (with_wish u w b) a (put u w b.wish k'.turn.user.n)) → Kept k' (called c b)
kept_wish k k' b u w c m e h a t =
    let s = sound_called b c m.sound in
    subst (λ (d : Board). Sound d → Kept k' d) (sym e) (λ (s : Sound (with_wish u w b)). record {
      mirrors = h;
      sound = s;
      left = m.left;
      fresh = λ q. absurd (omega arith);
      still = λ q. absurd (omega arith);
      low = λ q. absurd (omega arith);
      aged = a;
      aims = t;
    }) s

asked_some : (w : Wish) → T (is_asked w) → T (is_none w) → ⊥
unfolding is_asked is_none
asked_some None' t n = t
asked_some (Asked x l g) t n = n
asked_some (Granted x l) t n = n

module _ (k k' : Keeper) (b : Board) (u : ℕ) (lu : u < 32) (m : Kept k b) (ep : k'.parts ≡ k.parts) (ed : k'.driver ≡ k.driver) (ei : k'.idle ≡ 0) where
  pub kept_want :
      (x l : ℕ) (c : Call) → called c b ≡ with_wish u (Asked x l 0) b → T (is_none (b.wish u)) → SaysAll k'.wishes (with_wish u (Asked x l 0) b) → k'.turn ≡ k.turn → Kept k' (called c b)
  kept_want x l c e none s et =
      let w = Asked x l 0 in
      let t = k.turn.user.n in
      kept_wish k k' b u w c m e (mirrors_wish k k' b u w m.mirrors ep ed ei s)
      (rw et (aged_want t u x l b k.turn.user.below lu none m.aged))
      (rw et (IfSome_then k.turn.aims m.aims (λ a h.
      let ne : t ≢ u = λ q. asked_some (b.wish t) (aims_asked b a (b.wish t) h) (subst (λ (v : ℕ). T (is_none (b.wish v))) (sym q) none) in
      subst (λ (v : Wish). AimsFor (with_wish u w b) a v) (sym (put_other u w b.wish t ne))
      (aims_for_wish b u w a (b.wish t) m.sound.plan (λ y v q. granted_asked y v x l 0 (sym q)) h))))

  pub kept_give : (c : Call) → called c b ≡ with_wish u None' b → SaysAll k'.wishes (with_wish u None' b) → DoneWith u k.turn k'.turn → Kept k' (called c b)
  kept_give c e s d =
      let t = k.turn.user.n in
      kept_wish k k' b u None' c m e (mirrors_wish k k' b u None' m.mirrors ep ed ei s)
      (rw d.user (aged_give t u b k.turn.user.below lu m.aged))
      (IfSome_then k'.turn.aims d.aims (λ a q.
      let stays : k'.turn.user.n ≡ t = d.user ∙ moved_other u t q.0 in
      let h = aims_for_wish b u None' a (b.wish t) m.sound.plan none_granted (subst (λ (o : Option Aims). IfSome o (λ a. AimsFor b a (b.wish t))) q.1 m.aims) in
      subst (λ (v : ℕ). AimsFor (with_wish u None' b) a (put u None' b.wish v)) (sym stays)
      (subst (λ (v : Wish). AimsFor (with_wish u None' b) a v) (sym (put_other u None' b.wish t q.0)) h)))
