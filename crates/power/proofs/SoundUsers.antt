-- A board is sound at the start; whatever users call, and are told, and every tick, keeps it so. Assumes nothing.
use Rattle.std.proofs.Common.{◌≡◌, ℕ, ◌<◌, ◌≤◌, cond, not, T, eqb, ltb, leb, sym, refl, ◌∙◌, subst, subst₂, arith, ltb→lt, leb→le, eqb-true}
use Rattle.std.proofs.lemmas.Bool.Decides.{nat_tests}
use Rattle.std.proofs.lemmas.Bool.{cond_both}
use Rattle.power.specs.declared.Call.{Call}
use Rattle.power.specs.declared.Call.TheVariants.{Want, Give}
use Rattle.power.specs.declared.Answer.{Answer}
use Rattle.power.specs.declared.Answer.TheVariants.{Done, No}
use Rattle.power.specs.Board.{Board, Part, Wish, None', Asked, Granted, is_off, is_on, is_none, level_of, put, with_wish, why, called, may_tell, may_tell_of, told, told_of, is_six, ticked, AtStart}
use Rattle.power.specs.Sound.{Sound, UsersKeepSound}
use Rattle.power.proofs.Tests.{and_l, and_r}
use Rattle.power.proofs.Draws.{draws_nothing}
use Rattle.power.proofs.Puts.{put_each}
use Rattle.power.proofs.OneWish.{granted_asked, none_granted, none_asked, older_granted, older_asked}

-- x at l was granted soundly, was asked soundly
Held : Board → ℕ → ℕ → Type 0
Held b x l = (x < b.parts) × (1 ≤ l) × T (is_on (b.part x)) × (l ≤ level_of (b.part x))

Named : Board → ℕ → ℕ → Type 0
Named b x l = (x < b.parts) × (1 ≤ l) × (l ≤ 15)

pub sound_start : (b : Board) → AtStart b → Sound b
unfolding is_off is_on is_none
sound_start b a =
    let nobody : (u : ℕ) (w : Wish) → T (not (is_none w)) → b.wish u ≡ w → ⊥ =
    λ u w t e. subst (λ (v : Wish). T (not (is_none v))) (sym e ∙ a.3 u) t in
    record {
      plan = a.1;
      has = λ x k hx off hk. absurd (subst (λ (q : Part). T (not (is_off q))) (a.2 x).0 off);
      range = λ x l hx e. absurd (subst (λ (q : Part). T (is_on q)) (sym e ∙ (a.2 x).0) tt);
      draws = omega (arith, draws_nothing b a.1 (λ x. (a.2 x).0));
      asks = λ u x l g hu e. absurd (nobody u (Asked x l g) tt e);
      holds = λ u x l hu e. absurd (nobody u (Granted x l) tt e);
    }

-- Only the wish of u changes, to w, that is sound by itself.
module _ (b : Board) (s : Sound b) (u : ℕ) (w : Wish) (t : ℕ → ℕ) (q n : ℕ)
    (asked : (x l a : ℕ) → w ≡ Asked x l a → (x < b.parts) × (1 ≤ l) × (l ≤ 15))
    (held : (x l : ℕ) → w ≡ Granted x l → (x < b.parts) × (1 ≤ l) × T (is_on (b.part x)) × (l ≤ level_of (b.part x))) where
  sound_wish : Sound (record { parts = b.parts; needs = b.needs; draws = b.draws; gives = b.gives; part = b.part; tried = t; wish = put u w b.wish; quiet = q; left = n })
  unfolding Held Named
  sound_wish =
      record {
        plan = s.plan;
        has = s.has;
        range = s.range;
        draws = s.draws;
        asks = λ v x l a hv. put_each (λ (i : ℕ) (z : Wish). z ≡ Asked x l a → Named b x l) u w b.wish v (λ _. asked x l a) (λ _. s.asks v x l a hv);
        holds = λ v x l hv. put_each (λ (i : ℕ) (z : Wish). z ≡ Granted x l → Held b x l) u w b.wish v (λ _. held x l) (λ _. s.holds v x l hv);
      }

-- TOLD
told_held : (b : Board) → Sound b → (u : ℕ) → u < 32 → (w : Wish) → b.wish u ≡ w → (a : Answer) → T (may_tell_of b w a) →
    (x l : ℕ) → told_of w a ≡ Granted x l → (x < b.parts) × (1 ≤ l) × T (is_on (b.part x)) × (l ≤ level_of (b.part x))
unfolding may_tell_of told_of Held
told_held b s u hu None' e a t x l d = absurd t
told_held b s u hu (Asked y m g) e Done t x l d =
    let A = is_on (b.part y) in
    let B = leb m (level_of (b.part y)) in
    let r = s.asks u y m g hu e in
    let p : y ≡ x = cc in
    let q : m ≡ l = cc in
    subst₂ (Held b) p q (r.0, r.1, and_l A B t, leb→le m (level_of (b.part y)) (and_r A B t))
told_held b s u hu (Asked y m g) e (No n) t x l d = absurd (none_granted x l d)
told_held b s u hu (Granted y m) e a t x l d = absurd t

-- who was told doesn't wait
pub told_unasked : (b : Board) (w : Wish) (a : Answer) → T (may_tell_of b w a) → (x l c : ℕ) → told_of w a ≡ Asked x l c → ⊥
unfolding may_tell_of told_of
told_unasked b None' a t x l c d = t
told_unasked b (Asked y m g) Done t x l c d = granted_asked y m x l c d
told_unasked b (Asked y m g) (No n) t x l c d = none_asked x l c d
told_unasked b (Granted y m) a t x l c d = t

pub sound_told : (b : Board) (u : ℕ) (a : Answer) → Sound b → T (may_tell b u a) → Sound (told u a b)
sound_told b u a s t =
    let M = may_tell_of b (b.wish u) a in
    let hu = ltb→lt u 32 (and_l (ltb u 32) M t) in
    let m = and_r (ltb u 32) M t in
    sound_wish b s u (told_of (b.wish u) a) (λ x. cond (is_six a) 0 (b.tried x)) 0 b.left
    (λ x l c e. absurd (told_unasked b (b.wish u) a m x l c e))
    (λ x l e. told_held b s u hu (b.wish u) refl a m x l e)

-- TICKED
pub sound_ticked : (b : Board) → Sound b → Sound (ticked b)
sound_ticked b s =
    record {
      plan = s.plan;
      has = s.has;
      range = s.range;
      draws = s.draws;
      asks = λ u x l a hu e. let r = older_asked (b.wish u) x l a e in s.asks u x l r.0 hu r.1;
      holds = λ u x l hu e. s.holds u x l hu (older_granted (b.wish u) x l e);
    }

-- CALLED
want_named : (b : Board) (u x l : ℕ) → why (Want u x l) b ≡ 0 → (x < b.parts) × (1 ≤ l) × (l ≤ 15)
unfolding why
want_named b u x l e = (grind (arith, nat_tests), grind (arith, nat_tests), grind (arith, nat_tests))

pub sound_called : (b : Board) (c : Call) → Sound b → Sound (called c b)
unfolding called
sound_called b (Want u x l) s =
    cond_both (eqb (why (Want u x l) b) 0) (with_wish u (Asked x l 0) b) b Sound
    (λ e.
    let w = want_named b u x l (eqb-true (why (Want u x l) b) 0 e) in
    sound_wish b s u (Asked x l 0) b.tried 0 b.left
    (λ y m a d. let p : x ≡ y = cc in let q : l ≡ m = cc in (omega (arith, w.0), omega (arith, w.1), omega (arith, w.2)))
    (λ y m d. absurd (granted_asked y m x l 0 (sym d))))
    (λ e. s)
sound_called b (Give u) s =
    cond_both (eqb (why (Give u) b) 0) (with_wish u None' b) b Sound
    (λ e. sound_wish b s u None' b.tried 0 b.left (λ y m a d. absurd (none_asked y m a d)) (λ y m d. absurd (none_granted y m d)))
    (λ e. s)

pub users_keep_sound : UsersKeepSound
users_keep_sound b = (sound_start b, sound_called b, sound_told b, sound_ticked b)
