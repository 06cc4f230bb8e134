-- What is asked of a board: it stays sound, and what a part was found to be. Assumes nothing.
use Rattle.std.proofs.Common.{◌≡◌, ℕ, ◌+◌, ◌<◌, Bool, true, false, cond, ltb, refl, sym, subst}
use Rattle.power.specs.Board.{Board, MayRaise, MayLower, MayLevel, Tries, good, not_yet, On, put, with_parts, raised, lowered, levelled}
use Rattle.power.specs.Sound.{Sound}
use Rattle.power.proofs.SoundSteps.{steps_keep_sound}

pub sound_once_raised : (b b' : Board) (x : ℕ) → Sound b → MayRaise b x → b' ≡ raised x b → Sound b'
sound_once_raised b b' x s m e = subst Sound (sym e) ((steps_keep_sound b s).0 x m)

pub sound_once_tried : (b b' : Board) (x : ℕ) (r : Bool) → Sound b → x < b.parts → Tries b x r b' → Sound b'
sound_once_tried b b' x r s h t = (steps_keep_sound b s).1 x r b' h t

pub sound_once_lowered : (b b' : Board) (x : ℕ) → Sound b → MayLower b x → b' ≡ lowered x b → Sound b'
sound_once_lowered b b' x s m e = subst Sound (sym e) ((steps_keep_sound b s).2 x m)

pub sound_once_levelled : (b b' : Board) (x v : ℕ) → Sound b → MayLevel b x v → b' ≡ levelled x v b → Sound b'
sound_once_levelled b b' x v s m e = subst Sound (sym e) ((steps_keep_sound b s).3 x v m)

-- what was tried
pub was_good : {b : Board} {x : ℕ} {r : Bool} {b' : Board} → Tries b x r b' → r ≡ true → b' ≡ with_parts (put x (On 1) b.part) b.tried b
was_good (good h) e = refl
was_good (not_yet h) e = cc

pub was_not_yet : {b : Board} {x : ℕ} {r : Bool} {b' : Board} → Tries b x r b' → r ≡ false → b' ≡ with_parts b.part (put x (cond (ltb (b.tried x) 64) (b.tried x + 1) 64) b.tried) b
was_not_yet (good h) e = cc
was_not_yet (not_yet h) e = refl
