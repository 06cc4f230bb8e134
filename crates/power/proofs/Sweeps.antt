-- The ways down and up as states: each step is allowed and keeps the state, and a part that is through moves it on. Assumes nothing.
use Rattle.std.proofs.Common.{ℕ, ◌+◌, ◌-◌, ◌<◌, ◌≤◌, Bool, true, false, T, sym, subst, inl, inr, arith}
use Rattle.std.proofs.lemmas.Bool.{cases_eq}
use Rattle.power.specs.Board.{Board, Part, Off, Rising, On, is_on, level_of, put, with_parts, Tries, good, not_yet}
use Rattle.power.specs.Aim.{Fits, Serves}
use Rattle.power.specs.Sound.{Sound}
use Rattle.power.specs.Walk.{Below, Under, Down, Up, DownSteps, UpSteps}
use Rattle.power.proofs.Puts.{put_each}
use Rattle.power.proofs.OnePart.{rising_level}
use Rattle.power.proofs.SoundSteps.{sound_lowered, sound_levelled, sound_raised, sound_tries}
use Rattle.power.proofs.NextStep.{down_goes_on, up_goes_on}

-- DOWN
-- a target asks only of the plan: the record anew, with the same fields
fits_with : (b : Board) (t : ℕ → ℕ) (p : ℕ → Part) (n : ℕ → ℕ) → Fits b t → Fits (with_parts p n b) t
fits_with b t p n f = record { fifteen = f.fifteen; meets = f.meets; draws = f.draws }

down_put : (b : Board) (t : ℕ → ℕ) (y : ℕ) (p : Part) (n : ℕ → ℕ) → Down b t (y + 1) → Sound (with_parts (put y p b.part) n b) → Down (with_parts (put y p b.part) n b) t (y + 1)
down_put b t y p n d s =
    record {
      sound = s;
      fits = fits_with b t (put y p b.part) n d.fits;
      covers = d.covers;
      through = λ z h hz. put_each (λ (z : ℕ) (q : Part). level_of q ≤ t z) y p b.part z (λ e. absurd (omega arith)) (λ ne. d.through z h hz);
    }

pub down_steps : DownSteps
down_steps b t y hy d =
    let above : (z : ℕ) → y < z → z < b.parts → level_of (b.part z) ≤ t z = λ z h hz. d.through z (omega arith) hz in (
      λ left high e.
          let m = (down_goes_on b t d.sound d.fits d.covers left y hy above high).0 e in
          (m, down_put b t y Off (put y 0 b.tried) d (sound_lowered b d.sound y m)),
      λ left high h.
          let v = level_of (b.part y) - 1 in
          let m = (down_goes_on b t d.sound d.fits d.covers left y hy above high).1 h in
          (m, down_put b t y (On v) b.tried d (sound_levelled b d.sound y v m)),
      λ h. record {
        sound = d.sound;
        fits = d.fits;
        covers = d.covers;
        through = λ z hz hp.
            elim (cases_eq z y) [
              | inl e ↦ subst (λ (w : ℕ). level_of (b.part w) ≤ t w) (sym e) h
              | inr ne ↦ d.through z (omega arith) hp
            ];
      },
    )

-- UP
pub up_start : (b : Board) (t l : ℕ → ℕ) → Sound b → Fits b t → Serves b l → Below b t → Under b l t → Up b t l 0
up_start b t l s f v h u = record { sound = s; fits = f; serves = v; below = h; under = u; through = λ z hz. absurd (omega arith) }

up_put : (b : Board) (t l : ℕ → ℕ) (y : ℕ) (p : Part) (n : ℕ → ℕ) → Up b t l y → Sound (with_parts (put y p b.part) n b) → level_of p ≤ t y → Up (with_parts (put y p b.part) n b) t l y
up_put b t l y p n d s h =
    record {
      sound = s;
      fits = fits_with b t (put y p b.part) n d.fits;
      serves = d.serves;
      below = λ z hz. put_each (λ (z : ℕ) (q : Part). level_of q ≤ t z) y p b.part z (λ e. subst (λ (w : ℕ). level_of p ≤ t w) (sym e) h) (λ ne. d.below z hz);
      under = d.under;
      through = λ z hz. put_each (λ (z : ℕ) (q : Part). (l z ≤ level_of q) × (0 < l z → T (is_on q))) y p b.part z (λ e. absurd (omega arith)) (λ ne. d.through z hz);
    }

up_tries : (b : Board) (t l : ℕ → ℕ) (y : ℕ) → y < b.parts → Up b t l y → (r : Bool) (b' : Board) → Tries b y r b' → Up b' t l y
unfolding level_of
up_tries b t l y hy d r b' (good q) =
    up_put b t l y (On 1) b.tried d (sound_tries b d.sound y true _ hy (good q)) (omega (arith, rising_level (b.part y) q, d.below y hy))
up_tries b t l y hy d r b' (not_yet q) =
    record {
      sound = sound_tries b d.sound y false _ hy (not_yet q);
      fits = fits_with b t b.part _ d.fits;
      serves = d.serves;
      below = d.below;
      under = d.under;
      through = d.through;
    }

pub up_steps : UpSteps
unfolding level_of
up_steps b t l y hy d =
    let step = λ (left : 0 < b.left). up_goes_on b t l d.sound d.fits d.serves d.below d.under left y hy d.through in (
      λ left off h.
          let m = (step left).0 off h in
          (m, up_put b t l y Rising (put y 0 b.tried) d (sound_raised b d.sound y m) (omega (arith, d.under y hy))),
      up_tries b t l y hy d,
      λ left on h.
          let v = level_of (b.part y) + 1 in
          let m = (step left).1 on h in
          (m, up_put b t l y (On v) b.tried d (sound_levelled b d.sound y v m) (omega (arith, d.under y hy))),
      λ h. record {
        sound = d.sound;
        fits = d.fits;
        serves = d.serves;
        below = d.below;
        under = d.under;
        through = λ z hz.
            elim (cases_eq z y) [
              | inl e ↦ subst (λ (w : ℕ). (l w ≤ level_of (b.part w)) × (0 < l w → T (is_on (b.part w)))) (sym e) h
              | inr ne ↦ d.through z (omega arith)
            ];
      },
    )
