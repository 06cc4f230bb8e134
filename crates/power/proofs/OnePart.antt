-- What one part is: off, rising or on, and its level. Assumes nothing.
use Rattle.std.proofs.Common.{◌≡◌, ℕ, ◌<◌, not, T, refl, arith}
use Rattle.power.specs.Board.{Part, Off, Rising, On, is_off, is_on, is_rising, level_of}

pub off_on : (p : Part) → T (is_off p) → T (is_on p) → ⊥
unfolding is_off is_on
off_on Off s t = t
off_on Rising s t = t
off_on (On l) s t = s

pub rising_on : (p : Part) → T (is_rising p) → T (is_on p) → ⊥
unfolding is_rising is_on
rising_on Off s t = t
rising_on Rising s t = t
rising_on (On l) s t = s

pub rising_off : (p : Part) → T (is_rising p) → T (not (is_off p))
unfolding is_rising is_off
rising_off Off s = s
rising_off Rising s = tt
rising_off (On l) s = tt

pub on_off : (p : Part) → T (is_on p) → T (not (is_off p))
unfolding is_on is_off
on_off Off s = s
on_off Rising s = tt
on_off (On l) s = tt

pub rising_level : (p : Part) → T (is_rising p) → level_of p ≡ 1
unfolding is_rising level_of
rising_level Off s = absurd s
rising_level Rising s = refl
rising_level (On l) s = absurd s

-- a part that has a level isn't off, and with more than 1 it's on
pub not_off : (p : Part) → 0 < level_of p → T (not (is_off p))
unfolding is_off level_of
not_off Off h = absurd (omega (arith, h))
not_off Rising h = tt
not_off (On l) h = tt

pub high_on : (p : Part) → 1 < level_of p → T (is_on p)
unfolding is_on level_of
high_on Off h = absurd (omega (arith, h))
high_on Rising h = absurd (omega (arith, h))
high_on (On l) h = tt

-- what is known of a part that is known
pub off_is : (p : Part) → p ≡ Off → T (is_off p)
unfolding is_off
off_is p e = rw e tt

pub rising_is : (p : Part) → p ≡ Rising → T (is_rising p)
unfolding is_rising
rising_is p e = rw e tt

pub on_is : (p : Part) (v : ℕ) → p ≡ On v → T (is_on p) × (level_of p ≡ v)
unfolding is_on level_of
on_is p v e = rw e (tt, refl)

pub level_off : level_of Off ≡ 0
unfolding level_of
level_off = refl

pub level_rising : level_of Rising ≡ 1
unfolding level_of
level_rising = refl

pub level_on : (v : ℕ) → level_of (On v) ≡ v
unfolding level_of
level_on v = refl
