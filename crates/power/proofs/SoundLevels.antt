-- What a sound board's own levels are: in range, serving what was granted, allowed. Assumes nothing.
use Rattle.std.proofs.Common.{◌≡◌, ℕ, ◌<◌, ◌≤◌, not, T, get_or, refl, inl, inr, le_antisymm, arith, le→leb}
use Rattle.std.proofs.lemmas.Bool.{cases_lt}
use Rattle.power.specs.Board.{Board, Part, Off, Rising, On, is_off, level_of, granted, least_levels, can_be, lean}
use Rattle.power.specs.Promise.{LeastIsLeast, CannotBe}
use Rattle.power.specs.Aim.{Covers}
use Rattle.power.specs.Sound.{Sound, SoundServes}
use Rattle.power.specs.Walk.{Below}
use Rattle.power.proofs.Tests.{every_of}
use Rattle.power.proofs.Sheet.{eq→eqb}
use Rattle.power.proofs.Plain.{serves_of, allowed_of}
use Rattle.power.proofs.Larger.{granted_at, granted_le}
use Rattle.power.proofs.OnePart.{not_off}

part_range : (p : Part) → ((l : ℕ) → p ≡ On l → (1 ≤ l) × (l ≤ 15)) → T (not (is_off p)) → (1 ≤ level_of p) × (level_of p ≤ 15)
unfolding is_off level_of
part_range Off r t = absurd t
part_range Rising r t = (omega arith, omega arith)
part_range (On l) r t = r l refl

pub level_range : (b : Board) → Sound b → (x : ℕ) → x < b.parts → T (not (is_off (b.part x))) → (1 ≤ level_of (b.part x)) × (level_of (b.part x) ≤ 15)
level_range b s x hx off = part_range (b.part x) (λ l e. s.range x l hx e) off

pub level_top : (b : Board) → Sound b → (x : ℕ) → x < b.parts → level_of (b.part x) ≤ 15
level_top b s x hx =
    elim (cases_lt 0 (level_of (b.part x))) [
      | inl h ↦ (level_range b s x hx (not_off (b.part x) h)).1
      | inr h ↦ omega arith
    ]

pub sound_serves : SoundServes
sound_serves b s =
    let f : ℕ → ℕ = λ x. level_of (b.part x) in (
      serves_of b (granted b) f (λ x hx. granted_le b x (f x) (λ u l hu e. (s.holds u x l hu e).3)) (λ x k hx p hk. (s.has x k hx (not_off (b.part x) p) hk).1),
      allowed_of b f (record { fifteen = level_top b s; under = λ x k hx p hk. (s.has x k hx (not_off (b.part x) p) hk).2; draws = s.draws }),
      every_of b.parts _ (λ x hx. le→leb (f x) 15 (level_top b s x hx)),
    )

-- levels as high as what's granted cover it
pub covers_granted : (b : Board) (t : ℕ → ℕ) → Sound b → ((x : ℕ) → x < b.parts → granted b x ≤ t x) → Covers b t
covers_granted b t s h u x l hu e = omega (arith, granted_at b u x l hu e, h x (s.holds u x l hu e).0)

-- With the promises on the least as hypotheses: what's granted can be, its least is nowhere above the board, and a board that isn't above it is lean.
pub granted_can : CannotBe → (b : Board) → Sound b → T (can_be b (granted b))
granted_can cannot b s = let v = sound_serves b s in cannot b (granted b) (λ x. level_of (b.part x)) s.plan v.0 v.1

pub granted_least : LeastIsLeast → (b : Board) → Sound b → (x : ℕ) → x < b.parts → get_or (least_levels b (granted b)) x 0 ≤ level_of (b.part x)
granted_least least b s x hx = let v = sound_serves b s in least b (granted b) (λ x. level_of (b.part x)) s.plan v.2 v.0 x hx

pub lean_below : LeastIsLeast → (b : Board) → Sound b → Below b (λ x. get_or (least_levels b (granted b)) x 0) → T (lean b)
lean_below least b s h =
    every_of b.parts _ (λ x hx.
    eq→eqb (level_of (b.part x)) (get_or (least_levels b (granted b)) x 0) (le_antisymm (h x hx) (granted_least least b s x hx)))
