-- The least that code found, as levels to aim at. Assumes nothing.
use Rattle.std.proofs.Common.{◌≡◌, ℕ, ◌<◌, ◌≤◌, T, sym, subst, arith}
use mathlib.Core.Path.{fun_ext}
use Rattle.power.specs.declared.types.Levels.{Levels}
use Rattle.power.specs.declared.types.Aims.{Aims}
use Rattle.power.specs.Board.{Board, Granted, and_also, granted, good_plan}
use Rattle.power.specs.Aim.{Fits, Covers, Serves}
use Rattle.power.specs.Least.{lv}
use Rattle.power.specs.Tables.{at}
use Rattle.power.specs.Found.{Found, Aimed}
use Rattle.power.proofs.Larger.{granted_at, and_also_more, and_also_alone}
use Rattle.power.proofs.Plain.{Wanted, fits_serves}
use Rattle.power.proofs.Lowest.{least_wanted, least_more, fits_least}

-- as one function
pub found_is : (b : Board) (want : ℕ → ℕ) (ls : Levels) → Found b want ls → ◌≡◌ {A = ℕ → ℕ} (at ls) (lv b want)
found_is b want ls f = fun_ext f.same

pub found_fits : (b : Board) (want : ℕ → ℕ) (ls : Levels) → T (good_plan b) → Found b want ls → Fits b (at ls)
found_fits b want ls g f = subst (λ (t : ℕ → ℕ). Fits b t) (sym (found_is b want ls f)) (fits_least b want g f.can)

pub found_wanted : (b : Board) (want : ℕ → ℕ) (ls : Levels) → Found b want ls → Wanted b want (at ls)
found_wanted b want ls f x h = omega (arith, least_wanted b want x h, f.same x)

pub found_more : (b : Board) (want more : ℕ → ℕ) (ls ms : Levels) → T (good_plan b) → Wanted b want more → Found b want ls → Found b more ms → (x : ℕ) → at ls x ≤ at ms x
found_more b want more ls ms g w f m x = omega (arith, f.same x, m.same x, least_more b want more g w m.can x)

-- the ceiling leaves everybody what was granted, if that's of parts of the board
pub aimed_covers : (b : Board) (x l : ℕ) (a : Aims) → ((u y m : ℕ) → u < 32 → b.wish u ≡ Granted y m → y < b.parts) → Aimed b (granted b) x l a → Covers b (at a.ceiling)
aimed_covers b x l a p t u y m h e =
    omega (arith, granted_at b u y m h e, and_also_more (granted b) x l y, found_wanted b (and_also (granted b) x l) a.ceiling t.ceiling y (p u y m h e))

-- the goal is under the ceiling
pub aimed_under : (b : Board) (g : ℕ → ℕ) (x l : ℕ) (a : Aims) → T (good_plan b) → Aimed b g x l a → (y : ℕ) → at a.goal y ≤ at a.ceiling y
aimed_under b g x l a p t y =
    found_more b (and_also (λ (z : ℕ). 0) x l) (and_also g x l) a.goal a.ceiling p (λ z h. and_also_alone g x l z) t.goal t.ceiling y

-- and serves
pub goal_serves : (b : Board) (g : ℕ → ℕ) (x l : ℕ) (a : Aims) → T (good_plan b) → Aimed b g x l a → Serves b (at a.goal)
goal_serves b g x l a p t = fits_serves b (at a.goal) (found_fits b (and_also (λ (z : ℕ). 0) x l) a.goal p t.goal)
