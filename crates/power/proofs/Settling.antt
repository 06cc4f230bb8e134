-- Down to the least for what was granted: it always can be, a tick's askings are enough, and the board is lean then. Assumes nothing.
use Rattle.std.proofs.Common.{◌≡◌, ℕ, ◌≤◌, not, T, List, Ok, Err, Result, sym, ap, ◌∙◌, subst, arith, T_not}
use mathlib.Core.Path.{fun_ext}
use Rattle.power.specs.declared.types.Levels.{Levels}
use Rattle.power.specs.declared.state.Spent.{Spent}
use Rattle.power.specs.Board.{Board, Need, Wish, granted, can_be, lean}
use Rattle.power.specs.Sound.{Sound}
use Rattle.power.specs.Aim.{Fits, Covers}
use Rattle.power.specs.Walk.{Below}
use Rattle.power.specs.Least.{lv}
use Rattle.power.specs.Tables.{at}
use Rattle.power.specs.Found.{Found}
use Rattle.power.specs.Moves.{OnlyParts, CameDown, OrSpent}
use Rattle.power.proofs.Lowest.{cannot_be, least_is_least, least_wanted}
use Rattle.power.proofs.Aiming.{found_is, found_fits}
use Rattle.power.proofs.SoundLevels.{covers_granted, granted_can, lean_below}
use Rattle.power.proofs.Costs.{cost_is_bounded}

-- f says what is granted
module _ (b : Board) (f : ℕ → ℕ) (s : Sound b) (e : (y : ℕ) → f y ≡ granted b y) where
  pub never_unfit : T (not (can_be b f)) → ⊥
  never_unfit t = T_not (can_be b (granted b)) (subst (λ (g : ℕ → ℕ). T (not (can_be b g))) (fun_ext e) t) (granted_can cannot_be b s)

  module _ (to : Levels) (found : Found b f to) where
    granted_found : Found b (granted b) to
    granted_found = subst (λ (g : ℕ → ℕ). Found b g to) (fun_ext e) found

    pub settle_fits : Fits b (at to)
    settle_fits = found_fits b (granted b) to s.plan (granted_found)

    pub settle_covers : Covers b (at to)
    settle_covers = covers_granted b (at to) s (λ x hx. omega (arith, least_wanted b (granted b) x hx, granted_found.same x))

    same_least : (b' : Board) → OnlyParts b b' → ◌≡◌ {A = ℕ → ℕ} (at to) (lv b' (granted b'))
    same_least b' o =
        let B : ℕ → (ℕ → List Need) → (ℕ → Wish) → Board =
        λ n ns ws. record { parts = n; needs = ns; draws = b'.draws; gives = b'.gives; part = b'.part; tried = b'.tried; wish = ws; quiet = b'.quiet; left = b'.left } in
        let L : ℕ → (ℕ → List Need) → (ℕ → Wish) → ℕ → ℕ = λ n ns ws y. lv (B n ns ws) (granted (B n ns ws)) y in
        found_is b (granted b) to granted_found
        ∙ sym (ap (λ (n : ℕ). L n b'.needs b'.wish) o.parts
        ∙ ap (λ (ns : ℕ → List Need). L b.parts ns b'.wish) o.needs
        ∙ ap (λ (ws : ℕ → Wish). L b.parts b.needs ws) o.wish)

    -- 64 parts at 15 are 960, so not all of the 1,024 askings were needed
    settle_below : (r : Result Unit Spent) (n m : ℕ) (b' : Board) → b.parts ≤ 64 → n ≡ 1024 → CameDown (at to) n b m b' → OrSpent r m (Below b' (at to)) → Below b' (at to)
    settle_below (Ok u) n m b' few all c h = h
    settle_below (Err e) n m b' few all c h = absurd (omega (arith, h, c.lower, (cost_is_bounded b s few).1))

    pub settle_lean : (r : Result Unit Spent) (n m : ℕ) (b' : Board) → b.parts ≤ 64 → n ≡ 1024 → CameDown (at to) n b m b' → OrSpent r m (Below b' (at to)) → Sound b' → T (lean b')
    settle_lean r n m b' few all c h s' =
        lean_below least_is_least b' s' (subst (λ (l : ℕ → ℕ). Below b' l) (same_least b' c.only) (settle_below r n m b' few all c h))
