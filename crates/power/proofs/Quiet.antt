-- What a tick makes of a board: how long it has been quiet, that it stays lean, and that it is in time. Assumes nothing.
use Rattle.std.proofs.Common.{◌≡◌, ℕ, ◌+◌, ◌<◌, ◌≤◌, Bool, cond, not, ◌&&◌, ◌||◌, T, eqb, ltb, ◌≢◌, get_or, sym, refl, ap, subst, arith, lt→ltb, T_not}
use mathlib.Core.Path.{fun_ext}
use lib.Dec.{not_T}
use Rattle.std.proofs.lemmas.Bool.{cond_both}
use Rattle.std.proofs.lemmas.Bool.Decides.{nat_tests}
use Rattle.power.specs.Board.{Board, Wish, None', Asked, Granted, every, some', is_asked, want_of, most, granted, level_of, least_levels, lean, young, older, ticked, in_time}
use Rattle.power.proofs.Tests.{and_i, or_l, or_r, every_of, is_true, is_false, none_of, some_of}
use Rattle.power.proofs.Sheet.{eq→eqb}

-- HOW LONG IT HAS BEEN QUIET
quiet_if : Board → Bool → ℕ
quiet_if b waits = cond waits 0 (cond (ltb b.quiet 64) (b.quiet + 1) 64)

pub quiet_some : (b : Board) (u : ℕ) → u < 32 → T (is_asked (b.wish u)) → 0 ≡ (ticked b).quiet
unfolding quiet_if
quiet_some b u h t = ap (quiet_if b) (is_true _ (some_of 32 (λ (v : ℕ). is_asked (b.wish v)) u h t))

pub quiet_none : (b : Board) → ((u : ℕ) → u < 32 → T (not (is_asked (b.wish u)))) → cond (ltb b.quiet 64) (b.quiet + 1) 64 ≡ (ticked b).quiet
unfolding quiet_if
quiet_none b n = ap (quiet_if b) (is_false _ (T_not _ (none_of 32 (λ (v : ℕ). is_asked (b.wish v)) n)))

pub quiet_up : (b : Board) → (ticked b).quiet ≤ b.quiet + 1
quiet_up b =
    cond_both (some' 32 (λ (v : ℕ). is_asked (b.wish v))) 0 (cond (ltb b.quiet 64) (b.quiet + 1) 64) (λ (x : ℕ). x ≤ b.quiet + 1)
    (λ e. omega arith) (λ e. grind (arith, nat_tests))

-- it is quiet after a tick only if nobody waits
older_asks : (w : Wish) → T (not (is_asked w)) → T (not (is_asked (older w)))
unfolding is_asked older
older_asks None' t = t
older_asks (Asked x l g) t = t
older_asks (Granted x l) t = t

pub quiet_still : (b : Board) → 0 < (ticked b).quiet → (u : ℕ) → u < 32 → T (not (is_asked ((ticked b).wish u)))
quiet_still b h u lu = older_asks (b.wish u) (not_T (is_asked (b.wish u)) (λ t. omega (arith, quiet_some b u lu t)))

-- LEAN
want_older : (x : ℕ) (w : Wish) → want_of x (older w) ≡ want_of x w
unfolding want_of older
want_older x None' = refl
want_older x (Asked y l g) = refl
want_older x (Granted y l) = refl

pub granted_ticked : (b : Board) → ◌≡◌ {A = ℕ → ℕ} (granted (ticked b)) (granted b)
granted_ticked b =
    let all : (ℕ → ℕ → ℕ) → ℕ → ℕ = λ f x. most 32 (f x) in
    let f : ℕ → ℕ → ℕ = λ x u. want_of x (older (b.wish u)) in
    let g : ℕ → ℕ → ℕ = λ x u. want_of x (b.wish u) in
    let e : f ≡ g = fun_ext (λ x. fun_ext (λ u. want_older x (b.wish u))) in
    ap all e

pub lean_ticked : (b : Board) → T (lean b) → T (lean (ticked b))
lean_ticked b t =
    subst (λ (w : ℕ → ℕ). T (every b.parts (λ (x : ℕ). eqb (level_of (b.part x)) (get_or (least_levels b w) x 0)))) (sym (granted_ticked b)) t

-- a board that gets past 32 quiet ticks was there before, or was at 32
pub lean_soon : (b : Board) → b.quiet ≡ 0 → 32 < (ticked b).quiet → T (lean b)
lean_soon b e h = absurd (omega (arith, quiet_up b))

pub lean_late : (b : Board) → b.quiet ≢ 32 → (32 < b.quiet → T (lean b)) → 32 < (ticked b).quiet → T (lean b)
lean_late b ne l h = l (omega (arith, quiet_up b))

-- IN TIME
pub in_time_soon : (b : Board) → ((u : ℕ) → u < 32 → T (young (b.wish u))) → b.quiet < 64 → T (in_time b)
in_time_soon b y h =
    and_i (every 32 (λ (u : ℕ). young (b.wish u))) (ltb b.quiet 64 || (lean b && eqb b.left 1024)) (every_of 32 _ y)
    (or_l (ltb b.quiet 64) _ (lt→ltb b.quiet 64 h))

pub in_time_lean : (b : Board) → ((u : ℕ) → u < 32 → T (young (b.wish u))) → T (lean b) → b.left ≡ 1024 → T (in_time b)
in_time_lean b y t e =
    and_i (every 32 (λ (u : ℕ). young (b.wish u))) (ltb b.quiet 64 || (lean b && eqb b.left 1024)) (every_of 32 _ y)
    (or_r (ltb b.quiet 64) (lean b && eqb b.left 1024) (and_i (lean b) (eqb b.left 1024) t (eq→eqb b.left 1024 e)))
