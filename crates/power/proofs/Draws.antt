-- What parts draw: less at lower levels, nothing when all is off, and with one part put anew. Assumes nothing.
use Rattle.std.proofs.Common.{◌≡◌, ℕ, ◌<◌, ◌≤◌, T, sym, ap, ◌∙◌, subst, arith}
use Rattle.power.specs.Board.{Board, Part, Off, level_of, put, draw_at, drawn, drawn_at, good_plan}
use Rattle.power.proofs.Totals.{total_le, total_more}
use Rattle.power.proofs.Plans.{plan_draws}
use Rattle.power.proofs.Puts.{put_each}

-- f is nowhere above g, and g nowhere above 15
pub draws_less : (b : Board) (f g : ℕ → ℕ) → T (good_plan b) → ((x : ℕ) → x < b.parts → f x ≤ g x) → ((x : ℕ) → x < b.parts → g x ≤ 15) → drawn_at b f ≤ drawn_at b g
draws_less b f g p h top =
    total_more b.parts (λ x. draw_at b x (f x)) (λ x. draw_at b x (g x))
    (λ x hx. (plan_draws b p x hx).climbs (f x) (g x) (h x hx) (omega (arith, top x hx)))

pub draws_nothing : (b : Board) → T (good_plan b) → ((x : ℕ) → b.part x ≡ Off) → drawn b b.part ≡ 0
unfolding level_of
draws_nothing b p off =
    let none : (x : ℕ) → x < b.parts → draw_at b x (level_of (b.part x)) ≤ 0 =
    λ x hx. omega (arith, ap (λ (q : Part). draw_at b x (level_of q)) (off x) ∙ (plan_draws b p x hx).zeroth) in
    omega (arith, total_le b.parts 0 (λ x. draw_at b x (level_of (b.part x))) none)

-- The part y is put anew, all parts being below levels t that draw no more than is given.
pub draws_put : (b : Board) (t : ℕ → ℕ) → T (good_plan b) → ((z : ℕ) → z < b.parts → t z ≤ 15) → drawn_at b t ≤ b.gives →
    ((z : ℕ) → z < b.parts → level_of (b.part z) ≤ t z) → (y : ℕ) (p : Part) → level_of p ≤ t y → drawn b (put y p b.part) ≤ b.gives
draws_put b t g top given below y p h =
    let under : (z : ℕ) → z < b.parts → level_of (put y p b.part z) ≤ t z =
    λ z hz. put_each (λ (z : ℕ) (q : Part). level_of q ≤ t z) y p b.part z (λ e. subst (λ (w : ℕ). level_of p ≤ t w) (sym e) h) (λ _. below z hz) in
    omega (arith, draws_less b (λ z. level_of (put y p b.part z)) t g under top)
