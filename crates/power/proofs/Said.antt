-- What the keeper's wishes say of the board's: after a call, a telling, a tick; and who waits. Assumes nothing.
use Rattle.std.proofs.Common.{◌≡◌, ℕ, ◌+◌, ◌<◌, true, false, not, T, ◌≢◌, length, set, replicate, sym, refl, ap, subst, arith}
use lib.Dec.{not_T}
use Rattle.power.specs.Board.{Board, Wish, is_asked, is_none, put, told_of, older, ticked, AtStart}
use Rattle.power.specs.Mirrors.{Says, SaysAll, Waits, wanted_by, once_told}
use Rattle.power.specs.Rota.{NobodyWaits}
use Rattle.power.specs.declared.Answer.{Answer}
use Rattle.power.specs.declared.Answer.TheVariants.{Done, No}
use Rattle.power.specs.declared.state.Wanted.{Wanted}
use Rattle.power.specs.declared.state.Wanted.TheVariants as wanted
use Rattle.power.specs.declared.state.Wishes.{Wishes}
use Rattle.power.proofs.Puts.{put_here, put_other, set_each}
use Rattle.power.proofs.Shown.{get_d_same}

-- ONE WISH CHANGES
pub says_put : (ws ws' : Wishes) (f : ℕ → Wish) (u : ℕ) (w : Wanted Unit) (y : Wish) → u < 32 → ws'.wanted ≡ set ws.wanted u w →
    ((v : ℕ) → Says (wanted_by ws v) (f v)) → Says w y → (v : ℕ) → Says (wanted_by ws' v) (put u y f v)
says_put ws ws' f u w y lt e all s v =
    let long : u < length ws.wanted = omega (arith, ws.long) in
    rw e (set_each Says wanted.Nothing ws.wanted f (put u y f) u w long all (rw (put_here u y f) s) (put_other u y f) v)

pub says_told : (w : Wanted Unit) (v : Wish) (a : Answer) → Says w v → Says (once_told w a) (told_of v a)
unfolding told_of
says_told wanted.Nothing v a s = ap (λ z. told_of z a) s
says_told (wanted.Asked r t) v Done s = ap (λ z. told_of z Done) s.1
says_told (wanted.Asked r t) v (No k) s = ap (λ z. told_of z (No k)) s.1
says_told (wanted.Granted r) v a s = ap (λ z. told_of z a) s

-- A TICK, AND THE START
says_older : (w : Wanted Unit) (v : Wish) → Says w v → Says w (older v)
unfolding older
says_older wanted.Nothing v s = ap older s
says_older (wanted.Asked r t) v s = (s.0 + 1, ap older s.1)
says_older (wanted.Granted r) v s = ap older s

pub says_ticked : (ws : Wishes) (b : Board) → SaysAll ws b → SaysAll ws (ticked b)
says_ticked ws b s u = says_older (wanted_by ws u) (b.wish u) (s u)

pub says_start : (ws : Wishes) (b : Board) → ws.wanted ≡ replicate 32 wanted.Nothing → AtStart b → SaysAll ws b
says_start ws b e s u = rw (e, get_d_same {A = Wanted Unit} 32 wanted.Nothing u) (s.3 u)

-- WHAT IS SAID OF A USER
pub nothing_said : (w : Wanted Unit) (v : Wish) → Says w v → w ≡ wanted.Nothing → is_none v ≡ true
unfolding is_none
nothing_said w v s e = ap is_none (subst (λ (z : Wanted Unit). Says z v) e s)

pub something_said : (w : Wanted Unit) (v : Wish) → Says w v → w ≢ wanted.Nothing → is_none v ≡ false
unfolding is_none
something_said wanted.Nothing v s h = absurd (h refl)
something_said (wanted.Asked r t) v s h = ap is_none s.1
something_said (wanted.Granted r) v s h = ap is_none s

waits_said : (w : Wanted Unit) (v : Wish) → Says w v → Waits w → T (is_asked v)
unfolding is_asked
waits_said wanted.Nothing v s t = absurd t
waits_said (wanted.Asked r a) v s t = subst (λ (q : Wish). T (is_asked q)) (sym s.1) tt
waits_said (wanted.Granted r) v s t = absurd t

said_waits : (w : Wanted Unit) (v : Wish) → Says w v → T (is_asked v) → Waits w
unfolding is_asked
said_waits wanted.Nothing v s t = subst (λ (q : Wish). T (is_asked q)) s t
said_waits (wanted.Asked r a) v s t = tt
said_waits (wanted.Granted r) v s t = subst (λ (q : Wish). T (is_asked q)) s t

pub waits_asked : (ws : Wishes) (b : Board) (u : ℕ) → SaysAll ws b → Waits (wanted_by ws u) → T (is_asked (b.wish u))
waits_asked ws b u s = waits_said (wanted_by ws u) (b.wish u) (s u)

pub asked_waits : (ws : Wishes) (b : Board) (u : ℕ) → SaysAll ws b → T (is_asked (b.wish u)) → Waits (wanted_by ws u)
asked_waits ws b u s = said_waits (wanted_by ws u) (b.wish u) (s u)

pub nobody_asked : (ws : Wishes) (b : Board) → SaysAll ws b → NobodyWaits ws 0 32 → (u : ℕ) → u < 32 → T (not (is_asked (b.wish u)))
nobody_asked ws b s n u h = not_T (is_asked (b.wish u)) (λ t. n u (omega arith) h (asked_waits ws b u s t))
