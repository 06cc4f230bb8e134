-- How long those who wait have waited: what calls, tellings and ticks make of it. Assumes nothing.
use Rattle.std.proofs.Common.{◌≡◌, ℕ, ◌+◌, ◌*◌, ◌<◌, ◌≤◌, not, T, ◌≢◌, sym, refl, ap, ◌∙◌, subst, inl, inr, arith, T_not}
use Rattle.std.proofs.lemmas.Bool.{cases_eq, lt-ltb}
use Rattle.std.proofs.lemmas.Bool.Decides.{nat_tests}
use Rattle.power.specs.Board.{Board, Wish, None', Asked, Granted, is_asked, is_none, put, with_wish, young, older, ticked, told, told_of, AtStart}
use Rattle.power.specs.Cost.{costs}
use Rattle.power.specs.Rota.{next_of, moved_on, dist}
use Rattle.power.specs.Ages.{goal, phi, turn_cost, Aged}
use Rattle.power.specs.declared.Answer.{Answer}
use Rattle.power.specs.declared.Answer.TheVariants.{Done, No}
use Rattle.power.proofs.Puts.{put_same, put_other}
use Rattle.power.proofs.OneWish.{granted_asked, none_asked, older_asked}

-- ROUND AND ROUND
pub dist_most : (t u : ℕ) → t < 32 → u < 32 → dist t u ≤ 31
dist_most t u h k = grind (arith, nat_tests)

pub dist_next : (t u : ℕ) → t < 32 → u < 32 → u ≢ t → dist (next_of t) u + 1 ≡ dist t u
dist_next t u h k ne = grind (arith, nat_tests)

pub dist_move : (t h u : ℕ) → t < 32 → h < 32 → u < 32 → dist t h ≤ dist t u → dist h u + dist t h ≡ dist t u
dist_move t h u a b c le = grind (arith, nat_tests)

dist_some : (t h : ℕ) → t < 32 → h < 32 → h ≢ t → 1 ≤ dist t h
dist_some t h a b ne = grind (arith, nat_tests)

pub moved_self : (u t : ℕ) → t ≡ u → moved_on u t ≡ next_of t
moved_self u t e = grind (arith, nat_tests)

pub moved_other : (u t : ℕ) → t ≢ u → moved_on u t ≡ t
moved_other u t ne = grind (arith, nat_tests)

-- WHAT THE TURN COSTS
phi_top : (b : Board) (l : ℕ → ℕ) → phi b l ≤ 5056
phi_top b l = grind (arith, nat_tests)

phi_is : (b : Board) (l : ℕ → ℕ) → costs b l ≤ 5056 → phi b l ≡ costs b l
phi_is b l h = grind (arith, nat_tests)

pub turn_top : (b : Board) (w : Wish) → turn_cost b w ≤ 5056
unfolding turn_cost
turn_top b None' = omega arith
turn_top b (Asked x l g) = phi_top b (goal b x l)
turn_top b (Granted x l) = omega arith

turn_none : (b : Board) (w : Wish) → T (is_none w) → turn_cost b w ≡ 5056
unfolding turn_cost is_none
turn_none b None' t = refl
turn_none b (Asked x l g) t = absurd t
turn_none b (Granted x l) t = absurd t

turn_asked : (b : Board) (w : Wish) (x l g : ℕ) → w ≡ Asked x l g → turn_cost b w ≡ phi b (goal b x l)
unfolding turn_cost
turn_asked b w x l g e = ap (turn_cost b) e

turn_ticked : (b : Board) (w : Wish) (x l g : ℕ) → w ≡ Asked x l g → turn_cost (ticked b) (older w) ≡ phi b (goal b x l)
unfolding turn_cost older
turn_ticked b w x l g e = ap (λ v. turn_cost (ticked b) (older v)) e

-- it doesn't hang on what others want
turn_wish : (b : Board) (u : ℕ) (y w : Wish) → turn_cost (with_wish u y b) w ≡ turn_cost b w
unfolding turn_cost
turn_wish b u y None' = refl
turn_wish b u y (Asked x l g) = refl
turn_wish b u y (Granted x l) = refl

-- NOBODY HAS WAITED TOO LONG
pub aged_young : (t : ℕ) (b : Board) → Aged t b → (u : ℕ) → u < 32 → T (young (b.wish u))
unfolding young
aged_young t b a u h = go (b.wish u) refl
  where
    go : (w : Wish) → b.wish u ≡ w → T (young w)
    go None' e = tt
    go (Asked x l g) e = let q : g < 256 = omega (arith, a u x l g h e) in rw (lt-ltb g 256 q) tt
    go (Granted x l) e = tt

pub aged_start : (t : ℕ) (b : Board) → AtStart b → Aged t b
aged_start t b s u x l g lu e = absurd (none_asked x l g (sym (s.3 u) ∙ e))

pub is_asked_lem : (w : Wish) (x l g : ℕ) → w ≡ Asked x l g → T (is_asked w)
unfolding is_asked
is_asked_lem w x l g e = rw e tt

-- THE TURN MOVES to the first who waits
pub aged_moved :
    (t h : ℕ) (b : Board) → t < 32 → h < 32 → ((u : ℕ) → u < 32 → T (is_asked (b.wish u)) → dist t h ≤ dist t u) → Aged t b → Aged h b
aged_moved t h b lt lh first a u x l g lu e =
    elim (cases_eq h t) [
      | inl q ↦ subst (λ (s : ℕ). 1024 * g + turn_cost b (b.wish s) + 6080 * dist s u ≤ 193536) (sym q) (a u x l g lu e)
      | inr ne ↦
          omega (arith, a u x l g lu e, turn_top b (b.wish h), dist_some t h lt lh ne, dist_move t h u lt lh lu (first u lu (is_asked_lem (b.wish u) x l g e)))
    ]

-- CALLS
pub aged_want : (t u x l : ℕ) (b : Board) → t < 32 → u < 32 → T (is_none (b.wish u)) → Aged t b → Aged t (with_wish u (Asked x l 0) b)
aged_want t u x l b lt lu none a v y m g lv e =
    let w = Asked x l 0 in
    let b' = with_wish u w b in
    let less : turn_cost b' (put u w b.wish t) ≤ turn_cost b (b.wish t) =
    elim (cases_eq t u) [
      | inl q ↦ omega (arith, turn_top b' (put u w b.wish t), turn_none b (b.wish t) (subst (λ (s : ℕ). T (is_none (b.wish s))) (sym q) none))
      | inr ne ↦ omega (arith, ap (turn_cost b') (put_other u w b.wish t ne), turn_wish b u w (b.wish t))
    ] in
    elim (cases_eq v u) [
      | inl q ↦
          let s : w ≡ Asked y m g = sym (put_same u w b.wish v q) ∙ e in
          let z : 0 ≡ g = cc in
          omega (arith, dist_most t v lt lv, less, turn_top b (b.wish t))
      | inr ne ↦ omega (arith, less, a v y m g lv (sym (put_other u w b.wish v ne) ∙ e))
    ]

pub aged_give : (t u : ℕ) (b : Board) → t < 32 → u < 32 → Aged t b → Aged (moved_on u t) (with_wish u None' b)
aged_give t u b lt lu a v y m g lv e =
    let b' = with_wish u None' b in
    let ne : v ≢ u = λ q. none_asked y m g (sym (put_same u None' b.wish v q) ∙ e) in
    let old = a v y m g lv (sym (put_other u None' b.wish v ne) ∙ e) in
    elim (cases_eq t u) [
      | inl q ↦
          subst (λ (s : ℕ). 1024 * g + turn_cost b' (put u None' b.wish s) + 6080 * dist s v ≤ 193536) (sym (moved_self u t q))
          (omega (arith, old, dist_next t v lt lv (λ (z : v ≡ t). ne (z ∙ q)), turn_top b' (put u None' b.wish (next_of t))))
      | inr nt ↦
          subst (λ (s : ℕ). 1024 * g + turn_cost b' (put u None' b.wish s) + 6080 * dist s v ≤ 193536) (sym (moved_other u t nt))
          (omega (arith, old, ap (turn_cost b') (put_other u None' b.wish t nt), turn_wish b u None' (b.wish t)))
    ]

-- TICKS. b is the board when the tick began, b' when its work was done.
told_gone : (w : Wish) (x l g : ℕ) (a : Answer) (y m c : ℕ) → w ≡ Asked x l g → told_of w a ≡ Asked y m c → ⊥
unfolding told_of
told_gone w x l g Done y m c e d = granted_asked x l y m c (sym (ap (λ v. told_of v Done) e) ∙ d)
told_gone w x l g (No k) y m c e d = none_asked y m c (sym (ap (λ v. told_of v (No k)) e) ∙ d)

-- the head is told
pub aged_told :
    (h : ℕ) (a : Answer) (b b' : Board) (x l g : ℕ) → h < 32 → b'.wish ≡ b.wish → b.wish h ≡ Asked x l g → Aged h b → Aged (next_of h) (ticked (told h a b'))
aged_told h a b b' x l g lh same w k v y m c lv e =
    let tw = told_of (b'.wish h) a in
    let o = older_asked (put h tw b'.wish v) y m c e in
    let ne : v ≢ h = λ q. told_gone (b'.wish h) x l g a y m o.0 (ap (λ f. f h) same ∙ w) (sym (put_same h tw b'.wish v q) ∙ o.1) in
    let old = k v y m o.0 lv (sym (ap (λ f. f v) same) ∙ sym (put_other h tw b'.wish v ne) ∙ o.1) in
    omega (arith, old, o.2, dist_next h v lh lv ne, turn_top (ticked (told h a b')) ((ticked (told h a b')).wish (next_of h)))

-- nobody is told: all askings went into the head's goal
pub aged_spent :
    (h : ℕ) (b b' : Board) (x l g : ℕ) → b'.wish ≡ b.wish → b.wish h ≡ Asked x l g → costs b (goal b x l) ≤ 5056 → costs b' (goal b' x l) + 1024 ≤ costs b (goal b x l) →
    Aged h b → Aged h (ticked b')
aged_spent h b b' x l g same w top spent k v y m c lv e =
    let o = older_asked (b'.wish v) y m c e in
    let old = k v y m o.0 lv (sym (ap (λ f. f v) same) ∙ o.1) in
    let now = turn_ticked b' (b'.wish h) x l g (ap (λ f. f h) same ∙ w) in
    omega (arith, old, o.2, now, turn_asked b (b.wish h) x l g w, phi_is b (goal b x l) top, phi_is b' (goal b' x l) (omega arith))

-- nobody waits
pub aged_still : (t : ℕ) (b : Board) → ((u : ℕ) → u < 32 → T (not (is_asked (b.wish u)))) → Aged t (ticked b)
aged_still t b n v y m c lv e =
    let o = older_asked (b.wish v) y m c e in
    absurd (T_not (is_asked (b.wish v)) (n v lv) (is_asked_lem (b.wish v) y m o.0 o.1))
