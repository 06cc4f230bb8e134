-- Whatever the data sheet allows keeps a board sound. Assumes nothing.
use Rattle.std.proofs.Common.{◌≡◌, ℕ, ◌<◌, ◌≤◌, Bool, not, T, ◌≢◌, List, length, sym, ap, ◌∙◌, subst, subst₂, inl, inr, arith}
use Rattle.std.proofs.lemmas.Bool.{cases_eq}
use Rattle.power.specs.Board.{Board, Need, Part, Off, Rising, On, Granted, on_of, least_of, most_of, is_off, is_on, is_rising, level_of, put, drawn, with_parts, MayRaise, MayLower, MayLevel, Tries, good, not_yet, raised, lowered, levelled}
use Rattle.power.specs.Sound.{Has, Sound, StepsKeepSound}
use Rattle.power.proofs.Plans.{plan_at}
use Rattle.power.proofs.Puts.{put_same, put_other, put_each}
use Rattle.power.proofs.Draws.{draws_put}
use Rattle.power.proofs.SoundLevels.{level_top}
use Rattle.power.proofs.OnePart.{off_on, rising_on, rising_off, rising_level}
use Rattle.power.proofs.Sheet.{served_at, suits_at, unneeded_at, keeps_at}

-- the kth of the needs ns, at level l, is met by the part q
HasBy : List Need → ℕ → Part → ℕ → Type 0
HasBy ns k q l = T (is_on q) × (least_of k l ns ≤ level_of q) × (level_of q ≤ most_of k ns)

has_move : (ns : List Need) (k : ℕ) (q q' : Part) (l l' : ℕ) → q ≡ q' → l ≡ l' →
    T (is_on q) × (least_of k l ns ≤ level_of q) × (level_of q ≤ most_of k ns) →
    T (is_on q') × (least_of k l' ns ≤ level_of q') × (level_of q' ≤ most_of k ns)
unfolding HasBy
has_move ns k q q' l l' e d h = subst₂ (HasBy ns k) e d h

-- Only the part x changes, to p. It has what it needs, and is enough for those that need it and those that were granted it.
module _ (b : Board) (s : Sound b) (x : ℕ) (p : Part) (t : ℕ → ℕ)
    (own : T (not (is_off p)) → (k : ℕ) → k < length (b.needs x) → Has b.part (b.needs x) k (level_of p))
    (users : (y k : ℕ) → y < b.parts → T (not (is_off (b.part y))) → k < length (b.needs y) → on_of k (b.needs y) ≡ x →
    T (is_on p) × (least_of k (level_of (b.part y)) (b.needs y) ≤ level_of p) × (level_of p ≤ most_of k (b.needs y)))
    (within : (l : ℕ) → p ≡ On l → (1 ≤ l) × (l ≤ 15))
    (held : (u l : ℕ) → u < 32 → b.wish u ≡ Granted x l → T (is_on p) × (l ≤ level_of p))
    (given : drawn b (put x p b.part) ≤ b.gives) where
  has' : (y k : ℕ) → y < b.parts → T (not (is_off (put x p b.part y))) → k < length (b.needs y) → Has (put x p b.part) (b.needs y) k (level_of (put x p b.part y))
  has' y k hy off hk =
      let f = b.part in
      let ns = b.needs y in
      let o = on_of k ns in
      let g = plan_at b s.plan y hy k hk in
      elim (cases_eq y x) [
        | inl e ↦
            let P : ℕ → Type 0 = λ z. (j : ℕ) → j < length (b.needs z) → Has b.part (b.needs z) j (level_of p) in
            let off' : T (not (is_off p)) = subst (λ (q : Part). T (not (is_off q))) (put_same x p f y e) off in
            let h = subst P (sym e) (own off') k hk in
            let ne : o ≢ x = λ d. omega (arith, g.below) in
            has_move ns k (f o) (put x p f o) (level_of p) (level_of (put x p f y)) (sym (put_other x p f o ne)) (ap level_of (sym (put_same x p f y e))) h
        | inr ne ↦
            let ey = put_other x p f y ne in
            let off' : T (not (is_off (f y))) = subst (λ (q : Part). T (not (is_off q))) ey off in
            elim (cases_eq o x) [
              | inl e ↦ has_move ns k p (put x p f o) (level_of (f y)) (level_of (put x p f y)) (sym (put_same x p f o e)) (ap level_of (sym ey)) (users y k hy off' hk e)
              | inr d ↦ has_move ns k (f o) (put x p f o) (level_of (f y)) (level_of (put x p f y)) (sym (put_other x p f o d)) (ap level_of (sym ey)) (s.has y k hy off' hk)
            ]
      ]

  range' : (y l : ℕ) → y < b.parts → put x p b.part y ≡ On l → (1 ≤ l) × (l ≤ 15)
  range' y l hy =
      put_each (λ (z : ℕ) (q : Part). z < b.parts → q ≡ On l → (1 ≤ l) × (l ≤ 15)) x p b.part y (λ _ _ e. within l e) (λ _ h e. s.range y l h e) hy

  holds' : (u y l : ℕ) → u < 32 → b.wish u ≡ Granted y l → (y < b.parts) × (1 ≤ l) × T (is_on (put x p b.part y)) × (l ≤ level_of (put x p b.part y))
  holds' u y l hu e =
      let old = s.holds u y l hu e in
      let Q : ℕ → Part → Type 0 = λ z q. T (is_on q) × (l ≤ level_of q) in
      let r : T (is_on (put x p b.part y)) × (l ≤ level_of (put x p b.part y)) =
      put_each Q x p b.part y (λ d. held u l hu (e ∙ ap (λ (z : ℕ). Granted z l) d)) (λ _. (old.2, old.3)) in
      (old.0, old.1, r.0, r.1)

  sound_put : Sound (with_parts (put x p b.part) t b)
  sound_put = record { plan = s.plan; has = has'; range = range'; draws = given; asks = s.asks; holds = holds' }

-- nothing that isn't off needs a part that isn't on
unneeded : (b : Board) → Sound b → (x : ℕ) → (T (is_on (b.part x)) → ⊥) →
    (y k : ℕ) → y < b.parts → T (not (is_off (b.part y))) → k < length (b.needs y) → on_of k (b.needs y) ≡ x → ⊥
unneeded b s x isnt y k hy off hk e = isnt (subst (λ (z : ℕ). T (is_on (b.part z))) e (s.has y k hy off hk).0)

pub sound_raised : (b : Board) → Sound b → (x : ℕ) → MayRaise b x → Sound (raised x b)
unfolding is_off is_on level_of
sound_raised b s x m =
    let isnt : T (is_on (b.part x)) → ⊥ = off_on (b.part x) m.2 in
    sound_put b s x Rising (put x 0 b.tried)
    (λ _ k h. served_at b.part (b.needs x) 1 m.3 k h)
    (λ y k hy off hk e. absurd (unneeded b s x isnt y k hy off hk e))
    (λ l e. absurd (subst (λ (q : Part). T (is_on q)) (sym e) tt))
    (λ u l hu e. absurd (isnt (s.holds u x l hu e).2))
    m.4

-- what's drawn with a part no higher than it was
draws_lower : (b : Board) → Sound b → (x : ℕ) (p : Part) → level_of p ≤ level_of (b.part x) → drawn b (put x p b.part) ≤ b.gives
draws_lower b s x p h = draws_put b (λ z. level_of (b.part z)) s.plan (level_top b s) s.draws (λ z _. omega arith) x p h

sound_good : (b : Board) → Sound b → (x : ℕ) → x < b.parts → T (is_rising (b.part x)) → Sound (with_parts (put x (On 1) b.part) b.tried b)
unfolding is_off is_on level_of
sound_good b s x hx r =
    let isnt : T (is_on (b.part x)) → ⊥ = rising_on (b.part x) r in
    sound_put b s x (On 1) b.tried
    (λ _ k h. subst (λ (l : ℕ). Has b.part (b.needs x) k l) (rising_level (b.part x) r) (s.has x k hx (rising_off (b.part x) r) h))
    (λ y k hy off hk e. absurd (unneeded b s x isnt y k hy off hk e))
    (λ l e. let d : 1 ≡ l = ap level_of e in (omega arith, omega arith))
    (λ u l hu e. absurd (isnt (s.holds u x l hu e).2))
    (draws_lower b s x (On 1) (omega (arith, rising_level (b.part x) r)))

pub sound_tries : (b : Board) → Sound b → (x : ℕ) (r : Bool) (b' : Board) → x < b.parts → Tries b x r b' → Sound b'
sound_tries b s x r b' hx (good t) = sound_good b s x hx t
sound_tries b s x r b' hx (not_yet t) = record { plan = s.plan; has = s.has; range = s.range; draws = s.draws; asks = s.asks; holds = s.holds }

pub sound_lowered : (b : Board) → Sound b → (x : ℕ) → MayLower b x → Sound (lowered x b)
unfolding is_off is_on level_of
sound_lowered b s x m =
    sound_put b s x Off (put x 0 b.tried)
    (λ isnt. absurd isnt)
    (λ y k hy off hk e. absurd (unneeded_at b x m.3 y k hy off hk e))
    (λ l e. absurd (subst (λ (q : Part). T (is_on q)) (sym e) tt))
    (λ u l hu e. absurd (omega (arith, keeps_at b x 0 m.4 u l hu e, (s.holds u x l hu e).1)))
    (draws_lower b s x Off (omega arith))

pub sound_levelled : (b : Board) → Sound b → (x v : ℕ) → MayLevel b x v → Sound (levelled x v b)
unfolding is_off is_on level_of
sound_levelled b s x v m =
    sound_put b s x (On v) b.tried
    (λ _ k h. served_at b.part (b.needs x) v m.6 k h)
    (λ y k hy off hk e. let r = suits_at b x v m.7 y k hy off hk e in (tt, r.0, r.1))
    (λ l e. let d : v ≡ l = ap level_of e in (omega (arith, m.3), omega (arith, m.4)))
    (λ u l hu e. (tt, keeps_at b x v m.8 u l hu e))
    m.9

pub steps_keep_sound : StepsKeepSound
steps_keep_sound b s = (sound_raised b s, sound_tries b s, sound_lowered b s, sound_levelled b s)
