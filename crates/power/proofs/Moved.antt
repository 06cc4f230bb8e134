-- What walks over the board leave, put together step by step. Assumes nothing.
use Rattle.std.proofs.Common.{◌≡◌, ℕ, ◌+◌, ◌-◌, ◌<◌, ◌≤◌, Bool, true, false, cond, ltb, sym, refl, ap, ◌∙◌, subst, arith}
use Rattle.power.specs.Board.{Board, Part, Off, Rising, On, level_of, put, with_parts, raised, lowered, levelled, MayLevel, Tries, good, not_yet}
use Rattle.power.specs.Walk.{Under, Down, Up}
use Rattle.power.specs.Cost.{costs}
use Rattle.power.specs.Moves.{OnlyParts, CameDown, CameNearer}
use Rattle.power.proofs.OnePart.{off_is, on_is, level_off, level_on}
use Rattle.power.proofs.Costs.{each_asking_pays, height_put}
use Rattle.power.proofs.Sweeps.{down_steps, up_steps}

-- ONLY PARTS
only_then : (a b c : Board) → OnlyParts a b → OnlyParts b c → OnlyParts a c
only_then a b c p q = record { parts = q.parts ∙ p.parts; needs = q.needs ∙ p.needs; draws = q.draws ∙ p.draws; gives = q.gives ∙ p.gives; wish = q.wish ∙ p.wish; quiet = q.quiet ∙ p.quiet }

only_step : (b : Board) (p : ℕ → Part) (t : ℕ → ℕ) → OnlyParts b (with_parts p t b)
only_step b p t = record { parts = refl; needs = refl; draws = refl; gives = refl; wish = refl; quiet = refl }

pub still_there : {b b' : Board} (x : ℕ) → OnlyParts b b' → x < b.parts → x < b'.parts
still_there x o h = omega (arith, o.parts)

-- DOWN
pub came_down_then : (t : ℕ → ℕ) (n : ℕ) (a : Board) (m : ℕ) (b : Board) (k : ℕ) (c : Board) → CameDown t n a m b → CameDown t m b k c → CameDown t n a k c
came_down_then t n a m b k c p q =
    record {
      only = only_then a b c p.only q.only;
      lower = omega (arith, p.lower, q.lower);
      nearer = λ l u. omega (arith, p.nearer l u, q.nearer l (λ z h. u z (omega (arith, p.only.parts))));
    }

-- x gets lower, and nearer to any goal below the ceiling, by one asking
came_down_put :
    (t : ℕ → ℕ) (n : ℕ) (b : Board) (n' x : ℕ) (q : Part) (f : ℕ → ℕ) → n' + 1 ≡ n → x < b.parts → level_of q < level_of (b.part x) →
    ((l : ℕ → ℕ) → Under b l t → costs (with_parts (put x q b.part) f b) l < costs b l) → CameDown t n b n' (with_parts (put x q b.part) f b)
came_down_put t n b n' x q f e hx h c =
    record {
      only = only_step b (put x q b.part) f;
      lower = omega (arith, height_put b x q f hx h);
      nearer = λ l u. omega (arith, c l u);
    }

pub may_level_down :
    (b : Board) (t : ℕ → ℕ) (x v : ℕ) → Down b t (x + 1) → x < b.parts → 0 < b.left → t x < level_of (b.part x) → 1 ≤ t x → v ≡ level_of (b.part x) - 1 → MayLevel b x v
may_level_down b t x v d hx some high z e = rw e ((down_steps b t x hx d).1 some high z).0

-- A way down to t, with n askings from the board a, now at b with m, goes on at x.
module _ (t : ℕ → ℕ) (n : ℕ) (a : Board) (m : ℕ) (b : Board) (x : ℕ)
    (came : CameDown t n a m b) (d : Down b t (x + 1)) (hx : x < b.parts) (some : 0 < b.left) (high : t x < level_of (b.part x))
    (m' : ℕ) (spent : m' + 1 ≡ m) (b' : Board) where
  pub lowers_on : t x ≡ 0 → b' ≡ lowered x b → CameDown t n a m' b' × Down b' t (x + 1)
  lowers_on z e =
      subst (λ (c : Board). CameDown t n a m' c × Down c t (x + 1)) (sym e) (
        came_down_then t n a m b m' (lowered x b) came
            (came_down_put t m b m' x Off (put x 0 b.tried) spent hx (omega (arith, level_off)) (λ l u. (each_asking_pays b l x hx).2 (omega arith) (omega (arith, u x hx)))),
        ((down_steps b t x hx d).0 some high z).1,
      )

  pub levels_down : (v : ℕ) → v ≡ level_of (b.part x) - 1 → 1 ≤ t x → b' ≡ levelled x v b → CameDown t n a m' b' × Down b' t (x + 1)
  levels_down v q z e =
      let w = level_of (b.part x) - 1 in
      let s = (down_steps b t x hx d).1 some high z in
      subst (λ (c : Board). CameDown t n a m' c × Down c t (x + 1)) (sym (e ∙ ap (λ i. levelled x i b) q)) (
        came_down_then t n a m b m' (levelled x w b) came
            (came_down_put t m b m' x (On w) b.tried spent hx (omega (arith, level_on w)) (λ l u. (each_asking_pays b l x hx).3 s.0.2 (omega (arith, u x hx)))),
        s.1,
      )

-- UP
pub came_nearer_then : (l : ℕ → ℕ) (n : ℕ) (a : Board) (m : ℕ) (b : Board) (k : ℕ) (c : Board) → CameNearer l n a m b → CameNearer l m b k c → CameNearer l n a k c
came_nearer_then l n a m b k c p q = record { only = only_then a b c p.only q.only; nearer = omega (arith, p.nearer, q.nearer) }

came_nearer_step : (l : ℕ → ℕ) (n : ℕ) (b : Board) (n' : ℕ) (p : ℕ → Part) (f : ℕ → ℕ) → n' + 1 ≡ n → costs (with_parts p f b) l < costs b l → CameNearer l n b n' (with_parts p f b)
came_nearer_step l n b n' p f e h = record { only = only_step b p f; nearer = omega arith }

pub may_level_up :
    (b : Board) (t l : ℕ → ℕ) (x v : ℕ) → Up b t l x → x < b.parts → 0 < b.left → b.part x ≡ On v → v < l x → MayLevel b x (v + 1)
may_level_up b t l x v u hx some on h =
    let k = on_is (b.part x) v on in
    subst (λ (w : ℕ). MayLevel b x (w + 1)) k.1 ((up_steps b t l x hx u).2 some k.0 (omega (arith, k.1))).0

-- A way up to l below t, with n askings from the board a, now at b with m, goes on at x.
module _ (t l : ℕ → ℕ) (n : ℕ) (a : Board) (m : ℕ) (b : Board) (x : ℕ)
    (came : CameNearer l n a m b) (u : Up b t l x) (hx : x < b.parts) (wanted : 0 < l x)
    (m' : ℕ) (spent : m' + 1 ≡ m) (b' : Board) where
  pub raises_on : 0 < b.left → b.part x ≡ Off → b' ≡ raised x b → CameNearer l n a m' b' × Up b' t l x
  raises_on some off e =
      subst (λ (c : Board). CameNearer l n a m' c × Up c t l x) (sym e) (
        came_nearer_then l n a m b m' (raised x b) came
            (came_nearer_step l m b m' (put x Rising b.part) (put x 0 b.tried) spent ((each_asking_pays b l x hx).0 (off_is (b.part x) off) wanted)),
        ((up_steps b t l x hx u).0 some (off_is (b.part x) off) wanted).1,
      )

  pub levels_up : 0 < b.left → (v : ℕ) → b.part x ≡ On v → v < l x → b' ≡ levelled x (v + 1) b → CameNearer l n a m' b' × Up b' t l x
  levels_up some v on h e =
      let k = on_is (b.part x) v on in
      let w = level_of (b.part x) + 1 in
      let low : level_of (b.part x) < l x = omega (arith, k.1) in
      subst (λ (c : Board). CameNearer l n a m' c × Up c t l x) (sym (e ∙ ap (λ i. levelled x (i + 1) b) (sym k.1))) (
        came_nearer_then l n a m b m' (levelled x w b) came
            (came_nearer_step l m b m' (put x (On w) b.part) b.tried spent ((each_asking_pays b l x hx).4 k.0 low)),
        ((up_steps b t l x hx u).2 some k.0 low).1,
      )

  tried_nearer : (r : Bool) (c : Board) → b.tried x < 64 → Tries b x r c → CameNearer l m b m' c
  tried_nearer r c h (good i) =
      came_nearer_step l m b m' (put x (On 1) b.part) b.tried spent ((each_asking_pays b l x hx).1 true _ h wanted (good i))
  tried_nearer r c h (not_yet i) =
      came_nearer_step l m b m' b.part (put x (cond (ltb (b.tried x) 64) (b.tried x + 1) 64) b.tried) spent ((each_asking_pays b l x hx).1 false _ h wanted (not_yet i))

  pub tries_on : (r : Bool) → b.tried x < 64 → Tries b x r b' → CameNearer l n a m' b' × Up b' t l x
  tries_on r h i = (came_nearer_then l n a m b m' b' came (tried_nearer r b' h i), (up_steps b t l x hx u).1 r b' i)
