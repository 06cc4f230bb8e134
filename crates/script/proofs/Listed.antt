-- The needs and draws of a part, word by word.
use Rattle.std.proofs.Common.{◌≡◌, ℕ, suc, ◌<◌, ◌≤◌, ◌^◌, ◌-◌, Bool, true, false, cond, leb, ◌&&◌, List, [], ◌∷◌, ◌++◌, length, get_or, Some, None, codes, Option, sym, refl, ap, ◌∙◌, ⊎_elim, append_assoc, subst, arith}
use Rattle.std.proofs.Math.Bool.{and-true}
use Rattle.std.proofs.lemmas.Bool.{cond-true, cond-false, cases_Bool, both_ways, and_from, le-leb}
use Rattle.script.proofs.Levelling.{each_push}
use Rattle.std.proofs.lemmas.Slice.Eq.{HasBytesAt, bytes_eq-Decides, text_from_reads}
use Rattle.std.specs.Str.{bytes_eq}
use Rattle.script.specs.Lines.{Written, after, each, draws_fit, draws_line, needs_line, needs, from_word, first_level, levels, most, follow, line_of, user_line, with_number}
use Rattle.script.specs.Steps.{Began, Drew, Lacks, Misses, Stops, numbers_until, numbers_to, spread_fits, if_spread_fits}
use Rattle.script.specs.Text.{held, is_number, number_of, value_of}

module _ {A : Type 0} (f : ℕ → Option A) where
  after_some : (o : Option ℕ) (n : ℕ) → o ≡ Some n → after o f ≡ f n
  after_some o n e = ap (λ (p : Option ℕ). after p f) e

-- what reads numbers up to the word v, reads what stands there and goes on
module _ {A : Type 0} (v : List ℕ) (g : List ℕ → List (List ℕ) → Option A) (step : (ns w : List ℕ) (ws : List (List ℕ)) → bytes_eq w v ≡ false → g ns (w ∷ ws) ≡ after (number_of w) (λ n. g (ns ++ n ∷ []) ws)) where
  goes : (ns : List ℕ) (ws : List (List ℕ)) → ((ms : List ℕ) → g ms ws ≡ after (numbers_until v ms ws) (λ p. g p.0 p.1)) → (o : Option ℕ) → after o (λ n. g (ns ++ n ∷ []) ws) ≡ after (after o (λ n. numbers_until v (ns ++ n ∷ []) ws)) (λ p. g p.0 p.1)
  goes ns ws more None = refl
  goes ns ws more (Some n) = more (ns ++ n ∷ [])

  read_on : (ws : List (List ℕ)) (ns : List ℕ) → g ns ws ≡ after (numbers_until v ns ws) (λ p. g p.0 p.1)
  read_on [] ns = refl
  read_on (w ∷ ws) ns = ⊎_elim here (there (goes ns ws (read_on ws) (number_of w))) (cases_Bool (bytes_eq w v))
    where
      rest : Option (List ℕ × List (List ℕ))
      rest = after (number_of w) (λ n. numbers_until v (ns ++ n ∷ []) ws)

      here : bytes_eq w v ≡ true → g ns (w ∷ ws) ≡ after (numbers_until v ns (w ∷ ws)) (λ p. g p.0 p.1)
      here t = ap (λ (o : Option (List ℕ × List (List ℕ))). after o (λ p. g p.0 p.1)) (sym (cond-true (bytes_eq w v) (Some (ns, w ∷ ws)) _ t))

      there : after (number_of w) (λ n. g (ns ++ n ∷ []) ws) ≡ after (after (number_of w) (λ n. numbers_until v (ns ++ n ∷ []) ws)) (λ p. g p.0 p.1) → bytes_eq w v ≡ false → g ns (w ∷ ws) ≡ after (numbers_until v ns (w ∷ ws)) (λ p. g p.0 p.1)
      there more t = step ns w ws t ∙ more ∙ ap (λ (o : Option (List ℕ × List (List ℕ))). after o (λ p. g p.0 p.1)) (sym (cond-false (bytes_eq w v) (Some (ns, w ∷ ws)) _ t))

  read_all : (ws : List (List ℕ)) → with_number (λ n. g (n ∷ [])) ws ≡ after (numbers_to v ws) (λ p. g p.0 p.1)
  read_all [] = refl
  read_all (w ∷ ws) = goes [] ws (read_on ws) (number_of w)

levels_read : (on : ℕ) (ws : List (List ℕ)) → with_number (λ l. levels on (l ∷ [])) ws ≡ after (numbers_to (codes "most") ws) (λ p. levels on p.0 p.1)
levels_read on ws = read_all (codes "most") (levels on) (λ ls w vs e. cond-false (bytes_eq w (codes "most")) (most on ls vs) _ e) ws

-- after `draws`
pub draws_begin : (x : ℕ) (ws : List (List ℕ)) (o : Option (List ℕ × List (List ℕ))) → numbers_to (codes "needs") ws ≡ o → with_number (λ d. draws_line x (d ∷ [])) ws ≡ after o (λ p. draws_line x p.0 p.1)
draws_begin x ws o n =
    read_all (codes "needs") (draws_line x) (λ ds w vs e. cond-false (bytes_eq w (codes "needs")) _ _ e) ws ∙ ap (λ (o : Option (List ℕ × List (List ℕ))). after o (λ p. draws_line x p.0 p.1)) n

-- `Y from`, and then levels
pub need_begins : (on : ℕ) (f : List ℕ) (ws vs us : List (List ℕ)) (o : Option (List ℕ × List (List ℕ))) → Began on ws vs → vs ≡ f ∷ us → bytes_eq f (codes "from") ≡ true → numbers_to (codes "most") us ≡ o → needs ws ≡ after o (λ p. levels on p.0 p.1)
need_begins on f ws vs us o b e s n =
    ap needs b.front ∙ after_some (λ n. from_word n vs) _ on b.value ∙ ap (from_word on) e ∙ cond-true (bytes_eq f (codes "from")) (first_level on us) None s
    ∙ first us ∙ levels_read on us ∙ ap (λ (o : Option (List ℕ × List (List ℕ))). after o (λ p. levels on p.0 p.1)) n
  where
    first : (ws : List (List ℕ)) → first_level on ws ≡ with_number (λ l. levels on (l ∷ [])) ws
    first [] = refl
    first (w ∷ ws) = refl

-- what was read: numbers up to the largest that is held, and fewer words, up to the word v or the end
record IsRead (v : List ℕ) (long : ℕ) (p : List ℕ × List (List ℕ)) : Type 0 where
  small : each (λ n. leb n (2 ^ 32 - 1)) p.0 ≡ true
  stops : Stops v p.1
  fewer : length p.1 ≤ long

-- after a number
read_after : (v : List ℕ) (long : ℕ) (p : List ℕ × List (List ℕ)) (w : List ℕ) (f : ℕ → Option (List ℕ × List (List ℕ))) → ((n : ℕ) → leb n (2 ^ 32 - 1) ≡ true → f n ≡ Some p → IsRead v long p) → after (number_of w) f ≡ Some p → IsRead v long p
read_after v long p w f h e = ⊎_elim some none (cases_Bool (is_number w))
  where
    some : is_number w ≡ true → IsRead v long p
    some t = h (held (value_of w)) (le-leb (held (value_of w)) (2 ^ 32 - 1) (omega arith)) (sym (ap (λ (o : Option ℕ). after o f) (cond-true (is_number w) (Some (held (value_of w))) None t)) ∙ e)

    none : is_number w ≡ false → IsRead v long p
    none t = let z = sym (ap (λ (o : Option ℕ). after o f) (cond-false (is_number w) (Some (held (value_of w))) None t)) ∙ e in absurd (cc z)

read_until : (v : List ℕ) (ws : List (List ℕ)) (ns : List ℕ) (p : List ℕ × List (List ℕ)) → each (λ n. leb n (2 ^ 32 - 1)) ns ≡ true → numbers_until v ns ws ≡ Some p → IsRead v (length ws) p
read_until v [] ns p h e = let q : (ns, []) ≡ p = cc in subst (λ (r : List ℕ × List (List ℕ)). IsRead v 0 r) q (record { small = h; stops = tt; fewer = omega arith })
read_until v (w ∷ ws) ns p h e = ⊎_elim here (there (λ n s. read_until v ws (ns ++ n ∷ []) p (each_push (λ m. leb m (2 ^ 32 - 1)) ns n h s))) (cases_Bool (bytes_eq w v))
  where
    here : bytes_eq w v ≡ true → IsRead v (length (w ∷ ws)) p
    here t = let f = sym (cond-true (bytes_eq w v) (Some (ns, w ∷ ws)) _ t) ∙ e in let q : (ns, w ∷ ws) ≡ p = cc in subst (λ (r : List ℕ × List (List ℕ)). IsRead v (length (w ∷ ws)) r) q (record { small = h; stops = t; fewer = omega arith })

    there : ((n : ℕ) → leb n (2 ^ 32 - 1) ≡ true → numbers_until v (ns ++ n ∷ []) ws ≡ Some p → IsRead v (length ws) p) → bytes_eq w v ≡ false → IsRead v (length (w ∷ ws)) p
    there more t = let r = read_after v (length ws) p w _ more (sym (cond-false (bytes_eq w v) (Some (ns, w ∷ ws)) _ t) ∙ e) in record { small = r.small; stops = r.stops; fewer = omega (arith, r.fewer) }

read_to : (v : List ℕ) (ws : List (List ℕ)) (p : List ℕ × List (List ℕ)) → numbers_to v ws ≡ Some p → (long : ℕ) × (length ws ≡ suc long) × IsRead v long p
read_to v [] p e = absurd cc
read_to v (w ∷ ws) p e = (length ws, refl, read_after v (length ws) p w _ (λ n s. read_until v ws (n ∷ []) p (and_from (leb n (2 ^ 32 - 1)) true s refl)) e)

pub to_left : (v : List ℕ) (ws : List (List ℕ)) (ns : List ℕ) (rest : List (List ℕ)) → numbers_to v ws ≡ Some (ns, rest) → Stops v rest × (length rest < length ws)
to_left v ws ns rest e = let r = read_to v ws (ns, rest) e in (r.2.stops, omega (arith, r.2.fewer, r.1))

-- no word after the levels
pub levels_end : (on : ℕ) (ls : List ℕ) (ws : List (List ℕ)) → Stops (codes "most") ws → Misses (codes "most") ws → levels on ls ws ≡ None
levels_end on ls [] s m = refl
levels_end on ls (w ∷ ws) s m = absurd (both_ways (bytes_eq w (codes "most")) m s)

pub most_begins : (on : ℕ) (ls w : List ℕ) (ws vs : List (List ℕ)) → ws ≡ w ∷ vs → bytes_eq w (codes "most") ≡ true → levels on ls ws ≡ most on ls vs
most_begins on ls w ws vs e t = ap (levels on ls) e ∙ cond-true (bytes_eq w (codes "most")) (most on ls vs) _ t

pub most_is : (on n : ℕ) (ls : List ℕ) (ws vs : List (List ℕ)) → Began n ws vs → most on ls ws ≡ follow (record { on = on; levels = ls; most = n }) vs
most_is on n ls ws vs b = ap (most on ls) b.front ∙ after_some (λ m. follow (record { on = on; levels = ls; most = m }) vs) _ n b.value

pub most_lacks : (on : ℕ) (ls : List ℕ) (ws : List (List ℕ)) → Lacks ws → most on ls ws ≡ None
most_lacks on ls [] h = refl
most_lacks on ls (w ∷ ws) h = ap (λ (o : Option ℕ). after o (λ m. follow (record { on = on; levels = ls; most = m }) ws)) h

-- one more need, before those that follow `and`
pub follow_more : (us : List Written) (w : Written) (ws vs ts : List (List ℕ)) (a : List ℕ) (o : Option (List Written)) → o ≡ after (needs ws) (λ ns. Some (us ++ ns)) → needs ws ≡ follow w vs → vs ≡ a ∷ ts → a ≡ codes "and" → o ≡ after (needs ts) (λ ns. Some ((us ++ w ∷ []) ++ ns))
follow_more us w ws vs ts a o e f g s =
    e ∙ ap (λ (p : Option (List Written)). after p (λ ns. Some (us ++ ns))) (f ∙ ap (follow w) (g ∙ ap (λ (b : List ℕ). b ∷ ts) s)) ∙ regroup (needs ts)
  where
    regroup : (p : Option (List Written)) → after (after p (λ ns. Some (w ∷ ns))) (λ ns. Some (us ++ ns)) ≡ after p (λ ns. Some ((us ++ w ∷ []) ++ ns))
    regroup None = refl
    regroup (Some ns) = ap Some (sym (append_assoc us (w ∷ []) ns))

-- where the first of the words is k
pub first_is : {A : Type 0} (f : List (List ℕ) → A) (k w : List ℕ) (ws rest : List (List ℕ)) → ws ≡ w ∷ rest → length w ≡ length k → HasBytesAt w 0 k → f ws ≡ f (k ∷ rest)
first_is f k w ws rest e l h = ap f (e ∙ ap (λ (v : List ℕ). v ∷ rest) (text_from_reads w k l h))

-- draws fit where there are not too many
pub draws_small : (v : List ℕ) (ws rest : List (List ℕ)) (ds : List ℕ) (o : Option (List ℕ)) → numbers_to v ws ≡ Some (ds, rest) → o ≡ if_spread_fits (2 ^ 32 - 1) ds → Drew o ds
draws_small v ws rest ds o e h =
    let s = (read_to v ws (ds, rest) e).2.small in
    let fits : spread_fits (2 ^ 32 - 1) ds ≡ draws_fit ds = ap (λ (b : Bool). draws_fit ds && b) s ∙ and-true (draws_fit ds) in
    h ∙ ap (λ (b : Bool). cond b (Some ds) None) fits

-- after the draws there are needs, or nothing
pub draws_stop : (x : ℕ) (ds w : List ℕ) (ws vs : List (List ℕ)) → Stops (codes "needs") ws → ws ≡ w ∷ vs → draws_line x ds ws ≡ needs_line x ds vs
draws_stop x ds w [] vs s e = absurd cc
draws_stop x ds w (u ∷ us) vs s e =
    let rest : us ≡ vs = cc in
    cond-true (bytes_eq u (codes "needs")) (needs_line x ds us) _ s ∙ ap (needs_line x ds) rest

-- a number, and then what follows
pub number_first : {A : Type 0} (f : ℕ → List (List ℕ) → Option A) (n : ℕ) (ws vs : List (List ℕ)) → Began n ws vs → with_number f ws ≡ f n vs
number_first f n ws vs b = ap (with_number f) b.front ∙ after_some (λ a. f a vs) _ n b.value

-- two numbers, and then what follows
pub numbers_first : {A : Type 0} (f : ℕ → ℕ → List (List ℕ) → Option A) (m n : ℕ) (ws vs us : List (List ℕ)) → Began m ws vs → Began n vs us → with_number (λ a. with_number (f a)) ws ≡ f m n us
numbers_first f m n ws vs us a b = number_first (λ k. with_number (f k)) m ws vs a ∙ number_first (f m) n vs us b

-- a word that differs from k in length, or in one of the first five bytes
pub unlike : (w k : List ℕ) → (length w ≡ length k → get_or w 0 0 ≡ get_or k 0 0 → get_or w 1 0 ≡ get_or k 1 0 → get_or w 2 0 ≡ get_or k 2 0 → get_or w 3 0 ≡ get_or k 3 0 → get_or w 4 0 ≡ get_or k 4 0 → ⊥) → bytes_eq w k ≡ false
unlike w k h = ⊎_elim (λ (t : bytes_eq w k ≡ true). absurd (same ((bytes_eq-Decides w k).0 t))) (λ (t : bytes_eq w k ≡ false). t) (cases_Bool (bytes_eq w k))
  where
    same : w ≡ k → ⊥
    same e = h (ap length e) (at 0) (at 1) (at 2) (at 3) (at 4)
      where
        at : (i : ℕ) → get_or w i 0 ≡ get_or k i 0
        at i = ap (λ (v : List ℕ). get_or v i 0) e

-- a line that begins with none of the words that a line may begin with
pub other_first : (w : List ℕ) (ws : List (List ℕ)) → bytes_eq w (codes "part") ≡ false → bytes_eq w (codes "run") ≡ false → bytes_eq w (codes "new") ≡ false → bytes_eq w (codes "tick") ≡ false → bytes_eq w (codes "bad") ≡ false → bytes_eq w (codes "slow") ≡ false → bytes_eq w (codes "least") ≡ false → bytes_eq w (codes "gives") ≡ false → bytes_eq w (codes "drawn") ≡ false → line_of (w ∷ ws) ≡ after (number_of w) (λ u. user_line u ws)
other_first w ws part run new tick bad slow least gives drawn = rw (part, run, new, tick, bad, slow, least, gives, drawn) refl
