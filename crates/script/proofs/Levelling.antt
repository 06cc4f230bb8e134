-- The last level holds for all that follow, and what no plan can hold is known.
use Rattle.std.proofs.Common.{◌≡◌, ℕ, zero, suc, ◌+◌, ◌-◌, ◌<◌, ◌≤◌, Bool, true, leb, List, [], ◌∷◌, ◌++◌, length, take, drop, replicate, Some, None, Option, MatchOption, rules, sym, refl, ap, ◌∙◌, append-nil, arith}
use borrow.Rule.Slice.PartMut.{put_mid}
use Rattle.std.proofs.lemmas.List.{length_push, length-replicate, drop_all, take-append-drop}
use Rattle.std.proofs.lemmas.Slice.{drop-put_mid, take-put_mid}
use Rattle.std.proofs.lemmas.Grind.{common_steps}
use Rattle.std.proofs.lemmas.Bool.{cond-true, and_from, and_parts, le-leb}
use Rattle.script.specs.Lines.{spread, each}
use Rattle.script.specs.Steps.{IsSpread, written, spread_fits, if_spread_fits}

spread_same : (n a : ℕ) → spread n a [] ≡ replicate n a
spread_same zero a = refl
spread_same (suc n) a = ap (λ (xs : List ℕ). a ∷ xs) (spread_same n a)

-- one more level takes the place of all that follow it
spread_push : (n l k : ℕ) (ls : List ℕ) (a : ℕ) → n ≡ length ls + suc k → spread n l (ls ++ a ∷ []) ≡ take (length ls) (spread n l ls) ++ replicate (suc k) a
spread_push zero l k ls a e = absurd (omega arith)
spread_push (suc n) l k [] a e =
    let m : n ≡ k = omega arith in
    ap (λ (xs : List ℕ). a ∷ xs) (spread_same n a ∙ ap (λ (j : ℕ). replicate j a) m)
spread_push (suc n) l k (b ∷ ls) a e = ap (λ (xs : List ℕ). b ∷ xs) (spread_push n b k ls a (omega arith))

-- what stands from a place on is written anew
filled : (a : ℕ) (xs ys : List ℕ) → a ≤ length xs → length ys ≡ length xs - a → put_mid a (length xs - a) xs ys ≡ take a xs ++ ys
filled a xs ys h e =
    let whole = put_mid a (length xs - a) xs ys in
    let rest : drop (length xs) whole ≡ [] = drop-put_mid a (length xs - a) xs ys (length xs) (omega arith) h e ∙ drop_all (length xs) xs (omega arith) in
    sym (take-append-drop (length xs) whole) ∙ ap (λ (zs : List ℕ). take (length xs) whole ++ zs) rest ∙ append-nil (take (length xs) whole) ∙ take-put_mid a (length xs - a) xs ys (length xs) (omega arith) h

length_spread : (n l : ℕ) (ls : List ℕ) → length (spread n l ls) ≡ n
length_spread zero l ls = refl
length_spread (suc n) l [] = ap suc (length_spread n l [])
length_spread (suc n) l (m ∷ ls) = ap suc (length_spread n m ls)

module _ {A : Type 0} (f : A → Bool) where
  pub each_push : (xs : List A) (x : A) → each f xs ≡ true → f x ≡ true → each f (xs ++ x ∷ []) ≡ true
  each_push [] x t e = and_from (f x) true e refl
  each_push (y ∷ xs) x t e = and_from (f y) (each f (xs ++ x ∷ [])) (and_parts (f y) (each f xs) t).0 (each_push xs x (and_parts (f y) (each f xs) t).1 e)

-- one number more, where all fit
fits_more : (top a : ℕ) (ls : List ℕ) → spread_fits top ls ≡ true → a ≤ top → length ls < 15 → spread_fits top (ls ++ a ∷ []) ≡ true
fits_more top a ls t h l =
    let fits = and_parts (leb (length ls) 15) (each (λ n. leb n top) ls) t in
    and_from (leb (length (ls ++ a ∷ [])) 15) (each (λ n. leb n top) (ls ++ a ∷ [])) (le-leb (length (ls ++ a ∷ [])) 15 (omega (arith, length_push ls a))) (each_push (λ n. leb n top) ls a fits.1 (le-leb a top h))

-- one more of sixteen levels
spread_more : (levels ls new : List ℕ) (a c : ℕ) → levels ≡ 0 ∷ spread 15 0 ls → length ls ≡ c → c < 15 → new ≡ replicate (length levels - (c + 1)) a → put_mid (c + 1) (length levels - (c + 1)) levels new ≡ 0 ∷ spread 15 0 (ls ++ a ∷ [])
spread_more levels ls new a c e n h f =
    let long : length levels ≡ 16 = omega (arith, ap length e, length_spread 15 0 ls) in
    let k : length levels - (c + 1) ≡ suc (14 - c) = omega arith in
    let s : c + 1 ≡ suc (length ls) = omega arith in
    filled (c + 1) levels new (omega arith) (ap length f ∙ length-replicate (length levels - (c + 1)) a)
    ∙ ap (λ (zs : List ℕ). take (c + 1) levels ++ zs) (f ∙ ap (λ (j : ℕ). replicate j a) k)
    ∙ ap (λ (zs : List ℕ). take (c + 1) zs ++ replicate (suc (14 - c)) a) e
    ∙ ap (λ (j : ℕ). take j (0 ∷ spread 15 0 ls) ++ replicate (suc (14 - c)) a) s
    ∙ ap (λ (xs : List ℕ). 0 ∷ xs) (sym (spread_push 15 0 (14 - c) ls a (omega arith)))

-- the numbers that were spread
spread_front : (n l : ℕ) (ls : List ℕ) → length ls ≤ n → take (length ls) (spread n l ls) ≡ ls
spread_front zero l [] h = refl
spread_front zero l (m ∷ ls) h = absurd (omega arith)
spread_front (suc n) l [] h = refl
spread_front (suc n) l (m ∷ ls) h = ap (λ (xs : List ℕ). m ∷ xs) (spread_front n m ls (omega arith))

-- one number more that fits
pub spread_with : (top a c : ℕ) (levels new : List ℕ) → IsSpread top c levels → a ≤ top → c < 15 → (k : ℕ) → new ≡ replicate k a → k ≡ length levels - (c + 1) → IsSpread top (c + 1) (put_mid (c + 1) (length levels - (c + 1)) levels new) × (written (c + 1) (put_mid (c + 1) (length levels - (c + 1)) levels new) ≡ written c levels ++ a ∷ [])
spread_with top a c levels new h q s k f j =
    let ls = written c levels in
    let more : length (ls ++ a ∷ []) ≡ c + 1 = omega (arith, length_push ls a, h.long) in
    let all = spread_more levels ls new a c h.all h.long s (f ∙ ap (λ (i : ℕ). replicate i a) j) in
    let front = ap (λ (xs : List ℕ). take (c + 1) (drop 1 xs)) all ∙ ap (λ (k : ℕ). take k (spread 15 0 (ls ++ a ∷ []))) (sym more) ∙ spread_front 15 0 (ls ++ a ∷ []) (omega arith) in
    (record { long = ap length front ∙ more; fits = ap (spread_fits top) front ∙ fits_more top a ls h.fits q (omega (arith, h.long)); all = all ∙ ap (λ (ms : List ℕ). 0 ∷ spread 15 0 ms) (sym front) }, front)

-- numbers that stand so do fit
pub spread_is : (top c : ℕ) (levels ls : List ℕ) → IsSpread top c levels → written c levels ≡ ls → Some (written c levels) ≡ if_spread_fits top ls
spread_is top c levels ls h e = ap Some e ∙ sym (cond-true (spread_fits top ls) (Some ls) None (ap (spread_fits top) (sym e) ∙ h.fits))

-- one number more after these, if all fit
pub more_fit : (top n : ℕ) (ns : List ℕ) (was is : Option (List ℕ)) → was ≡ if_spread_fits top ns → MatchOption was (is ≡ None) (λ ms. is ≡ if_spread_fits top (ms ++ n ∷ [])) → is ≡ if_spread_fits top (ns ++ n ∷ [])
more_fit top n ns None is e h = grind (arith, common_steps)
more_fit top n ns (Some ms) is e h = search rules
