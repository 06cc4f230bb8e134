-- What was granted, user by user, is what the board has as granted. Assumes nothing.
use Rattle.std.proofs.Common.{◌≡◌, ℕ, zero, suc, ◌+◌, ◌<◌, List, length, get_or, replicate, sym, refl, ap, ◌∙◌, add-one}
use Rattle.std.proofs.lemmas.List.{get_or_default}
use Rattle.power.specs.Board.{Board, Wish, larger, most, want_of, granted}
use Rattle.power.specs.Mirrors.{Says, SaysAll, wanted_by}
use Rattle.power.specs.Grants.{grant_of}
use Rattle.power.specs.declared.state.Wanted.{Wanted}
use Rattle.power.specs.declared.state.Wanted.TheVariants.{Nothing, Asked, Granted}
use Rattle.power.specs.declared.state.Wishes.{Wishes}
use Rattle.power.proofs.Shown.{get_d_same}

pub most_none : (ls : List ℕ) (x : ℕ) (f : ℕ → ℕ) → ls ≡ replicate 64 0 → get_or ls x 0 ≡ most 0 f
unfolding most
most_none ls x f e = ap (λ l. get_or l x 0) e ∙ get_d_same 64 0 x

most_more : (n : ℕ) (f : ℕ → ℕ) → most (n + 1) f ≡ larger (most n f) (f n)
unfolding most
most_more n f = rw add-one refl

-- one user more
pub grant_more : {A : Type 0} (ws : List (Wanted A)) (u x m : ℕ) (w : Wanted A) → u < length ws →
    m ≡ most u (λ v. grant_of x (get_or ws v Nothing)) → larger m (grant_of x (get_or ws u w)) ≡ most (u + 1) (λ v. grant_of x (get_or ws v Nothing))
grant_more ws u x m w h e =
    ap (λ n. larger n (grant_of x (get_or ws u w))) e ∙ ap (λ v. larger (most u (λ j. grant_of x (get_or ws j Nothing))) (grant_of x v)) (get_or_default ws u w Nothing h)
    ∙ sym (most_more u (λ v. grant_of x (get_or ws v Nothing)))

-- as the board has it
most_same : (n : ℕ) (f g : ℕ → ℕ) → ((u : ℕ) → f u ≡ g u) → most n f ≡ most n g
unfolding most
most_same zero f g h = refl
most_same (suc n) f g h = ap (λ a. larger a (f n)) (most_same n f g h) ∙ ap (λ a. larger (most n g) a) (h n)

grant_said : (x : ℕ) (w : Wanted Unit) (v : Wish) → Says w v → grant_of x w ≡ want_of x v
unfolding want_of
grant_said x Nothing v s = sym (ap (want_of x) s)
grant_said x (Asked r t) v s = sym (ap (want_of x) s.1)
grant_said x (Granted r) v s = sym (ap (want_of x) s)

pub granted_said : (ws : Wishes) (b : Board) → SaysAll ws b → (x : ℕ) → most 32 (λ u. grant_of x (wanted_by ws u)) ≡ granted b x
granted_said ws b s x = most_same 32 _ _ (λ u. grant_said x (wanted_by ws u) (b.wish u) (s u))
