-- What the mirror shows of the parts: read, after a telling, and at the start. Assumes nothing.
use Rattle.std.proofs.Common.{◌≡◌, ℕ, zero, suc, true, false, get_or, replicate, sym, refl, ap, ◌∙◌, subst}
use Rattle.std.proofs.lemmas.Bool.{cond-true, cond-false}
use Rattle.power.specs.Board.{Board, level_of, told, is_six, AtStart}
use Rattle.power.specs.Mirrors.{part_of, TriedIs, state_at, Shows, Anew}
use Rattle.power.specs.declared.Answer.{Answer}
use Rattle.power.specs.declared.state.PartState.{PartState}
use Rattle.power.specs.declared.state.PartState.TheVariants as state
use Rattle.power.specs.declared.state.Tried.{Tried}
use Rattle.power.specs.declared.state.Mirror.{Mirror}

-- READ
pub part_shown : (m : Mirror) (b : Board) (x : ℕ) (s : PartState Tried) → Shows m b → s ≡ state_at m x → b.part x ≡ part_of s
part_shown m b x s h e = h.part x ∙ ap part_of (sym e)

pub tried_shown : (m : Mirror) (b : Board) (x : ℕ) (n : Tried) → Shows m b → state.Rising n ≡ state_at m x → b.tried x ≡ n.n
tried_shown m b x n h e = subst (λ (s : PartState Tried). TriedIs s (b.tried x)) (sym e) (h.tried x)

pub level_shown : (m : Mirror) (b : Board) (x n : ℕ) → Shows m b → n ≡ level_of (part_of (state_at m x)) → n ≡ level_of (b.part x)
level_shown m b x n h e = e ∙ sym (ap level_of (h.part x))

-- A TELLING
pub shows_told : (m : Mirror) (b : Board) (u : ℕ) (a : Answer) → is_six a ≡ false → Shows m b → Shows m (told u a b)
shows_told m b u a e h = record { part = h.part; tried = λ x. rw (cond-false (is_six a) 0 (b.tried x) e) (h.tried x) }

-- after a 6 each part is tried anew
pub shows_six : (m m' : Mirror) (b : Board) (u : ℕ) (a : Answer) → is_six a ≡ true → Anew m m' → Shows m b → Shows m' (told u a b)
shows_six m m' b u a e n h =
    record { part = λ x. h.part x ∙ sym (n.part x); tried = λ x. rw (cond-true (is_six a) 0 (b.tried x) e) (n.tried x) }

-- THE START
-- a list all of whose elements f takes to b, as it does the default
pub all_same : {A B : Type 0} (f : A → B) (n : ℕ) (a d : A) (b : B) → f a ≡ b → f d ≡ b → (x : ℕ) → f (get_or (replicate n a) x d) ≡ b
all_same f zero a d b p q x = q
all_same f (suc n) a d b p q zero = p
all_same f (suc n) a d b p q (suc x) = all_same f n a d b p q x

-- a list of defaults is the default everywhere
pub get_d_same : {A : Type 0} (n : ℕ) (d : A) (j : ℕ) → get_or (replicate n d) j d ≡ d
get_d_same n d j = all_same (λ x. x) n d d d refl refl j

pub shows_start : (m : Mirror) (b : Board) → m.states ≡ replicate 64 state.Off → AtStart b → Shows m b
shows_start m b e s =
    record {
      part = λ x. (s.2 x).0 ∙ sym (ap part_of (ap (λ xs. get_or xs x state.Off) e ∙ get_d_same {A = PartState Tried} 64 state.Off x));
      tried = λ x. rw (e, get_d_same {A = PartState Tried} 64 state.Off x) tt;
    }
