-- The board after one of its parts was put anew. Assumes nothing.
use Rattle.std.proofs.Common.{◌≡◌, ℕ, ◌+◌, ◌<◌, true, false, cond, T, ltb, length, get_or, set, sym, ap, ◌∙◌, subst}
use Rattle.power.specs.Board.{Board, Part, On, with_parts, put, is_rising, Tries, good, not_yet}
use Rattle.power.specs.Mirrors.{part_of}
use Rattle.sim.specs.declared.state.SimPart.{SimPart}
use Rattle.sim.specs.declared.state.Sim.{Sim}
use Rattle.sim.specs.Boards.{board_of, part_at, no_part}
use Rattle.sim.proofs.Puts.{set_put, put_back}

module _ (s : Sim) (x : ℕ) (p : SimPart) (h : x < length s.parts) where
  abbrev put_anew : Board
  put_anew = with_parts (λ y. part_of (get_or (set s.parts x p) y no_part).state) (λ y. (get_or (set s.parts x p) y no_part).tried) (board_of s)

  is_put : put_anew ≡ with_parts (put x (part_of p.state) (board_of s).part) (put x p.tried (board_of s).tried) (board_of s)
  is_put =
      ap (λ (f : ℕ → Part). with_parts f (λ y. (get_or (set s.parts x p) y no_part).tried) (board_of s)) (set_put (λ (q : SimPart). part_of q.state) no_part p s.parts x h)
      ∙ ap (λ (t : ℕ → ℕ). with_parts (put x (part_of p.state) (board_of s).part) t (board_of s)) (set_put (λ (q : SimPart). q.tried) no_part p s.parts x h)

  -- it was found good
  pub now_good : T (is_rising ((board_of s).part x)) → part_of p.state ≡ On 1 → p.tried ≡ (part_at s x).tried → Tries (board_of s) x true put_anew
  now_good r e t =
      let u : put x p.tried (board_of s).tried ≡ (board_of s).tried = ap (λ n. put x n (board_of s).tried) t ∙ put_back x (board_of s).tried in
      subst (λ (b : Board). Tries (board_of s) x true b)
      (sym (is_put ∙ ap (λ q. with_parts (put x q (board_of s).part) (put x p.tried (board_of s).tried) (board_of s)) e ∙ ap (λ (f : ℕ → ℕ). with_parts (put x (On 1) (board_of s).part) f (board_of s)) u))
      (good r)

  -- it was found not to be good yet
  pub not_good_yet : T (is_rising ((board_of s).part x)) → part_of p.state ≡ (board_of s).part x → p.tried ≡ cond (ltb (part_at s x).tried 64) ((part_at s x).tried + 1) 64 → Tries (board_of s) x false put_anew
  not_good_yet r e t =
      let u : put x (part_of p.state) (board_of s).part ≡ (board_of s).part = ap (λ q. put x q (board_of s).part) e ∙ put_back x (board_of s).part in
      subst (λ (b : Board). Tries (board_of s) x false b)
      (sym (is_put ∙ ap (λ (f : ℕ → Part). with_parts f (put x p.tried (board_of s).tried) (board_of s)) u ∙ ap (λ n. with_parts (board_of s).part (put x n (board_of s).tried) (board_of s)) t))
      (not_yet r)
