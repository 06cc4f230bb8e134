-- A board in memory with nothing done to it. Assumes nothing.
use Rattle.std.proofs.Common.{◌≡◌, ℕ, ◌<◌, T, List, get_or, replicate, Some, sym, refl, ap, ◌∙◌, subst, arith}
use mathlib.Core.Path.{fun_ext}
use Rattle.std.proofs.lemmas.List.{get_or-replicate}
use Rattle.power.specs.Board.{Board, Part, Off, Wish, None', AtStart, good_plan}
use Rattle.power.specs.Mirrors.{part_of}
use Rattle.power.specs.declared.state.PartState.TheVariants as state
use Rattle.power.specs.declared.state.Wanted.{Wanted}
use Rattle.power.specs.declared.state.Wanted.TheVariants as wanted
use Rattle.power.proofs.Shown.{all_same}
use Rattle.sim.specs.declared.plan.Plan.{Plan}
use Rattle.sim.specs.declared.state.SimPart.{SimPart}
use Rattle.sim.specs.declared.state.Sim.{Sim}
use Rattle.sim.specs.Boards.{board_of, no_part, wish_of}
use Rattle.sim.specs.Plans.{board_for, needs_at, draws_at}
use Rattle.sim.specs.Starts.{Fresh}

-- a part that is off, and good when it's first asked
abbrev pub at_first : SimPart
at_first = record { state = state.Off; tried = 0; pace = Some 1; next_pace = Some 1 }

-- the board of a plan, with these parts, tries and wishes
abbrev board_with : Plan → (ℕ → Part) → (ℕ → ℕ) → (ℕ → Wish) → ℕ → ℕ → Board
board_with p f t w q l = record { parts = p.parts; needs = needs_at p.part; draws = draws_at p.part; gives = p.gives; part = f; tried = t; wish = w; quiet = q; left = l }

starts : (p : Plan) → T (good_plan (board_for p)) → AtStart (board_for p)
starts p g = (p.few, g, λ x. (refl, refl), λ u. refl, refl, omega arith)

module _ (p : Plan) (s : Sim) (ep : s.plan ≡ p) (es : s.parts ≡ replicate 64 at_first) (ew : s.wishes ≡ replicate 32 wanted.Nothing) (eq : s.quiet ≡ 0) (el : s.left ≡ 1024) where
  -- what f is of each part
  each : {B : Type 0} (f : SimPart → B) (b : B) → f at_first ≡ b → f no_part ≡ b → (x : ℕ) → f (get_or s.parts x no_part) ≡ b
  each f b h d x = ap (λ (xs : List SimPart). f (get_or xs x no_part)) es ∙ all_same f 64 at_first no_part b h d x

  calm : ◌≡◌ {A = ℕ → Wish} (λ u. wish_of (get_or s.wishes u wanted.Nothing)) (λ u. None')
  calm = fun_ext (λ u. ap (λ (xs : List (Wanted ℕ)). wish_of (get_or xs u wanted.Nothing)) ew ∙ all_same wish_of 32 wanted.Nothing wanted.Nothing None' refl refl u)

  is_board : board_of s ≡ board_for p
  is_board =
      ap (λ (q : Plan). board_with q (board_of s).part (board_of s).tried (board_of s).wish s.quiet s.left) ep
      ∙ ap (λ (f : ℕ → Part). board_with p f (board_of s).tried (board_of s).wish s.quiet s.left) (fun_ext (each (λ q. part_of q.state) Off refl refl))
      ∙ ap (λ (t : ℕ → ℕ). board_with p (λ x. Off) t (board_of s).wish s.quiet s.left) (fun_ext (each (λ q. q.tried) 0 refl refl))
      ∙ ap (λ (w : ℕ → Wish). board_with p (λ x. Off) (λ x. 0) w s.quiet s.left) calm
      ∙ ap (λ (q : ℕ). board_with p (λ x. Off) (λ x. 0) (λ u. None') q s.left) eq
      ∙ ap (λ (l : ℕ). board_with p (λ x. Off) (λ x. 0) (λ u. None') 0 l) el

  first : (x : ℕ) → x < 64 → get_or s.parts x no_part ≡ at_first
  first x h = ap (λ (xs : List SimPart). get_or xs x no_part) es ∙ get_or-replicate 64 x at_first no_part h

  pub fresh : T (good_plan (board_for p)) → Fresh p s
  fresh g =
      record {
        board = is_board;
        starts = subst (λ (b : Board). AtStart b) (sym is_board) (starts p g);
        pace = λ x h. ap (λ (q : SimPart). q.pace) (first x h);
        next = λ x h. ap (λ (q : SimPart). q.next_pace) (first x h);
      }
