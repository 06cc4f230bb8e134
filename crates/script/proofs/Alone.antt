-- A line that is none is none, whatever follows; one that is a line is that only where no word follows.
use Rattle.std.proofs.Common.{◌≡◌, ℕ, true, false, List, [], ◌∷◌, Some, None, Option, Ok, Err, Result, MatchOption, Bor, sym, refl, ap}
use Rattle.std.specs.Option.{is_some}
use Rattle.std.specs.Result.{is_err}
use Rattle.script.specs.Lines.{heard, only, said_of}
use Rattle.script.specs.Steps.{only_if}
use Rattle.script.specs.declared.line.Line.{Line}
use Rattle.script.specs.declared.line.NoLine.{NoLine}

module _ (ws vs : List (List ℕ)) where
  pub alone_err : (r : Result Line NoLine) → true ≡ is_err r → heard r ≡ only_if (heard r) ws
  alone_err (Ok l) e = absurd cc
  alone_err (Err n) e = refl

  pub alone_some : (r : Result Line NoLine) (o : Option (Bor (List ℕ))) → true ≡ is_some o → MatchOption o ((ws ≡ []) × (vs ≡ [])) (λ w. ws ≡ w.now ∷ vs) → None ≡ only_if (heard r) ws
  alone_some (Ok l) None e h = absurd cc
  alone_some (Ok l) (Some w) e h = sym (ap (only (said_of l)) h)
  alone_some (Err n) o e h = refl

  pub alone_none : (r : Result Line NoLine) (o : Option (Bor (List ℕ))) → false ≡ is_some o → MatchOption o ((ws ≡ []) × (vs ≡ [])) (λ w. ws ≡ w.now ∷ vs) → heard r ≡ only_if (heard r) ws
  alone_none (Ok l) None e h = sym (ap (only (said_of l)) h.0)
  alone_none (Ok l) (Some w) e h = absurd cc
  alone_none (Err n) o e h = refl
