-- Chains that were taken apart from the left.
use Rattle.std.proofs.Common.{◌≡◌, List, [], ◌∷◌, ◌++◌, refl, ap}
use Rattle.feature_expr.specs.declared.expr.Expr.{Expr}
use Rattle.feature_expr.specs.declared.expr.Step.{Step}
use Rattle.feature_expr.specs.Chains.{wrapped, rewrapped}

pub rewrapped_push : (steps : List Step) (step : Step) (inner : Expr) → rewrapped (steps ++ step ∷ []) inner ≡ rewrapped steps (wrapped step inner)
rewrapped_push [] step inner = refl
rewrapped_push (s ∷ steps) step inner = ap (λ e. wrapped s e) (rewrapped_push steps step inner)
