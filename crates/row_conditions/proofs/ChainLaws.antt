-- Chains that were taken apart from the left.
use Rattle.std.proofs.Common.{◌≡◌, List, [], ◌∷◌, ◌++◌, refl, ap}
use Rattle.feature_expr.specs.declared.expr.Expr.{Expr}
use Rattle.row_conditions.specs.Truths.{wrapped_truth, rewrapped_truth}
use Rattle.row_conditions.specs.declared.truth.TruthStep.{TruthStep}

pub rewrapped_truth_push : (steps : List TruthStep) (step : TruthStep) (inner : Expr) → rewrapped_truth (steps ++ step ∷ []) inner ≡ rewrapped_truth steps (wrapped_truth step inner)
rewrapped_truth_push [] step inner = refl
rewrapped_truth_push (s ∷ steps) step inner = ap (λ t. wrapped_truth s t) (rewrapped_truth_push steps step inner)
