-- Plans that are made from the left.
use Rattle.std.proofs.Common.{◌≡◌, List, [], ◌∷◌, ◌++◌, refl, ap}
use Rattle.query_meaning.specs.declared.plan.Plan.{Plan}
use Rattle.query_names.specs.declared.plan_steps.PlanStep.{PlanStep}
use Rattle.query_names.specs.PlanSteps.{wrapped, rewrapped}

pub rewrapped_push : (steps : List PlanStep) (step : PlanStep) (inner : Plan) → rewrapped (steps ++ step ∷ []) inner ≡ rewrapped steps (wrapped step inner)
rewrapped_push [] step inner = refl
rewrapped_push (s ∷ steps) step inner = ap (λ p. wrapped s p) (rewrapped_push steps step inner)
