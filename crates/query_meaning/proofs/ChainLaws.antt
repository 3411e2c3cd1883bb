-- Plans that were taken apart from the left.
use Rattle.std.proofs.Common.{◌≡◌, List, [], ◌∷◌, ◌++◌, refl, ap}
use Rattle.query_meaning.specs.Chains.{wrapped_plan, rewrapped_plan}
use Rattle.query_meaning.specs.declared.plan.Plan.{Plan}
use Rattle.query_meaning.specs.declared.plan_copy.PlanStep.{PlanStep}

pub rewrapped_plan_push : (steps : List PlanStep) (step : PlanStep) (inner : Plan) → rewrapped_plan (steps ++ step ∷ []) inner ≡ rewrapped_plan steps (wrapped_plan step inner)
rewrapped_plan_push [] step inner = refl
rewrapped_plan_push (s ∷ steps) step inner = ap (λ p. wrapped_plan s p) (rewrapped_plan_push steps step inner)
