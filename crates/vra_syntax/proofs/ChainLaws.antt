-- Chains that were taken apart from the left.
use Rattle.std.proofs.Common.{◌≡◌, List, [], ◌∷◌, ◌++◌, refl, ap}
use Rattle.vra_syntax.specs.declared.bind_cond.CondStep.{CondStep}
use Rattle.vra_syntax.specs.declared.bind_query.QueryStep.{QueryStep}
use Rattle.vra_syntax.specs.declared.cond.Cond.{Cond}
use Rattle.vra_syntax.specs.declared.query.Query.{Query}
use Rattle.vra_syntax.specs.Chains.{wrapped_cond, rewrapped_cond, wrapped_query, rewrapped_query}

pub rewrapped_cond_push : (steps : List CondStep) (step : CondStep) (inner : Cond) → rewrapped_cond (steps ++ step ∷ []) inner ≡ rewrapped_cond steps (wrapped_cond step inner)
rewrapped_cond_push [] step inner = refl
rewrapped_cond_push (s ∷ steps) step inner = ap (λ c. wrapped_cond s c) (rewrapped_cond_push steps step inner)

pub rewrapped_query_push : (steps : List QueryStep) (step : QueryStep) (inner : Query) → rewrapped_query (steps ++ step ∷ []) inner ≡ rewrapped_query steps (wrapped_query step inner)
rewrapped_query_push [] step inner = refl
rewrapped_query_push (s ∷ steps) step inner = ap (λ q. wrapped_query s q) (rewrapped_query_push steps step inner)
