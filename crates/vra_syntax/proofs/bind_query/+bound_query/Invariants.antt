use Rattle.std.proofs.Common.{◌≡◌, ◌≤◌}
use Rattle.vra_syntax.specs.declared.query.Query.{size-Query}
use Rattle.vra_syntax.specs.Binding.{bound_query}
use Rattle.vra_syntax.specs.Chains.{rewrapped_query}
use Rattle.vra_syntax.proofs.bind_query.+bound_query.Given as goal

-- the steps so far, round what is left with its values, are the whole with its values
abbrev pub invariant-loop-at : goal.invariant-loop-at
invariant-loop-at l = (rewrapped_query l.steps.items (bound_query l.values l.at) ≡ bound_query l.values l.fn.query) × (size-Query l.at ≤ size-Query l.fn.query)
