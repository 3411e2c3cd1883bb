use Rattle.std.proofs.Common.{◌≡◌, ◌≤◌, max}
use Rattle.vra_syntax.specs.declared.query.Query.{size-Query}
use Rattle.vra_syntax.specs.Parameters.{param_in_query}
use Rattle.vra_syntax.proofs.count.+in_query.Given as goal

-- the greatest so far and that of what is left make the whole's
abbrev pub invariant-loop-at : goal.invariant-loop-at
invariant-loop-at l = (max l.greatest (param_in_query l.at) ≡ param_in_query l.fn.query) × (size-Query l.at ≤ size-Query l.fn.query)
