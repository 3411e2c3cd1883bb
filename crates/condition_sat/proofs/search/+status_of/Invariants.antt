use Rattle.std.proofs.Common.{◌≤◌}
use Rattle.feature_expr.specs.declared.expr.Expr.{size-Expr}
use Rattle.condition_sat.specs.declared.search.Status.{Status}
use Rattle.condition_sat.specs.Search.{IsStatus}
use Rattle.condition_sat.proofs.search.+status_of.Given as goal

-- what becomes of what is left becomes of the whole
abbrev pub invariant-loop-at : goal.invariant-loop-at
invariant-loop-at l =
    ((f : Status) → IsStatus l.at l.value l.assignment f → IsStatus l.fn.expr l.fn.value l.assignment f) × (size-Expr l.at ≤ size-Expr l.fn.expr)
