use Rattle.std.proofs.Common.{◌≡◌, ◌+◌, ◌*◌, ◌++◌, ◌≤◌, All, vec_len}
use Rattle.feature_expr.specs.declared.expr.Expr.{size-Expr}
use Rattle.feature_expr.specs.Printing.{text_at}
use Rattle.feature_expr.specs.Rests.{texts_behind, rest_size, IsShallower}
use Rattle.feature_expr.proofs.print.+print.Given as goal

abbrev pub decreases-print_into : goal.decreases-print_into
decreases-print_into l = 2 * size-Expr l.expr.now + 1

abbrev pub decreases-print_rest : goal.decreases-print_rest
decreases-print_rest l = 2 * rest_size l.rest

-- what is printed, the left side that is reached and what stands behind it are the whole
abbrev pub invariant-print_into-down : goal.invariant-print_into-down
invariant-print_into-down l = record {
  printed : l.text.items ++ (text_at l.features l.at l.position ++ texts_behind l.features l.rests.items) ≡ l.fn.text.items ++ text_at l.fn.features l.fn.expr l.fn.position;
  smaller : size-Expr l.at ≤ size-Expr l.fn.expr;
  shallower : All (IsShallower (size-Expr l.fn.expr)) l.rests.items;
}

abbrev pub decreases-print_into-down : goal.decreases-print_into-down
decreases-print_into-down l = size-Expr l.at

abbrev pub invariant-print_into-loop-rest : goal.invariant-print_into-loop-rest
invariant-print_into-loop-rest l = record {
  printed : l.text.items ++ texts_behind l.features l.rests.items ≡ l.fn.text.items ++ text_at l.fn.features l.fn.expr l.fn.position;
  shallower : All (IsShallower (size-Expr l.fn.expr)) l.rests.items;
}

abbrev pub decreases-print_into-loop-rest : goal.decreases-print_into-loop-rest
decreases-print_into-loop-rest l = vec_len l.rests
