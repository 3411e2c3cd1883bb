use Rattle.std.proofs.Common.{◌≡◌, drop}
use Rattle.feature_expr.specs.declared.expr.Expr as e
use Rattle.query_typing.specs.Kinds.{other_from}
use Rattle.query_typing.proofs.kinds.other_than.Given as goal

abbrev pub invariant-loop-one : goal.invariant-loop-one
invariant-loop-one l = other_from l.kind l.whole (drop l.one-index l.right) ≡ other_from l.kind e.False l.right
