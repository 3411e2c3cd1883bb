use Rattle.std.proofs.Common.{◌≡◌, drop}
use Rattle.feature_expr.specs.declared.expr.Expr as e
use Rattle.query_typing.specs.Kinds.{differ_from}
use Rattle.query_typing.proofs.kinds.differ_of.Given as goal

abbrev pub invariant-loop-one : goal.invariant-loop-one
invariant-loop-one l = differ_from l.right l.whole (drop l.one-index l.left) ≡ differ_from l.right e.False l.left
