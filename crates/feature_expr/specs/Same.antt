-- Whether two expressions are one and the same, and what a hash is fed of one.
use Rattle.std.specs.Prelude.{ℕ, ◌==◌, Bool, true, false, ◌&&◌, List, ◌++◌}
use Rattle.std.specs.Hash as fed
use Rattle.feature_expr.specs.declared.expr.Expr.{Expr, fold-Expr, out-Expr}
use Rattle.feature_expr.specs.declared.expr.Expr.TheOpen.{Expr-F}

-- whether a node is the other one, where each part of it says which expression is the same
abbrev pub same_step : Expr-F (Expr → Bool) → Expr-F Expr → Bool
same_step Expr-F.True Expr-F.True = true
same_step Expr-F.False Expr-F.False = true
same_step (Expr-F.Feature i) (Expr-F.Feature k) = i == k
same_step (Expr-F.Not x) (Expr-F.Not a) = x a
same_step (Expr-F.And x y) (Expr-F.And a b) = x a && y b
same_step (Expr-F.Or x y) (Expr-F.Or a b) = x a && y b
same_step _ _ = false

-- node by node
abbrev pub same_expr : Expr → Expr → Bool
same_expr one = fold-Expr (Expr → Bool) (λ node other. same_step node (out-Expr other)) one

-- a node, the right side and then the left one, of which each call writes its bytes
abbrev pub written_step : Expr-F (List (List ℕ)) → List (List ℕ)
written_step Expr-F.True = fed.u8 0
written_step Expr-F.False = fed.u8 1
written_step (Expr-F.Feature i) = fed.u8 2 ++ fed.u8 i
written_step (Expr-F.Not inner) = fed.u8 3 ++ inner
written_step (Expr-F.And left right) = fed.u8 4 ++ right ++ left
written_step (Expr-F.Or left right) = fed.u8 5 ++ right ++ left

abbrev pub hash_writes : Expr → List (List ℕ)
hash_writes expr = fold-Expr (List (List ℕ)) written_step expr
