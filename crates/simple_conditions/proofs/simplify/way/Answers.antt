use Rattle.feature_expr.specs.declared.expr.Expr as e
use Rattle.simple_conditions.proofs.NodeLaws.{satisfies-True, satisfies-False}
use Rattle.simple_conditions.proofs.SimplerLaws.{nothing_known}
use Rattle.simple_conditions.specs.Known.{Fits}
use Rattle.simple_conditions.proofs.simplify.way.Goals as goal

pub returns : goal.returns
returns c =
    nothing_known (Fits c.none-literals.result e.True e.False) c.args.expr.now c.in_ok-expr.expr
    (λ k. record { has = c.none-literals.ensures k; held = satisfies-True k; failed = satisfies-False k })
    c.in_ok-expr.ensures
