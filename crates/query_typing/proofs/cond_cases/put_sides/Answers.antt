use Rattle.std.proofs.Common.{ap, not, ◌∙◌}
use Rattle.feature_expr.specs.Satisfaction.{satisfies}
use Rattle.query_typing.proofs.WaitingLaws.{sides_put}
use Rattle.query_typing.proofs.cond_cases.put_sides.Goals as goal

pub returns-clause-cases : goal.returns-clause-cases
returns-clause-cases c = λ d kinds columns. sides_put (satisfies d c.args.path) (satisfies d c.args.expr.now) _ _ _ _ _ _ _ _ (c.in_ok-taken.ensures d) (c.in_ok-other.ensures.meaning d ∙ ap (λ x. not (satisfies d x)) c.in_ok-expr.ensures) (c.in_ok-other-2.ensures.meaning d) (c.in_ok-put_one.ensures.cases d kinds columns) (c.in_ok-put_one-2.ensures.cases d kinds columns)
