use Rattle.std.proofs.Common.{ap}
use Rattle.feature_expr.specs.Satisfaction.{satisfies}
use Rattle.query_typing.proofs.WaitingLaws.{both_put}
use Rattle.query_typing.proofs.cond_cases.put_both.Goals as goal

pub returns-clause-cases : goal.returns-clause-cases
returns-clause-cases c = λ d kinds columns. both_put (satisfies d c.args.path) _ _ _ _ _ _ (ap (satisfies d) c.in_ok-same.ensures) (c.in_ok-put_one.ensures.cases d kinds columns) (c.in_ok-put_one-2.ensures.cases d kinds columns)
