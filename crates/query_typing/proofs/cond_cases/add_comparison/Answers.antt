use Rattle.feature_expr.specs.Satisfaction.{satisfies}
use Rattle.query_typing.proofs.BuildLaws.{three_added}
use Rattle.query_typing.proofs.cond_cases.add_comparison.Goals as goal

pub returns : goal.returns
returns c = λ d. three_added (satisfies d c.args.path.now) _ _ _ _ _ _ _ (c.in_ok-add_absent_operand.ensures d) (c.in_ok-add_absent_operand-2.ensures d) (c.in_ok-add_kinds_differ.ensures d)
