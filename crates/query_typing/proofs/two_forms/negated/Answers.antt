use Rattle.std.proofs.Common.{ap, not, ◌∙◌}
use Rattle.feature_expr.specs.Satisfaction.{satisfies}
use Rattle.query_typing.proofs.two_forms.negated.Goals as goal

pub returns-clause-holds : goal.returns-clause-holds
returns-clause-holds c = λ d. c.in_ok-other.ensures.meaning d ∙ ap (λ x. not (satisfies d x)) c.in_ok-expr.ensures
