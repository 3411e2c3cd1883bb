use Rattle.std.proofs.Common.{ap, ◌∙◌}
use Rattle.feature_expr.specs.Satisfaction.{satisfies}
use Rattle.query_meaning.specs.Typing.{columns_at}
use Rattle.query_typing.proofs.SideLaws.{chosen_there}
use Rattle.query_typing.proofs.two_forms.chosen_columns.Goals as goal

pub returns-clause-there : goal.returns-clause-there
returns-clause-there c = λ d. ap (columns_at d) c.from_vec.ensures ∙ chosen_there (columns_at d c.args.left.now) (columns_at d c.args.right.now) (satisfies d c.args.expr.now) _ _ _ _ (c.in_ok-other.ensures.holds d) (ap (columns_at d) c.new-all.ensures.items) (c.in_ok-add_where.ensures.there d) (c.in_ok-add_where-2.ensures.there d)
