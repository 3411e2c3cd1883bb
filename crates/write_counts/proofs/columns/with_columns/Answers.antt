use Rattle.std.proofs.Common.{◌∙◌, ◌&&◌, ap, ap₂}
use Rattle.std.specs.List.{list_any}
use Rattle.feature_expr.specs.Satisfaction.{satisfies}
use Rattle.vschema.specs.Gaps.{is_column_there}
use Rattle.write_counts.proofs.columns.with_columns.Goals as goal

pub returns : goal.returns
returns c = λ d. c.in_ok-narrowed.ensures.meaning d ∙ ap₂ (λ a b. a && b) (ap (satisfies d) c.in_ok-expr.ensures) (c.in_ok-some.ensures d ∙ ap (list_any (is_column_there d)) c.as_slice.ensures)
