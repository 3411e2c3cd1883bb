use Rattle.std.proofs.Common.{◌++◌, ap, ap₂, ◌∙◌}
use Rattle.std.specs.Option.{option_to_list}
use Rattle.feature_expr.specs.Expressions.{and_of, not_of}
use Rattle.plan_operators.specs.Operators.{matching}
use Rattle.plan_tables.specs.Tables.{row_under}
use Rattle.row_conditions.specs.Truths.{slots_of}
use Rattle.plan_operators.proofs.except.put_without.Goals as goal

pub returns : goal.returns
returns c =
    c.in_ok-put_copied.ensures
    ∙ ap (λ cond. c.args.out.now.items ++ option_to_list (row_under c.args.row.now.cells cond)) (
    c.in_ok-cond.ensures.folded
    ∙ ap₂ and_of c.in_ok-here.ensures (
    c.in_ok-lacked.ensures.folded
    ∙ ap not_of (
    c.in_ok-found-2.ensures.folded
    ∙ ap₂ and_of (c.in_ok-there.ensures ∙ c.requires.there) (c.in_ok-found.ensures ∙ ap (λ cells. matching (slots_of c.args.columns.now cells) c.args.right.now) c.as_slice.ensures))))
