use Rattle.std.proofs.Common.{◌++◌, ap, ap₂, ◌∙◌}
use Rattle.std.specs.Option.{option_to_list}
use Rattle.feature_expr.specs.Expressions.{and_of}
use Rattle.plan_tables.specs.Tables.{row_under}
use Rattle.row_conditions.specs.Truths.{slots_of, truth_of}
use Rattle.plan_operators.proofs.CodeLaws.{row_nowhere}
use Rattle.plan_operators.proofs.filter.put_meeting.Goals as goal

pub returns : goal.returns
returns c =
    c.in_ok-put_copied.ensures
    ∙ ap (λ cond. c.args.out.now.items ++ option_to_list (row_under c.args.row.now.cells cond)) (
    c.in_ok-both.ensures.folded
    ∙ ap₂ and_of c.in_ok-here.ensures (c.in_ok-truth.ensures ∙ ap (λ cells. truth_of (slots_of c.args.columns.now cells) c.args.cond.now) c.as_slice.ensures))

pub returns-then-is_false : goal.returns-then-is_false
returns-then-is_false c =
    row_nowhere c.args.cond.now c.args.columns.now c.args.row.now c.args.out.now.items c.in_ok-truth.truth c.as_slice.result.now c.is_false.result
    c.in_ok-truth.ensures c.as_slice.ensures c.is_false.ensures c.if-is_false.true
