use Rattle.std.proofs.Common.{◌∙◌}
use Rattle.write_counts.proofs.ColumnLaws.{some_more}
use Rattle.write_counts.proofs.columns.some_column.Goals as goal

pub loop-column-preserved : goal.loop-column-preserved
loop-column-preserved c = λ d.
    c.in_ok-some.ensures.meaning d
    ∙ some_more d c.args.columns.now c.loop-column.column-index c.column-item.result c.loop-column.some c.in_ok-cond.cond c.loop-column-test.true c.column-item.is c.in_ok-cond.ensures (c.loop-column.invariant d)
