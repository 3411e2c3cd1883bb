use Rattle.plan_tables.specs.Tables.{row_laid}
use Rattle.plan_tables.proofs.LoopLaws.{moved_behind}
use Rattle.plan_tables.proofs.lay.move_rows.Goals as goal

pub loop-row-preserved : goal.loop-row-preserved
loop-row-preserved c = moved_behind (row_laid c.args.to.now c.args.columns.now c.args.cond.now) c.loop-row.yielded c.in-Some.row _ _ _ c.loop-row.invariant c.in_ok-move_row.ensures
