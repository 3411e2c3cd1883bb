use Rattle.std.proofs.Common.{◌≡◌, length, fold}
use Rattle.plan_tables.specs.Tables.{heading, column_cond, with_column_cond}
use Rattle.plan_tables.proofs.settle.column_cond.Given as goal

abbrev pub decreases-loop-column : goal.decreases-loop-column
decreases-loop-column l = length l.columns

abbrev pub invariant-loop-column : goal.invariant-loop-column
invariant-loop-column l = fold (with_column_cond (heading l.key)) l.out l.columns ≡ column_cond (heading l.key) l.fn.columns
