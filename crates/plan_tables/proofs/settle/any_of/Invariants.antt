use Rattle.std.proofs.Common.{◌≡◌, length, fold}
use Rattle.plan_tables.specs.Tables.{any_of, or_once}
use Rattle.vtable.specs.declared.table.VColumn.{VColumn}
use Rattle.plan_tables.proofs.settle.any_of.Given as goal

abbrev pub decreases-loop-column : goal.decreases-loop-column
decreases-loop-column l = length l.columns

abbrev pub invariant-loop-column : goal.invariant-loop-column
invariant-loop-column l = fold (λ out (column : VColumn). or_once out column.cond) l.out l.columns ≡ any_of l.fn.columns
