use Rattle.std.proofs.Common.{◌≡◌, length}
use Rattle.plan_exec.specs.RunTables.{table_by}
use Rattle.plan_tables.specs.StoredRows.{rows_of}
use Rattle.plan_exec.proofs.plan_run.copied_table.Given as goal

abbrev pub decreases-loop-table : goal.decreases-loop-table
decreases-loop-table l = length l.tables

abbrev pub invariant-loop-table : goal.invariant-loop-table
invariant-loop-table l = table_by (rows_of l.tables l.number) ≡ table_by (rows_of l.fn.tables l.number)
