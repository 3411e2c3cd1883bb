use Rattle.std.proofs.Common.{◌≡◌, ◌+◌, length}
use Rattle.row_versions.specs.Stored.{row_count}
use Rattle.row_versions.proofs.count.row_count.Given as goal

abbrev pub decreases-loop-table : goal.decreases-loop-table
decreases-loop-table l = length l.tables

-- the rows so far, with those of the tables that are left, are all
abbrev pub invariant-loop-table : goal.invariant-loop-table
invariant-loop-table l = l.count + row_count l.tables ≡ row_count l.fn.tables
