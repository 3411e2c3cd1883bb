use Rattle.std.proofs.Common.{◌≡◌, ◌+◌, ◌++◌, length}
use Rattle.row_versions.specs.Openings.{first_marks}
use Rattle.row_versions.specs.Stored.{row_count}
use Rattle.row_versions.proofs.opening.first_marks.Given as goal

abbrev pub decreases-loop-table : goal.decreases-loop-table
decreases-loop-table l = length l.tables

-- the marks so far, with those of the tables that are left, are all
abbrev pub invariant-loop-table : goal.invariant-loop-table
invariant-loop-table l = (l.all.items ++ first_marks l.number l.tables ≡ first_marks 0 l.fn.tables) × (l.number + row_count l.tables ≡ row_count l.fn.tables)
