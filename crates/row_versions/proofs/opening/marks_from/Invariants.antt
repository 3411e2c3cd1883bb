use Rattle.std.proofs.Common.{◌≡◌, ◌+◌, ◌++◌, length}
use Rattle.row_versions.specs.Openings.{marks_from}
use Rattle.row_versions.proofs.opening.marks_from.Given as goal

abbrev pub decreases-loop-row : goal.decreases-loop-row
decreases-loop-row l = length l.rows

-- the marks so far, with those of the rows that are left, are all
abbrev pub invariant-loop-row : goal.invariant-loop-row
invariant-loop-row l = (l.marks.items ++ marks_from l.number l.rows ≡ marks_from l.fn.number l.fn.rows) × (l.number + length l.rows ≡ l.fn.number + length l.fn.rows)
