use Rattle.std.proofs.Common.{◌≡◌, ◌+◌, ◌<◌, ◌≤◌, ◌^◌, ◌++◌, length, vec_capacity}
use Rattle.row_versions.specs.Marks.{begun_marks}
use Rattle.row_versions.proofs.newest.add_marks.Given as goal

abbrev pub decreases-loop-row : goal.decreases-loop-row
decreases-loop-row l = length l.rows

-- the marks so far, with those of the rows that are left, are all, and there is room for them
abbrev pub invariant-loop-row : goal.invariant-loop-row
invariant-loop-row l =
    (l.marks.items ++ begun_marks l.number l.commit l.rows ≡ l.fn.marks.items ++ begun_marks l.fn.number l.commit l.fn.rows)
    × (l.number + length l.rows < 2 ^ 64) × (length l.marks.items + length l.rows ≤ vec_capacity l.marks)
