use Rattle.std.proofs.Common.{◌≡◌, ◌++◌, length, vec_capacity}
use Rattle.std.specs.VecDeque.{deque_capacity}
use Rattle.row_versions.proofs.PartLaws.{IsParting}
use Rattle.row_versions.specs.Marks.{marks_without, rows_ended}
use Rattle.table_changes.specs.Changes.{rows_without}
use Rattle.row_versions.proofs.part.part.Given as goal

abbrev pub decreases-loop-row : goal.decreases-loop-row
decreases-loop-row l = length l.rows.items

-- what is kept and ended so far, with what is left of both, are all
abbrev pub invariant-loop-row : goal.invariant-loop-row
invariant-loop-row l =
    IsParting l.commit l.table l.place (length l.fn.newest.rows.items) l.left l.rows.items l.marks.items l.kept.rows.items l.kept.marks.items l.ended.items
    (rows_without 0 l.fn.ends l.fn.newest.rows.items) (marks_without 0 l.fn.ends l.fn.newest.marks.items)
    (l.fn.ended.items ++ rows_ended l.commit l.table 0 l.fn.ends l.fn.newest.marks.items l.fn.newest.rows.items)
    (vec_capacity l.fn.kept.rows) (vec_capacity l.fn.kept.marks) (deque_capacity l.fn.ended)
    × (vec_capacity l.kept.rows ≡ vec_capacity l.fn.kept.rows) × (vec_capacity l.kept.marks ≡ vec_capacity l.fn.kept.marks) × (deque_capacity l.ended ≡ deque_capacity l.fn.ended)
