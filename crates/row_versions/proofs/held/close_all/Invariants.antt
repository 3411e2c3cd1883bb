use Rattle.std.proofs.Common.{◌≡◌, length}
use Rattle.row_versions.specs.Changing.{AreWithin}
use Rattle.row_versions.specs.Waiting.{changes_of, marks_back, tables_back}
use Rattle.row_versions.proofs.held.close_all.Given as goal

abbrev pub decreases-loop-one : goal.decreases-loop-one
decreases-loop-one l = length l.waiting.items

-- with those that are left put back, all are as they were
abbrev pub invariant-loop-one : goal.invariant-loop-one
invariant-loop-one l =
    (tables_back l.waiting.items l.held.tables.items ≡ tables_back l.fn.waiting.items l.fn.held.tables.items) × (marks_back l.waiting.items l.held.marks.items ≡ marks_back l.fn.waiting.items l.fn.held.marks.items)
    × AreWithin (length l.held.tables.items) (changes_of l.waiting.items) × (length l.held.marks.items ≡ length l.held.tables.items) × (l.held.ended ≡ l.fn.held.ended) × (l.held.next ≡ l.fn.held.next)
