use Rattle.std.proofs.Common.{◌≡◌, ◌++◌, length}
use Rattle.row_versions.specs.Changing.{AreWithin}
use Rattle.row_versions.specs.Waiting.{AreAlike, HaveRoom, changes_of, marks_back, tables_back}
use Rattle.row_versions.proofs.held.open_all.Given as goal

abbrev pub decreases-loop-change : goal.decreases-loop-change
decreases-loop-change l = length l.changes

-- what is taken out can be put back, and is of the changes behind those that are left
abbrev pub invariant-loop-change : goal.invariant-loop-change
invariant-loop-change l =
    (tables_back l.waiting.items l.held.tables.items ≡ l.fn.held.tables.items) × (marks_back l.waiting.items l.held.marks.items ≡ l.fn.held.marks.items)
    × (length l.held.tables.items ≡ length l.fn.held.tables.items) × (length l.held.marks.items ≡ length l.fn.held.tables.items)
    × AreAlike l.held.marks.items l.held.tables.items × AreWithin (length l.fn.held.tables.items) l.changes × AreWithin (length l.fn.held.tables.items) (changes_of l.waiting.items)
    × (l.changes ++ changes_of l.waiting.items ≡ l.fn.changes) × HaveRoom l.waiting.items × (l.held.ended ≡ l.fn.held.ended) × (l.held.next ≡ l.fn.held.next)
