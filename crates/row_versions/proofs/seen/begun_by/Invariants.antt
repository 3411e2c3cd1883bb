use Rattle.std.proofs.Common.{◌≡◌, ◌++◌, length}
use Rattle.row_versions.specs.Seeing.{seen_newest}
use Rattle.row_versions.proofs.seen.begun_by.Given as goal

abbrev pub decreases-loop-mark : goal.decreases-loop-mark
decreases-loop-mark l = length l.marks

-- what is seen so far, with what is seen of the rows that are left, is what is seen of all
abbrev pub invariant-loop-mark : goal.invariant-loop-mark
invariant-loop-mark l = l.out.items ++ seen_newest l.seen l.marks l.rows ≡ seen_newest l.seen l.fn.marks l.fn.rows
