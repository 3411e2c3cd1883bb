use Rattle.std.proofs.Common.{◌≡◌, length}
use Rattle.row_versions.specs.Seeing.{put_all}
use Rattle.row_versions.proofs.seen.put_seen.Given as goal

abbrev pub decreases-loop-last : goal.decreases-loop-last
decreases-loop-last l = length l.ended

-- those that are left, put into the rows so far, are all of them put into the first rows
abbrev pub invariant-loop-last : goal.invariant-loop-last
invariant-loop-last l = put_all l.seen l.table l.ended l.rows.items ≡ put_all l.seen l.table l.fn.ended l.fn.rows.items
