use Rattle.std.proofs.Common.{◌≡◌, ◌+◌, ◌<◌, ◌^◌, length}
use Rattle.row_versions.specs.Waiting.{ends_count}
use Rattle.version_changes.specs.Changes.{begun_count}
use Rattle.row_versions.proofs.counting.counted.Given as goal

abbrev pub decreases-loop-change : goal.decreases-loop-change
decreases-loop-change l = length l.changes

-- what is counted so far, with the changes that are left, is all
abbrev pub invariant-loop-change : goal.invariant-loop-change
invariant-loop-change l =
    (l.ends + ends_count l.changes ≡ ends_count l.fn.changes) × (l.number + begun_count l.changes ≡ l.next + begun_count l.fn.changes) × (l.number < 2 ^ 64)
