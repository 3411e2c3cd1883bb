use Rattle.std.proofs.Common.{◌≡◌, ◌++◌, length}
use Rattle.stored_versions.specs.Logs.{taken_from}
use Rattle.counting_writes.proofs.counting.counting_writes.Given as goal

-- those so far, and of the writes that are left those that count
abbrev pub invariant-loop-write : goal.invariant-loop-write
invariant-loop-write l =
    (l.questions ≡ l.fn.questions)
    × (l.counting.items ++ taken_from l.catalog l.writes ≡ taken_from l.catalog l.fn.writes)

abbrev pub decreases-loop-write : goal.decreases-loop-write
decreases-loop-write l = length l.writes
