use Rattle.std.proofs.Common.{◌≡◌, [], List, length}
use Rattle.commit_changes.specs.Carried.{CarriesEach}
use Rattle.commit_changes.specs.Stored.{ArePending}
use Rattle.commit_changes.proofs.changes.pending_changes.Given as goal
use Rattle.table_changes.specs.declared.change.TableChange.{TableChange}

-- what the writes that are left make of the rows so far is what all make of the newest ones
abbrev pub invariant-loop-write : goal.invariant-loop-write
invariant-loop-write l =
    (l.questions ≡ l.fn.questions)
    × ArePending 0 l.newest l.pending.items
    × ((end : List TableChange) → CarriesEach l.fn.questions l.tables.tables.now l.writes l.newest l.pending.items end → CarriesEach l.fn.questions l.tables.tables.now l.fn.writes l.newest [] end)

abbrev pub decreases-loop-write : goal.decreases-loop-write
decreases-loop-write l = length l.writes
