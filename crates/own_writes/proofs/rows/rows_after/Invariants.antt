use Rattle.std.proofs.Common.{◌≡◌, List, length}
use Rattle.own_writes.specs.Carried.{Carries}
use Rattle.own_writes.proofs.rows.rows_after.Given as goal
use Rattle.vtable.specs.declared.table.VRow.{VRow}

-- what the writes that are left make of the rows so far is what all make of the first ones
abbrev pub invariant-loop-write : goal.invariant-loop-write
invariant-loop-write l =
    (l.questions ≡ l.fn.questions)
    × ((end : List VRow) → Carries l.fn.questions l.tables.tables.now l.number l.table l.writes l.rows end → Carries l.fn.questions l.tables.tables.now l.number l.table l.fn.writes l.fn.rows end)

abbrev pub decreases-loop-write : goal.decreases-loop-write
decreases-loop-write l = length l.writes
