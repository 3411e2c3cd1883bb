use Rattle.std.proofs.Common.{◌≡◌, length}
use Rattle.stored_versions.specs.Conflicts.{first_table}
use Rattle.commit_conflicts.proofs.tables.first_table.Given as goal

-- the first table of what is left is that of all
abbrev pub invariant-loop-write : goal.invariant-loop-write
invariant-loop-write l = first_table l.writes l.commit ≡ first_table l.fn.writes l.commit

abbrev pub decreases-loop-write : goal.decreases-loop-write
decreases-loop-write l = length l.writes
