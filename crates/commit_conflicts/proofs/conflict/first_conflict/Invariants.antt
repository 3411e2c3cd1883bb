use Rattle.std.proofs.Common.{◌≡◌, ◌+◌, drop}
use Rattle.stored_versions.specs.Conflicts.{conflict_from}
use Rattle.commit_conflicts.proofs.conflict.first_conflict.Given as goal

-- the first conflict among the commits that are left is that of all past the snapshot
abbrev pub invariant-loop-place : goal.invariant-loop-place
invariant-loop-place g l =
    let seen = (g.K.Keeper.kept l.keeper).seen in
    conflict_from (l.place + 1) (drop l.place seen) l.writes ≡ conflict_from (l.base + 1) (drop l.base seen) l.writes
