use Rattle.std.proofs.Common.{◌≡◌, map, take}
use Rattle.commit_changes.specs.Stored.{no_change}
use Rattle.commit_changes.proofs.pending.no_changes.Given as goal

abbrev pub invariant-loop-rows : goal.invariant-loop-rows
invariant-loop-rows l = l.changes.items ≡ map no_change (take l.rows-index l.newest)
