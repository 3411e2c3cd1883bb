use Rattle.std.proofs.Common.{◌≡◌}
use Rattle.commit_changes.specs.Ends.{AddsWritten}
use Rattle.commit_changes.proofs.written.staying_rows.Given as goal

abbrev pub invariant-loop-row : goal.invariant-loop-row
invariant-loop-row l = (l.questions ≡ l.fn.questions) × AddsWritten l.fn.questions l.table l.write l.yielded l.stay.items l.fn.begins.items l.begins.items
