use Rattle.std.proofs.Common.{◌≡◌}
use Rattle.row_writes.specs.Made.{AreWritten}
use Rattle.row_writes.proofs.written.staying_rows.Given as goal

abbrev pub invariant-loop-row : goal.invariant-loop-row
invariant-loop-row l = (l.questions ≡ l.fn.questions) × AreWritten l.fn.questions l.table l.write l.yielded l.stay.items l.begun.items
