use Rattle.std.proofs.Common.{◌≡◌}
use Rattle.write_meaning.specs.RowWrites.{holding}
use Rattle.row_writes.proofs.there.present_rows.Given as goal

abbrev pub invariant-loop-row : goal.invariant-loop-row
invariant-loop-row l = (l.questions ≡ l.fn.questions) × (l.present.items ≡ holding l.fn.questions l.table l.yielded)
