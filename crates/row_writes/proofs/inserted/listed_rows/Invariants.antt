use Rattle.std.proofs.Common.{◌≡◌, map, take}
use Rattle.write_meaning.specs.RowWrites.{inserted_row}
use Rattle.row_writes.proofs.inserted.listed_rows.Given as goal

abbrev pub invariant-loop-values : goal.invariant-loop-values
invariant-loop-values l = l.out.items ≡ map (inserted_row l.table l.names l.expr) (take l.values-index l.rows)
