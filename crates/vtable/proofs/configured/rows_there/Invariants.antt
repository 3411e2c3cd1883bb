use Rattle.std.proofs.Common.{◌≡◌, map, take}
use Rattle.std.specs.List.{filter_map}
use Rattle.vtable.specs.Configured.{row_there}
use Rattle.vtable.specs.Passes.{table_row}
use Rattle.vtable.proofs.configured.rows_there.Given as goal

abbrev pub invariant-loop-row : goal.invariant-loop-row
invariant-loop-row l = map table_row l.there.items ≡ filter_map (row_there l.config l.fates) (take l.row-index l.rows)
