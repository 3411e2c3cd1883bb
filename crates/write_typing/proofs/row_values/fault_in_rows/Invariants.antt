use Rattle.std.proofs.Common.{◌≡◌, drop, map}
use Rattle.std.specs.List.{flat_map}
use Rattle.write_typing.specs.Values.{row_check, seat}
use Rattle.write_typing.proofs.row_values.fault_in_rows.Given as goal

abbrev pub invariant-loop-row : goal.invariant-loop-row
invariant-loop-row l = flat_map (row_check l.check l.kinds (map seat l.places)) (drop l.row-index l.rows) ≡ flat_map (row_check l.check l.kinds (map seat l.places)) l.rows
