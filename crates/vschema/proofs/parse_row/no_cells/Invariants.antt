use Rattle.std.proofs.Common.{◌≡◌, take}
use Rattle.vschema.specs.Spelling.{no_cells}
use Rattle.vschema.proofs.parse_row.no_cells.Given as goal

abbrev pub invariant-cells : goal.invariant-cells
invariant-cells l = l.cells.items ≡ no_cells (take l._column-index l.columns)
