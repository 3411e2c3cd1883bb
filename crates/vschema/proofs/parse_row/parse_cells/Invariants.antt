use Rattle.std.proofs.Common.{◌-◌, ◌≤◌, ◌≡◌, length}
use Rattle.vschema.specs.Spelling.{CellsBefore}
use Rattle.vschema.proofs.parse_row.parse_cells.Given as goal

abbrev pub invariant-cells : goal.invariant-cells
invariant-cells l = record {
  order : l.from ≤ l.at;
  within : l.at ≤ length l.reading.tokens.now;
  lengths : length l.cells.items ≡ length l.columns;
  before : CellsBefore l.reading.text.now l.reading.tokens.now l.columns l.from l.cells.items l.at;
}

abbrev pub decreases-cells : goal.decreases-cells
decreases-cells l = length l.reading.tokens.now - l.at
