use Rattle.std.proofs.Common.{sym, ◌∙◌, refl, arith}
use Rattle.std.proofs.lemmas.List.{length-set}
use Rattle.vschema.specs.Spelling.{no_cell_yet, another_cell}
use Rattle.vschema.proofs.EntryLaws.{no_cells_length}
use Rattle.vschema.proofs.parse_row.parse_cells.Goals as goal

pub cells-init : goal.cells-init
cells-init c = record {
  order = omega arith;
  within = c.requires.within;
  lengths = rw c.in_ok-cells.ensures (no_cells_length c.args.columns.now);
  before = rw c.in_ok-cells.ensures no_cell_yet;
}

pub cells-preserved : goal.cells-preserved
cells-preserved c = record {
  order = omega (arith, c.cells.invariant.order);
  within = omega (arith, c.if-not-stands.ensures.within refl);
  lengths = length-set c.cells.cells.items c.in_ok-place.place _ ∙ c.cells.invariant.lengths;
  before = another_cell c.cells.cells.items c.cells.at c.in_ok-place.place c.in_ok-place.value c.cells.invariant.before (rw c.as_slice.ensures.value at c.in_ok-place.ensures.spelled) (sym c.if-not-stands.ensures.exact);
}
