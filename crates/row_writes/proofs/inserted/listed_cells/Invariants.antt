use Rattle.std.proofs.Common.{◌≡◌, map, take}
use Rattle.query_meaning.specs.WriteTyping.{assignments_of}
use Rattle.vschema.specs.Variants.{bare_name}
use Rattle.vschema.specs.declared.catalog.Column.{Column}
use Rattle.write_meaning.specs.PlainWrites.{assigned}
use Rattle.row_writes.proofs.inserted.listed_cells.Given as goal

abbrev pub invariant-loop-column : goal.invariant-loop-column
invariant-loop-column l = l.cells.items ≡ map (λ (column : Column). assigned (assignments_of l.names l.values) (bare_name column.name)) (take l.column-index l.columns)
