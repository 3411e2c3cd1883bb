-- The number in the tag of a write, over the rows of its table.
use Rattle.std.specs.Prelude.{ℕ, ◌≡◌, Bool, true, false, List, Some, slice_get}
use Rattle.vra_syntax.specs.declared.write.Write.{Write}
use Rattle.vra_syntax.specs.declared.write.Write.TheVariants as write
use Rattle.vschema.specs.declared.catalog.Catalog.{Catalog}
use Rattle.vschema.specs.declared.catalog.Table.{Table}
use Rattle.vtable.specs.declared.table.VRow.{VRow}
use Rattle.write_counts.specs.Counts.{IsCountOver}

abbrev pub is_insert : Write → Bool
is_insert (write.Insert table names rows expr) = true
is_insert (write.Delete table cond expr) = false
is_insert (write.Update table items cond expr) = false

-- so many, where these are the rows of the table with this number
pub record IsCountOf (catalog : Catalog) (number : ℕ) (w : Write) (rows : List VRow) (count : ℕ) : Type 0 where
  pub over : (table : Table) → slice_get catalog.tables number ≡ Some table → IsCountOver catalog.model table w rows count
