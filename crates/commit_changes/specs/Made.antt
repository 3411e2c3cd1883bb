-- A write, made in the change of the table that it names.
use Rattle.std.specs.Prelude.{ℕ, ◌≡◌, List, length, set, Option, Some, None, slice_get}
use Rattle.feature_expr.specs.declared.expr.Expr.{Expr}
use Rattle.plan_tables.specs.declared.rows.TableRows.{TableRows}
use Rattle.query_meaning.specs.Sources.{number_of}
use Rattle.query_meaning.specs.WriteTyping.{table_name_of}
use Rattle.table_changes.specs.Changes.{ArePlaces, after_change}
use Rattle.table_changes.specs.declared.change.TableChange.{TableChange}
use Rattle.vra_syntax.specs.declared.write.Write.{Write}
use Rattle.vschema.specs.declared.catalog.Table.{Table}
use Rattle.vtable.specs.declared.table.VRow.{VRow}
use Rattle.write_meaning.specs.RowWrites.{IsRowWrite}

-- What the new change makes of the rows is what the write makes of those after the old one.
pub record IsMade (model : Expr) (table : Table) (w : Write) (rows : List VRow) (old new : TableChange) : Type 0 where
  pub same_table : new.table ≡ old.table
  pub places : ArePlaces 0 (length rows) old.ends → ArePlaces 0 (length rows) new.ends
  pub written : IsRowWrite model table w (after_change old rows) (after_change new rows)

-- the change at the place is the new one
pub record MadeAt (model : Expr) (w : Write) (place : ℕ) (table : Table) (rows : TableRows) (old : TableChange) (pending pending' : List TableChange) : Type 0 where
  pub change : TableChange
  pub made : IsMade model table w rows.rows.rows old change
  pub set_is : pending' ≡ set pending place change

-- where there is no such table nothing changes
abbrev pub IsWrittenAt : Expr → Write → ℕ → Option Table → Option TableRows → Option TableChange → List TableChange → List TableChange → Type 0
IsWrittenAt model w place None rows old pending pending' = pending' ≡ pending
IsWrittenAt model w place (Some table) None old pending pending' = pending' ≡ pending
IsWrittenAt model w place (Some table) (Some rows) None pending pending' = pending' ≡ pending
IsWrittenAt model w place (Some table) (Some rows) (Some old) pending pending' = MadeAt model w place table rows old pending pending'

abbrev pub WrittenBy : Expr → List Table → List TableRows → Write → Option ℕ → List TableChange → List TableChange → Type 0
WrittenBy model tables newest w None pending pending' = pending' ≡ pending
WrittenBy model tables newest w (Some place) pending pending' = IsWrittenAt model w place (slice_get tables place) (slice_get newest place) (slice_get pending place) pending pending'

abbrev pub IsWritten : Expr → List Table → List TableRows → Write → List TableChange → List TableChange → Type 0
IsWritten model tables newest w pending pending' = WrittenBy model tables newest w (number_of tables (table_name_of w)) pending pending'
