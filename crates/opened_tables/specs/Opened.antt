-- The tables of a catalogue before any commit. A row that is there in no variant is left out.
use Rattle.std.specs.Prelude.{◌≡◌, List, [], ◌∷◌, ◌++◌}
use Rattle.feature_expr.specs.declared.expr.Expr.{Expr}
use Rattle.plan_tables.specs.declared.rows.TableRows.{TableRows}
use Rattle.query_answers.specs.Openings.{opening_tables}
use Rattle.vschema.specs.declared.catalog.OpeningRow.{OpeningRow}
use Rattle.vschema.specs.declared.catalog.Table.{Table}
use Rattle.write_meaning.specs.RowWrites.{holding}

abbrev pub present : Expr → Table → TableRows → TableRows
present model table it = record { table = it.table; rows = record { columns = it.rows.columns; rows = holding model table it.rows.rows } }

abbrev pub present_tables : Expr → List Table → List TableRows → List TableRows
present_tables model [] all = []
present_tables model (table ∷ tables) [] = []
present_tables model (table ∷ tables) (it ∷ all) = present model table it ∷ present_tables model tables all

abbrev pub opened_tables : Expr → List Table → List OpeningRow → List TableRows
opened_tables model tables rows = present_tables model tables (opening_tables tables rows)

-- the first table was added, and the rest are left
pub record PutsNext (model : Expr) (tables : List Table) (it : TableRows) (old : List TableRows) (left : List Table) (new : List TableRows) : Type 0 where
  pub on : (rest : List TableRows) → new ++ present_tables model left rest ≡ old ++ present_tables model tables (it ∷ rest)

-- the tables so far, and those that are left, are all
pub record IsSoFar (model : Expr) (tables left : List Table) (yielded so_far : List TableRows) : Type 0 where
  pub on : (rest : List TableRows) → so_far ++ present_tables model left rest ≡ present_tables model tables (yielded ++ rest)
