-- The rows of a catalogue's tables are such sources as the tables are.
use Rattle.std.proofs.Common.{◌≡◌, ◌∙◌, ℕ, List, [], ◌∷◌, map, Option, Some, None, refl, ap, ap₂}
use Rattle.std.proofs.Math.Path.{fun_ext}
use Rattle.std.specs.Prelude.{option_map, slice_get}
use Rattle.plain_relation.specs.Relations.{Column, Relation, columns_of, relation_with}
use Rattle.plain_relation.specs.Relations as plain
use Rattle.plan_tables.specs.StoredRows.{database_of, relation_by, rows_of, rows_source, source_by}
use Rattle.plan_tables.specs.Tables.{heading}
use Rattle.plan_tables.specs.declared.rows.TableRows.{TableRows}
use Rattle.query_meaning.specs.Meaning.{HasColumns}
use Rattle.query_meaning.specs.Sources.{Source, catalog_source, source_of, table_column, table_source}
use Rattle.vschema.specs.declared.catalog.Column as catalog
use Rattle.vschema.specs.declared.catalog.Table.{Table}
use Rattle.vtable.specs.Answers.{answer_at, column_at, places_at}
use Rattle.vtable.specs.declared.table.VColumn.{VColumn}
use Rattle.vtable.specs.declared.table.VTable.{VTable}
use Rattle.query_answers.proofs.ScanLaws.{columns_same}
use Rattle.query_answers.specs.Held.{HoldsTables, held_column, held_columns}

made_source : List Column → (List ℕ → List Column) → Source
made_source possible columns = record { possible = possible; columns_at = columns }

held_headings : (table : Table) (columns : List catalog.Column) → map heading (map (held_column table) columns) ≡ map table_column columns
held_headings table [] = refl
held_headings table (k ∷ ks) = ap (λ xs. table_column k ∷ xs) (held_headings table ks)

abbrev source_from : List VColumn → Source
source_from columns = record { possible = map heading columns; columns_at = λ c. columns_of (map (column_at c) columns) }

table_same : (table : Table) → source_from (held_columns table) ≡ table_source table
unfolding made_source
table_same table = ap₂ made_source (held_headings table table.columns) (fun_ext (λ c. ap columns_of (columns_same c table table.columns)))

source_same : (table : Option Table) (held : Option TableRows) → option_map (λ (rows : TableRows). rows.rows.columns) held ≡ option_map held_columns table → source_by held ≡ source_of table
source_same None None is = refl
source_same None (Some rows) is = absurd (cc is)
source_same (Some table) None is = absurd (cc is)
source_same (Some table) (Some rows) is = let columns : rows.rows.columns ≡ held_columns table = cc is in ap source_from columns ∙ table_same table

pub same_sources : (tables : List Table) (rows : List TableRows) → HoldsTables tables rows → rows_source rows ≡ catalog_source tables
same_sources tables rows holds = fun_ext (λ number. source_same (slice_get tables number) (rows_of rows number) (holds.columns number))

with_columns : (columns : List Column) (rows : List (List plain.Cell)) → (relation_with columns rows).columns ≡ columns
with_columns [] rows = refl
with_columns (k ∷ ks) rows = refl

-- an answer's columns are those that are there
pub answer_columns : (c : List ℕ) (table : VTable) → (answer_at c table).columns ≡ columns_of (places_at c table)
answer_columns c table = with_columns (columns_of (places_at c table)) _

relation_columns : (c : List ℕ) (held : Option TableRows) → (relation_by c held).columns ≡ (source_by held).columns_at c
relation_columns c None = refl
relation_columns c (Some rows) = answer_columns c rows.rows

-- the database of these rows has the tables' columns
pub database_columns : (c : List ℕ) (tables : List Table) (rows : List TableRows) → HoldsTables tables rows → HasColumns c (catalog_source tables) (database_of rows c)
database_columns c tables rows holds number = relation_columns c (rows_of rows number) ∙ ap (λ (sources : ℕ → Source). (sources number).columns_at c) (same_sources tables rows holds)
