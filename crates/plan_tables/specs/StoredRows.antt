-- Stored tables by their numbers, with their rows: what they are in a variant, and how large.
use Rattle.std.specs.Prelude.{ℕ, ◌≡◌, ◌==◌, true, List, map, length, find, Option, Some, None, ◌||◌, Bool, not, ◌&&◌, [], ◌∷◌}
use Rattle.condition_sat.specs.Admitted.{IsAdmitted}
use Rattle.std.specs.List.{list_any}
use Rattle.feature_expr.specs.Expressions.{mentions}
use Rattle.feature_expr.specs.declared.expr.Expr.{Expr}
use Rattle.plain_relation.specs.Relations.{Relation, absent, columns_of}
use Rattle.vtable.specs.Answers.{answer_at, places_at, IsAnswerAt}
use Rattle.vtable.specs.TableForm.{rows_weight, columns_are_distinct}
use Rattle.vtable.specs.declared.table.VColumn.{VColumn}
use Rattle.vtable.specs.declared.table.VRow.{VRow}
use Rattle.vtable.specs.declared.table.VTable.{VTable}
use Rattle.query_meaning.specs.Bounds.{Size, no_size}
use Rattle.query_meaning.specs.Plans.{has_number}
use Rattle.row_conditions.specs.RowConditions.{columns_weight}
use Rattle.query_meaning.specs.Sources.{Source, no_source}
use Rattle.plan_tables.specs.declared.rows.TableRows.{TableRows}
use Rattle.plan_tables.specs.Tables.{heading}

-- the rows handed in for the table with a number
abbrev pub rows_of : List TableRows → ℕ → Option TableRows
rows_of tables number = find (λ (table : TableRows). table.table == number) tables

abbrev pub source_by : Option TableRows → Source
source_by None = no_source
source_by (Some table) = record { possible = map heading table.rows.columns; columns_at = λ c. columns_of (places_at c table.rows) }

abbrev pub rows_source : List TableRows → ℕ → Source
rows_source tables number = source_by (rows_of tables number)

abbrev pub relation_by : List ℕ → Option TableRows → Relation
relation_by c None = absent
relation_by c (Some table) = answer_at c table.rows

-- the variant's database: each table that was handed in, configured
abbrev pub database_of : List TableRows → List ℕ → ℕ → Relation
database_of tables c number = relation_by c (rows_of tables number)

abbrev pub size_of : VTable → Size
size_of table = record { rows = length table.rows; row_weight = rows_weight table.rows; column_weight = columns_weight table.columns }

abbrev pub size_by : Option TableRows → Size
size_by None = no_size
size_by (Some table) = size_of table.rows

abbrev pub rows_size : List TableRows → ℕ → Size
rows_size tables number = size_by (rows_of tables number)

-- a table that can be handed in: each pair of name and kind stands once among its columns, and it is well formed in each
-- admitted variant
pub record IsStored (model : Expr) (table : VTable) : Type 0 where
  pub distinct : columns_are_distinct table.columns ≡ true
  pub formed : (c : List ℕ) → IsAdmitted model c → IsAnswerAt c table

abbrev pub table_numbers : List TableRows → List ℕ
table_numbers tables = map (λ (table : TableRows). table.table) tables

abbrev pub are_distinct : List ℕ → Bool
are_distinct [] = true
are_distinct (number ∷ numbers) = not (has_number number numbers) && are_distinct numbers

abbrev pub column_mentions : ℕ → VColumn → Bool
column_mentions feature column = mentions feature column.cond

abbrev pub row_mentions : ℕ → VRow → Bool
row_mentions feature row = mentions feature row.cond

abbrev pub table_mentions : ℕ → VTable → Bool
table_mentions feature table = list_any (column_mentions feature) table.columns || list_any (row_mentions feature) table.rows

abbrev pub tables_mention : ℕ → List TableRows → Bool
tables_mention feature tables = list_any (λ (table : TableRows). table_mentions feature table.rows) tables
