-- The rows of a catalogue's tables before any commit, their sizes, and the answers from them.
use Rattle.std.specs.Prelude.{ℕ, suc, ◌+◌, Bool, List, [], ◌∷◌, filter, length, Option, Some, None, slice_get, if◌then◌else◌}
use Rattle.std.specs.List.{list_any}
use Rattle.feature_expr.specs.Expressions.{mentions, weight_of}
use Rattle.vra_syntax.specs.declared.query.Query.{Query}
use Rattle.vschema.specs.Variants.{opening_database}
use Rattle.vschema.specs.declared.catalog.Catalog.{Catalog}
use Rattle.vschema.specs.declared.catalog.OpeningRow.{OpeningRow}
use Rattle.vschema.specs.declared.catalog.Table.{Table}
use Rattle.vtable.specs.declared.table.VTable.{VTable}
use Rattle.query_meaning.specs.Bounds.{Size, no_size, table_column_weight}
use Rattle.query_meaning.specs.declared.typed.TypedColumn.{TypedColumn}
use Rattle.plan_tables.specs.declared.rows.TableRows.{TableRows}
use Rattle.query_answers.specs.Answers.{IsAnswerTo}
use Rattle.query_answers.specs.Scans.{is_of, scanned}

-- the tables from a number on, each with its opening rows
abbrev pub opening_from : ℕ → List Table → List OpeningRow → List TableRows
opening_from number [] rows = []
opening_from number (table ∷ tables) rows = record { table = number; rows = scanned number table rows } ∷ opening_from (suc number) tables rows

-- each table of the catalogue with its opening rows
abbrev pub opening_tables : List Table → List OpeningRow → List TableRows
opening_tables tables rows = opening_from 0 tables rows

abbrev pub row_count : ℕ → List OpeningRow → ℕ
row_count number rows = length (filter (is_of number) rows)

-- what the conditions of a table's opening rows weigh
abbrev pub row_weight : ℕ → List OpeningRow → ℕ
row_weight number [] = 0
row_weight number (row ∷ rows) = (if is_of number row then weight_of row.cond else 0) + row_weight number rows

abbrev pub opening_size : ℕ → List OpeningRow → Option Table → Size
opening_size number rows None = no_size
opening_size number rows (Some table) = record { rows = row_count number rows; row_weight = row_weight number rows; column_weight = table_column_weight table }

-- the sizes of the tables before any commit
abbrev pub opening_sizes : List Table → List OpeningRow → ℕ → Size
opening_sizes tables rows number = opening_size number rows (slice_get tables number)

-- whether a feature occurs in the condition of an opening row
abbrev pub openings_mention : List OpeningRow → ℕ → Bool
openings_mention rows feature = list_any (λ (row : OpeningRow). mentions feature row.cond) rows

-- The answer to a query before any commit.
pub record IsOpeningAnswer (catalog : Catalog) (rows : List OpeningRow) (query : Query) (columns : List TypedColumn) (answer : VTable) : Type 0 where
  pub is : IsAnswerTo catalog.model catalog.tables (λ c. opening_database c catalog rows) (opening_sizes catalog.tables rows) (openings_mention rows) query columns answer
