-- The opening rows are the tables before any commit.
use Rattle.std.proofs.Common.{◌≡◌, ℕ, ◌≤◌, Bool, true, false, if◌then◌else◌, List, [], ◌∷◌, map, filter, Some, None, refl, ap, ap₂, arith}
use Rattle.std.specs.List.{sum_by}
use Rattle.std.proofs.lemmas.List.Sums.{sum_by-cons}
use Rattle.feature_expr.specs.Expressions.{weight_of}
use Rattle.feature_expr.specs.Satisfaction.{satisfies}
use Rattle.plain_relation.specs.Relations.{relation_of}
use Rattle.plain_relation.specs.Relations as plain
use Rattle.row_conditions.proofs.FoldingLaws.{and_holds, and_weighs}
use Rattle.query_meaning.specs.Bounds.{table_column_weight, column_weight_in}
use Rattle.stored_versions.specs.Openings.{is_of, opening_rows}
use Rattle.write_meaning.specs.StoredTables.{stored_column, stored_columns, stored_table}
use Rattle.row_conditions.specs.RowConditions.{columns_weight}
use Rattle.vschema.specs.Variants.{opening_at, table_at}
use Rattle.vschema.specs.Variants as variants
use Rattle.vschema.specs.declared.catalog.Column.{Column}
use Rattle.vschema.specs.declared.catalog.OpeningRow.{OpeningRow}
use Rattle.vschema.specs.declared.catalog.Table.{Table}
use Rattle.vtable.specs.Answers.{answer_at}
use Rattle.vtable.specs.Answers as answers
use Rattle.vtable.specs.declared.table.VColumn.{VColumn}
use Rattle.vtable.specs.declared.table.VRow.{VRow}

column_same : (c : List ℕ) (table : Table) (column : Column) → answers.column_at c (stored_column table column) ≡ variants.column_at c table column
column_same c table column =
    ap (λ (b : Bool). if b then Some (let it : plain.Column = record { name = variants.bare_name column.name; kind = column.kind } in it) else None) (and_holds c table.cond column.cond)

columns_same : (c : List ℕ) (table : Table) (columns : List Column) → map (answers.column_at c) (map (stored_column table) columns) ≡ map (variants.column_at c table) columns
columns_same c table [] = refl
columns_same c table (k ∷ ks) = ap₂ (λ x xs. x ∷ xs) (column_same c table k) (columns_same c table ks)

row_same : (c : List ℕ) (number : ℕ) (row : OpeningRow) (rows : List OpeningRow) (of there : Bool) → is_of number row ≡ of → satisfies c row.cond ≡ there → map (λ (r : VRow). r.cells) (filter (λ (r : VRow). satisfies c r.cond) (opening_rows number rows)) ≡ opening_at c number rows → map (λ (r : VRow). r.cells) (filter (λ (r : VRow). satisfies c r.cond) (opening_rows number (row ∷ rows))) ≡ opening_at c number (row ∷ rows)
row_same c number row rows false there is holds rest = rw is rest
row_same c number row rows true false is holds rest = rw (is, holds) rest
row_same c number row rows true true is holds rest = rw (is, holds) (ap (λ xs. row.cells ∷ xs) rest)

rows_same : (c : List ℕ) (number : ℕ) (rows : List OpeningRow) → map (λ (r : VRow). r.cells) (filter (λ (r : VRow). satisfies c r.cond) (opening_rows number rows)) ≡ opening_at c number rows
rows_same c number [] = refl
rows_same c number (row ∷ rows) = row_same c number row rows (is_of number row) (satisfies c row.cond) refl refl (rows_same c number rows)

-- the opening rows of a table are what the catalogue says that it is
pub opening_means : (c : List ℕ) (number : ℕ) (table : Table) (rows : List OpeningRow) → answer_at c (stored_table table (opening_rows number rows)) ≡ table_at c number table rows
opening_means c number table rows = ap₂ relation_of (columns_same c table table.columns) (rows_same c number rows)

columns_within : (table : Table) (columns : List Column) → columns_weight (map (stored_column table) columns) ≤ sum_by (column_weight_in (weight_of table.cond)) columns
columns_within table [] = omega arith
columns_within table (k ∷ ks) =
    let one = and_weighs table.cond k.cond in
    let rest = columns_within table ks in
    let a = sum_by-cons (λ (column : VColumn). weight_of column.cond) (stored_column table k) (map (stored_column table) ks) in
    let b = sum_by-cons (column_weight_in (weight_of table.cond)) k ks in
    omega (arith, one, rest, a, b)

-- the conditions of a stored table's columns weigh no more than its bound
pub stored_within : (table : Table) → columns_weight (stored_columns table) ≤ table_column_weight table
stored_within table = columns_within table table.columns
