-- The cells of a stored row have distinct names, where the columns of its table do.
use Rattle.std.proofs.Common.{◌≡◌, ℕ, Bool, true, false, not, ◌&&◌, ◌||◌, List, [], ◌∷◌, map, Option, Some, None, if◌then◌else◌, refl, ap, rules}
use Rattle.std.specs.Str.{bytes_eq}
use Rattle.feature_expr.specs.Expressions.{and_of}
use Rattle.feature_expr.specs.Names.{among}
use Rattle.feature_expr.specs.Satisfaction.{satisfies}
use Rattle.values.specs.declared.value.Value.{Value}
use Rattle.plain_relation.specs.Relations.{Cell, row_of}
use Rattle.plain_relation.specs.Relations as plain
use Rattle.row_conditions.specs.RowConditions.{cells_are_distinct, has_cell_named, row_at}
use Rattle.vschema.specs.Formed.{column_names, distinct, has_distinct_columns}
use Rattle.vschema.specs.Variants.{bare_name}
use Rattle.vschema.specs.declared.catalog.Column.{Column}
use Rattle.vschema.specs.declared.catalog.Table.{Table}
use Rattle.vtable.specs.Answers.{column_at}
use Rattle.vtable.specs.declared.table.VRow.{VRow}
use Rattle.write_meaning.specs.StoredTables.{stored_column, stored_columns}

and_first : (a b : Bool) → (a && b) ≡ true → a ≡ true
and_first true b h = refl
and_first false b h = h

and_second : (a b : Bool) → (a && b) ≡ true → b ≡ true
and_second true b h = h
and_second false b h = search rules

not_true : (b : Bool) → not b ≡ true → b ≡ false
not_true true h = search rules
not_true false h = refl

or_first : (a b : Bool) → (a || b) ≡ false → a ≡ false
or_first true b h = h
or_first false b h = refl

or_second : (a b : Bool) → (a || b) ≡ false → b ≡ false
or_second true b h = search rules
or_second false b h = h

neither : (a b : Bool) → a ≡ false → b ≡ false → (a || b) ≡ false
neither true b h k = h
neither false b h k = k

both : (a b : Bool) → a ≡ true → b ≡ true → (a && b) ≡ true
both true b h k = k
both false b h k = h

abbrev named_cell : List ℕ → Value → Cell
named_cell name value = record { name = bare_name name; value = value }

abbrev place_by : Column → Bool → Option plain.Column
place_by column b = if b then Some (record { name = bare_name column.name; kind = column.kind }) else None

module _ (c : List ℕ) (table : Table) where
  abbrev cells_in : List Column → List (Option Value) → List Cell
  cells_in columns cells = row_of (map (column_at c) (map (stored_column table) columns)) cells

  apart_by : (column : Column) (places : List (Option plain.Column)) (cell : Option Value) (cells : List (Option Value)) (name : List ℕ) (value : Value) (b : Bool)
      → bytes_eq column.name name ≡ false → has_cell_named (row_of places cells) (named_cell name value) ≡ false
      → has_cell_named (row_of (place_by column b ∷ places) (cell ∷ cells)) (named_cell name value) ≡ false
  apart_by column places None cells name value true other rest = rest
  apart_by column places (Some one) cells name value true other rest = neither (bytes_eq column.name name) (has_cell_named (row_of places cells) (named_cell name value)) other rest
  apart_by column places None cells name value false other rest = rest
  apart_by column places (Some one) cells name value false other rest = rest

  -- a name that no column has is no cell's
  apart : (columns : List Column) (cells : List (Option Value)) (name : List ℕ) (value : Value) → among name (column_names columns) ≡ false → has_cell_named (cells_in columns cells) (named_cell name value) ≡ false
  apart [] cells name value h = refl
  apart (column ∷ columns) [] name value h = refl
  apart (column ∷ columns) (cell ∷ cells) name value h =
      apart_by column (map (column_at c) (map (stored_column table) columns)) cell cells name value (satisfies c (and_of table.cond column.cond))
      (or_first (bytes_eq column.name name) (among name (column_names columns)) h)
      (apart columns cells name value (or_second (bytes_eq column.name name) (among name (column_names columns)) h))

  distinct_by : (column : Column) (places : List (Option plain.Column)) (cell : Option Value) (cells : List (Option Value)) (b : Bool)
      → ((value : Value) → has_cell_named (row_of places cells) (named_cell column.name value) ≡ false) → cells_are_distinct (row_of places cells) ≡ true
      → cells_are_distinct (row_of (place_by column b ∷ places) (cell ∷ cells)) ≡ true
  distinct_by column places None cells true away rest = rest
  distinct_by column places (Some one) cells true away rest =
      both (not (has_cell_named (row_of places cells) (named_cell column.name one))) (cells_are_distinct (row_of places cells)) (ap not (away one)) rest
  distinct_by column places None cells false away rest = rest
  distinct_by column places (Some one) cells false away rest = rest

  distinct_in : (columns : List Column) (cells : List (Option Value)) → distinct (column_names columns) ≡ true → cells_are_distinct (cells_in columns cells) ≡ true
  distinct_in [] cells h = refl
  distinct_in (column ∷ columns) [] h = refl
  distinct_in (column ∷ columns) (cell ∷ cells) h =
      distinct_by column (map (column_at c) (map (stored_column table) columns)) cell cells (satisfies c (and_of table.cond column.cond))
      (λ value. apart columns cells column.name value (not_true (among column.name (column_names columns)) (and_first (not (among column.name (column_names columns))) (distinct (column_names columns)) h)))
      (distinct_in columns cells (and_second (not (among column.name (column_names columns))) (distinct (column_names columns)) h))

  -- the cells of a row have distinct names
  pub distinct_cells : (row : VRow) → has_distinct_columns table ≡ true → cells_are_distinct (row_at c (stored_columns table) row) ≡ true
  distinct_cells row h = distinct_in table.columns row.cells h
