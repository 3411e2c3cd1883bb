-- The variants of a catalogue: which tables and columns each has, and what its tables are before any commit.
use Rattle.std.specs.Prelude.{Bool, true, false, ◌≡◌, ◌&&◌, ◌==◌, ℕ, List, [], ◌∷◌, map, filter, Option, Some, None, if◌then◌else◌, slice_get}
use Rattle.feature_expr.specs.Satisfaction.{satisfies}
use Rattle.values.specs.declared.column_name.ColName.{ColName}
use Rattle.values.specs.declared.value.Value.{Value}
use Rattle.plain_relation.specs.Relations.{Relation, absent, relation_of}
use Rattle.plain_relation.specs.Relations as plain
use Rattle.vschema.specs.declared.catalog.Catalog.{Catalog}
use Rattle.vschema.specs.declared.catalog.Column.{Column}
use Rattle.vschema.specs.declared.catalog.OpeningRow.{OpeningRow}
use Rattle.vschema.specs.declared.catalog.Table.{Table}

-- a column of a table has no prefix
abbrev pub bare_name : List ℕ → ColName
bare_name name = record { prefix = None; base = name }

-- whether a column of a table is there
abbrev pub has_column : List ℕ → Table → Column → Bool
has_column c table column = satisfies c table.cond && satisfies c column.cond

abbrev pub column_at : List ℕ → Table → Column → Option plain.Column
column_at c table column = if has_column c table column then Some (record { name = bare_name column.name; kind = column.kind }) else None

-- the places of a table's columns
abbrev pub places_at : List ℕ → Table → List (Option plain.Column)
places_at c table = map (column_at c table) table.columns

-- whether a row is one of a table's, and there
abbrev pub is_row_of : List ℕ → ℕ → OpeningRow → Bool
is_row_of c number row = (row.table == number) && satisfies c row.cond

-- the cells of the opening rows of a table that are there
abbrev pub opening_at : List ℕ → ℕ → List OpeningRow → List (List (Option Value))
opening_at c number rows = map (λ (row : OpeningRow). row.cells) (filter (is_row_of c number) rows)

-- what the table with this number is in the variant: absent where it isn't there, else its columns that are there, and
-- its opening rows that are there, cut to them
abbrev pub table_at : List ℕ → ℕ → Table → List OpeningRow → Relation
table_at c number table rows = relation_of (places_at c table) (opening_at c number rows)

abbrev pub table_in : List ℕ → ℕ → Option Table → List OpeningRow → Relation
table_in c number None rows = absent
table_in c number (Some table) rows = table_at c number table rows

-- the variant's database before any commit: its tables by their numbers
abbrev pub opening_database : List ℕ → Catalog → List OpeningRow → ℕ → Relation
opening_database c catalog rows number = table_in c number (slice_get catalog.tables number) rows
