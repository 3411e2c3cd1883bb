-- Plain relations: what a table, or an answer, is in one variant. A row is a finite map from column names to values,
-- kept as the list of its cells. The order of a relation's columns and that of its rows have no meaning, and a row that
-- stands twice counts once.
use Rattle.std.specs.Prelude.{Bool, true, false, ◌≡◌, ◌&&◌, ℕ, List, [], ◌∷◌, map, Option, Some, None, if◌then◌else◌, Contains, ◌⊎◌, ◌↔◌}
use Rattle.std.specs.List.{list_any}
use Rattle.std.specs.Str.{bytes_eq}
use Rattle.values.specs.declared.column_name.ColName.{ColName}
use Rattle.values.specs.declared.value.Kind.{Kind}
use Rattle.values.specs.declared.value.Value.{Value}

pub record Column : Type 0 where
  pub name : ColName
  pub kind : Kind

pub record Cell : Type 0 where
  pub name : ColName
  pub value : Value

-- a relation without columns is absent
pub record Relation : Type 0 where
  pub columns : List Column
  pub rows : List (List Cell)

abbrev pub absent : Relation
absent = record { columns = []; rows = [] }

-- A table has a place for each of its columns. In a variant a place has its column, or none where the column isn't there.
abbrev pub columns_of : List (Option Column) → List Column
columns_of [] = []
columns_of (None ∷ places) = columns_of places
columns_of (Some column ∷ places) = column ∷ columns_of places

-- a list of cells cut to the columns that are there
abbrev pub row_of : List (Option Column) → List (Option Value) → List Cell
row_of [] cells = []
row_of (place ∷ places) [] = []
row_of (Some column ∷ places) (Some value ∷ cells) = record { name = column.name; value = value } ∷ row_of places cells
row_of (place ∷ places) (cell ∷ cells) = row_of places cells

abbrev pub relation_with : List Column → List (List Cell) → Relation
relation_with [] rows = absent
relation_with (column ∷ columns) rows = record { columns = column ∷ columns; rows = rows }

-- the relation of the columns that are there, with these lists of cells as its rows
abbrev pub relation_of : List (Option Column) → List (List (Option Value)) → Relation
relation_of places rows = relation_with (columns_of places) (map (row_of places) rows)

-- two names are equal where their prefixes and their bases are
abbrev pub same_prefix : Option (List ℕ) → Option (List ℕ) → Bool
same_prefix None None = true
same_prefix (Some one) (Some other) = bytes_eq one other
same_prefix _ _ = false

abbrev pub same_name : ColName → ColName → Bool
same_name one other = same_prefix one.prefix other.prefix && bytes_eq one.base other.base

-- whether one of the columns has the name
abbrev pub has_name : ColName → List Column → Bool
has_name name columns = list_any (λ (column : Column). same_name column.name name) columns

-- the value that a row has under a name
abbrev pub cell_of : List Cell → ColName → Option Value
cell_of [] name = None
cell_of (cell ∷ row) name = if same_name cell.name name then Some cell.value else cell_of row name

-- among the rows stands one that has these values
abbrev pub HasRow : List (List Cell) → (ColName → Option Value) → Type 0
HasRow [] values = ⊥
HasRow (row ∷ rows) values = ((name : ColName) → cell_of row name ≡ values name) ⊎ HasRow rows values

-- the same columns and the same rows, as sets
pub record SameRelation (one other : Relation) : Type 0 where
  pub columns : (column : Column) → Contains one.columns column ↔ Contains other.columns column
  pub rows : (values : ColName → Option Value) → HasRow one.rows values ↔ HasRow other.rows values
