-- What the tokens of a catalogue's file spell, part by part. A place is the number of a token. Each part says where it
-- ends, and that nothing in it stood before it that may not stand twice.
use Rattle.std.specs.Prelude.{Bool, true, false, ◌≡◌, ℕ, ◌+◌, ◌<◌, List, [], ◌∷◌, ◌++◌, length, map, Option, Some, None, position, set, slice_get, is_some}
use Rattle.std.specs.Str.{bytes_eq}
use Rattle.feature_expr.specs.Names.{among}
use Rattle.values.specs.Value.{kind_of}
use Rattle.feature_expr.specs.ExprGrammar.{Disjunction, IsRead, Spells}
use Rattle.feature_expr.specs.Config.{feature_limit}
use Rattle.feature_expr.specs.declared.expr.Expr.{Expr}
use Rattle.feature_expr.specs.declared.expr.Expr as e
use Rattle.word_tokens.specs.declared.token.Token.{Token}
use Rattle.values.specs.declared.value.Value.{Value}
use Rattle.vschema.specs.Limits.{table_limit, column_limit}
use Rattle.feature_expr.specs.Nesting.{nesting_limit}
use Rattle.vschema.specs.Words.{stands, spelled_name_at, folded_at, kind_at, value_at, line_number}
use Rattle.vschema.specs.declared.catalog.Catalog.{Catalog}
use Rattle.vschema.specs.declared.catalog.Column.{Column}
use Rattle.vschema.specs.declared.catalog.OpeningRow.{OpeningRow}
use Rattle.vschema.specs.declared.catalog.Table.{Table}
use Rattle.vschema.specs.declared.entries.Entry.{Entry}
use Rattle.vschema.specs.declared.entries.Entry.TheVariants as entry
use Rattle.vschema.specs.declared.words.Sign.TheVariants as sign

-- the number of the column, or of the table, that has a name
abbrev pub column_place : List ℕ → List Column → Option ℕ
column_place name columns = position (λ (column : Column). bytes_eq column.name name) columns

abbrev pub table_place : List ℕ → List Table → Option ℕ
table_place name tables = position (λ (table : Table). bytes_eq table.name name) tables

-- the name of another feature, within the limit
pub record NewFeature (text : List ℕ) (tokens : List Token) (names : List (List ℕ)) (at : ℕ) (name : List ℕ) : Type 0 where
  pub named : spelled_name_at text tokens at ≡ Some name
  pub fresh : among name names ≡ false
  pub within : length names < feature_limit

-- these features stand before a place at which another one has to stand: the first one behind the word `features`, the
-- others behind commas
pub data FeaturesBefore (text : List ℕ) (tokens : List Token) : List (List ℕ) → ℕ → Type 0 where
  no_feature_yet : FeaturesBefore text tokens [] 1
  another_feature : (names : List (List ℕ)) (name : List ℕ) (at : ℕ) → FeaturesBefore text tokens names at → NewFeature text tokens names at name → stands text tokens (at + 1) sign.Comma ≡ true → FeaturesBefore text tokens (names ++ name ∷ []) (at + 2)

-- a file begins with the word `features`, their names with commas between them, and a semicolon
pub data IsHead (text : List ℕ) (tokens : List Token) : List (List ℕ) → ℕ → Type 0 where
  no_features : stands text tokens 0 sign.Features ≡ true → stands text tokens 1 sign.Semicolon ≡ true → IsHead text tokens [] 2
  some_features : (names : List (List ℕ)) (name : List ℕ) (at : ℕ) → stands text tokens 0 sign.Features ≡ true → FeaturesBefore text tokens names at → NewFeature text tokens names at name → stands text tokens (at + 1) sign.Semicolon ≡ true → IsHead text tokens (names ++ name ∷ []) (at + 2)

-- an expression, where so many brackets are open round it
pub record IsExpression (names : List (List ℕ)) (text : List ℕ) (tokens : List Token) (nesting at : ℕ) (expr : Expr) (end : ℕ) : Type 0 where
  pub read : IsRead text tokens nesting_limit (Disjunction nesting) at end
  pub spelled : Spells names text tokens (Disjunction nesting) at expr end

-- the word `model`, the feature model and a semicolon; a missing model is `true`
pub data IsModel (names : List (List ℕ)) (text : List ℕ) (tokens : List Token) (at : ℕ) : Expr → ℕ → Type 0 where
  no_model : stands text tokens at sign.Model ≡ false → IsModel names text tokens at e.True at
  some_model : (expr : Expr) (end : ℕ) → stands text tokens at sign.Model ≡ true → IsExpression names text tokens 0 (at + 1) expr end → stands text tokens end sign.Semicolon ≡ true → IsModel names text tokens at expr (end + 1)

-- the word `when` and a condition; a missing condition is `true`
pub data IsWhen (names : List (List ℕ)) (text : List ℕ) (tokens : List Token) (nesting at : ℕ) : Expr → ℕ → Type 0 where
  no_when : stands text tokens at sign.When ≡ false → IsWhen names text tokens nesting at e.True at
  some_when : (expr : Expr) (end : ℕ) → stands text tokens at sign.When ≡ true → IsExpression names text tokens nesting (at + 1) expr end → IsWhen names text tokens nesting at expr end

-- behind the brackets of a table or a row: its condition and a semicolon
pub record IsTail (names : List (List ℕ)) (text : List ℕ) (tokens : List Token) (at : ℕ) (cond : Expr) (end : ℕ) : Type 0 where
  pub last : ℕ
  pub condition : IsWhen names text tokens 0 at cond last
  pub stops : stands text tokens last sign.Semicolon ≡ true
  pub ends : end ≡ last + 1

-- the name of another column, within the limit
pub record NewColumn (text : List ℕ) (tokens : List Token) (columns : List Column) (at : ℕ) (name : List ℕ) : Type 0 where
  pub named : folded_at text tokens at ≡ Some name
  pub fresh : column_place name columns ≡ None
  pub within : length columns < column_limit

-- a column behind others: its name, its kind and its condition, inside a bracket
pub record IsColumn (names : List (List ℕ)) (text : List ℕ) (tokens : List Token) (columns : List Column) (at : ℕ) (column : Column) (end : ℕ) : Type 0 where
  pub is_new : NewColumn text tokens columns at column.name
  pub kind : kind_at text tokens (at + 1) ≡ Some column.kind
  pub condition : IsWhen names text tokens 1 (at + 2) column.cond end

-- from one place on, these columns stand before another, at which a further one has to stand, with commas between them
pub data ColumnsBefore (names : List (List ℕ)) (text : List ℕ) (tokens : List Token) (from : ℕ) : List Column → ℕ → Type 0 where
  no_column_yet : ColumnsBefore names text tokens from [] from
  another_column : (columns : List Column) (column : Column) (at end : ℕ) → ColumnsBefore names text tokens from columns at → IsColumn names text tokens columns at column end → stands text tokens end sign.Comma ≡ true → ColumnsBefore names text tokens from (columns ++ column ∷ []) (end + 1)

-- columns with commas between them, one at least, and the bracket that closes them
pub record AreColumns (names : List (List ℕ)) (text : List ℕ) (tokens : List Token) (from : ℕ) (columns : List Column) (end : ℕ) : Type 0 where
  pub others : List Column
  pub at : ℕ
  pub before : ColumnsBefore names text tokens from others at
  pub last : Column
  pub close : ℕ
  pub is_column : IsColumn names text tokens others at last close
  pub closes : stands text tokens close sign.Close ≡ true
  pub all : columns ≡ others ++ last ∷ []
  pub ends : end ≡ close + 1

-- the name of another table, within the limit
pub record NewTable (text : List ℕ) (tokens : List Token) (tables : List Table) (at : ℕ) (name : List ℕ) : Type 0 where
  pub named : folded_at text tokens at ≡ Some name
  pub fresh : table_place name tables ≡ None
  pub within : length tables < table_limit

-- a table behind others, from the word `table` on
pub record IsTable (names : List (List ℕ)) (text : List ℕ) (tokens : List Token) (tables : List Table) (at : ℕ) (table : Table) (end : ℕ) : Type 0 where
  pub begins : stands text tokens at sign.Table ≡ true
  pub is_new : NewTable text tokens tables (at + 1) table.name
  pub opens : stands text tokens (at + 2) sign.Open ≡ true
  pub behind : ℕ
  pub columns : AreColumns names text tokens (at + 3) table.columns behind
  pub tail : IsTail names text tokens behind table.cond end

-- no column has a value
abbrev pub no_cells : List Column → List (Option Value)
no_cells columns = map (λ (column : Column). None) columns

-- whether there is a value at a cell place
abbrev pub is_filled : Option (Option Value) → Bool
is_filled (Some cell) = is_some cell
is_filled None = false

-- whether a column has a value
abbrev pub has_value : List (Option Value) → ℕ → Bool
has_value cells place = is_filled (slice_get cells place)

-- the name of a column that has no value yet
pub record NewCell (text : List ℕ) (tokens : List Token) (columns : List Column) (cells : List (Option Value)) (at place : ℕ) (column : Column) : Type 0 where
  pub name : List ℕ
  pub named : folded_at text tokens at ≡ Some name
  pub found : column_place name columns ≡ Some place
  pub there : slice_get columns place ≡ Some column
  pub free : has_value cells place ≡ false

-- a value of its kind behind it
pub record IsCell (text : List ℕ) (tokens : List Token) (columns : List Column) (cells : List (Option Value)) (at place : ℕ) (value : Value) : Type 0 where
  pub column : Column
  pub is_new : NewCell text tokens columns cells at place column
  pub literal : value_at text tokens (at + 1) ≡ Some value
  pub kind : kind_of value ≡ column.kind

-- from one place on, values stand before another, at which a further one has to stand, with commas between them; these
-- are the cells of the row so far
pub data CellsBefore (text : List ℕ) (tokens : List Token) (columns : List Column) (from : ℕ) : List (Option Value) → ℕ → Type 0 where
  no_cell_yet : CellsBefore text tokens columns from (no_cells columns) from
  another_cell : (cells : List (Option Value)) (at place : ℕ) (value : Value) → CellsBefore text tokens columns from cells at → IsCell text tokens columns cells at place value → stands text tokens (at + 2) sign.Comma ≡ true → CellsBefore text tokens columns from (set cells place (Some value)) (at + 3)

-- values with commas between them, one at least, and the bracket that closes them
pub record AreCells (text : List ℕ) (tokens : List Token) (columns : List Column) (from : ℕ) (cells : List (Option Value)) (end : ℕ) : Type 0 where
  pub others : List (Option Value)
  pub at : ℕ
  pub before : CellsBefore text tokens columns from others at
  pub place : ℕ
  pub value : Value
  pub is_cell : IsCell text tokens columns others at place value
  pub closes : stands text tokens (at + 2) sign.Close ≡ true
  pub all : cells ≡ set others place (Some value)
  pub ends : end ≡ at + 3

-- the name of a table that was declared above
pub record IsTableName (text : List ℕ) (tokens : List Token) (tables : List Table) (at number : ℕ) (table : Table) : Type 0 where
  pub name : List ℕ
  pub named : folded_at text tokens at ≡ Some name
  pub found : table_place name tables ≡ Some number
  pub there : slice_get tables number ≡ Some table

-- a row of one of the tables above, from the word `row` on, whose line is the row's
pub record IsRow (names : List (List ℕ)) (text : List ℕ) (tokens : List Token) (tables : List Table) (at : ℕ) (row : OpeningRow) (end : ℕ) : Type 0 where
  pub begins : stands text tokens at sign.Row ≡ true
  pub table : Table
  pub is_name : IsTableName text tokens tables (at + 1) row.table table
  pub opens : stands text tokens (at + 2) sign.Open ≡ true
  pub behind : ℕ
  pub cells : AreCells text tokens table.columns (at + 3) row.cells behind
  pub tail : IsTail names text tokens behind row.cond end
  pub line : row.line ≡ line_number text tokens at

-- a table or a row behind others
abbrev pub IsEntry : List (List ℕ) → List ℕ → List Token → List Table → ℕ → Entry → ℕ → Type 0
IsEntry names text tokens tables at (entry.Table table) end = IsTable names text tokens tables at table end
IsEntry names text tokens tables at (entry.Row row) end = IsRow names text tokens tables at row end

abbrev pub tables_with : List Table → Entry → List Table
tables_with tables (entry.Table table) = tables ++ table ∷ []
tables_with tables (entry.Row row) = tables

abbrev pub rows_with : List OpeningRow → Entry → List OpeningRow
rows_with rows (entry.Table table) = rows
rows_with rows (entry.Row row) = rows ++ row ∷ []

-- no table before it has an entry's name, and a table is within the limit
abbrev pub IsFresh : List Table → Entry → Type 0
IsFresh tables (entry.Table table) = (table_place table.name tables ≡ None) × (length tables < table_limit)
IsFresh tables (entry.Row row) = Unit {0}

-- tables and rows in the file's order, from one place up to another
pub data EntriesTo (names : List (List ℕ)) (text : List ℕ) (tokens : List Token) (from : ℕ) : List Table → List OpeningRow → ℕ → Type 0 where
  no_entry_yet : EntriesTo names text tokens from [] [] from
  another_entry : (tables : List Table) (rows : List OpeningRow) (entry : Entry) (at end : ℕ) → EntriesTo names text tokens from tables rows at → IsEntry names text tokens tables at entry end → EntriesTo names text tokens from (tables_with tables entry) (rows_with rows entry) end

-- all the tokens spell a catalogue and its opening rows
pub record SpellCatalogue (text : List ℕ) (tokens : List Token) (catalog : Catalog) (rows : List OpeningRow) : Type 0 where
  pub body : ℕ
  pub head : IsHead text tokens catalog.features body
  pub entries : ℕ
  pub model : IsModel catalog.features text tokens body catalog.model entries
  pub all_entries : EntriesTo catalog.features text tokens entries catalog.tables rows (length tokens)
