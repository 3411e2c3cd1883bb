-- Where the reading of a catalogue's file ends at a fault, part by part. What stands before the fault was read, as
-- `Spelling` says it; want of memory may come anywhere.
use Rattle.std.specs.Prelude.{true, false, ◌≡◌, ◌≢◌, ℕ, ◌+◌, ◌<◌, ◌≤◌, List, length, Option, Some, None}
use Rattle.feature_expr.specs.Names.{among}
use Rattle.values.specs.Value.{kind_of}
use Rattle.feature_expr.specs.ExprGrammar.{Disjunction, IsRefused, IsFirst}
use Rattle.feature_expr.specs.Config.{feature_limit}
use Rattle.feature_expr.specs.declared.expr.Expr.{Expr}
use Rattle.feature_expr.specs.declared.parse.Fault.{Fault}
use Rattle.feature_expr.specs.declared.parse.Fault.TheVariants as expr_fault
use Rattle.word_tokens.specs.declared.token.Token.{Token}
use Rattle.values.specs.declared.value.Kind.{Kind}
use Rattle.values.specs.declared.value.Value.{Value}
use Rattle.vschema.specs.Limits.{table_limit, column_limit}
use Rattle.feature_expr.specs.Nesting.{nesting_limit}
use Rattle.vschema.specs.Words.{stands, spelled_name_at, folded_at, kind_at, value_at}
use Rattle.vschema.specs.Spelling.{column_place, table_place, NewFeature, FeaturesBefore, IsHead, IsExpression, IsModel, IsWhen, NewColumn, IsColumn, ColumnsBefore, AreColumns, NewTable, has_value, NewCell, IsCell, CellsBefore, AreCells, IsTableName, EntriesTo}
use Rattle.vschema.specs.declared.catalog.Column.{Column}
use Rattle.vschema.specs.declared.catalog.OpeningRow.{OpeningRow}
use Rattle.vschema.specs.declared.catalog.Table.{Table}
use Rattle.vschema.specs.declared.fault.CatalogFault.{CatalogFault}
use Rattle.vschema.specs.declared.fault.CatalogFault.TheVariants as fault
use Rattle.vschema.specs.declared.refused.Which.TheVariants as which
use Rattle.vschema.specs.declared.words.Sign.TheVariants as sign

-- a fault of an expression as one of the catalogue's
abbrev pub fault_of : Fault → CatalogFault
fault_of (expr_fault.Syntax at) = fault.Syntax at
fault_of (expr_fault.TooDeep at) = fault.Syntax at
fault_of (expr_fault.UnknownFeature at) = fault.UnknownFeature at
fault_of expr_fault.Memory = fault.Memory

-- a single token isn't what has to stand there, or memory ran out
abbrev pub IsSyntaxAt : ℕ → CatalogFault → Type 0 → Type 0
IsSyntaxAt at (fault.Syntax place) cause = (place ≡ at) × cause
IsSyntaxAt at fault.Memory cause = Unit {0}
IsSyntaxAt at _ cause = ⊥

pub record ExpressionFault (names : List (List ℕ)) (text : List ℕ) (tokens : List Token) (nesting at : ℕ) (why : CatalogFault) : Type 0 where
  pub inner : Fault
  pub is : why ≡ fault_of inner
  pub refused : IsRefused names text tokens nesting_limit (Disjunction nesting) at inner
  pub first : IsFirst names text tokens at inner

-- at the name of a feature
pub data FeatureFault (text : List ℕ) (tokens : List Token) (names : List (List ℕ)) (at : ℕ) : CatalogFault → Type 0 where
  feature_memory : FeatureFault text tokens names at fault.Memory
  no_feature_name : spelled_name_at text tokens at ≡ None → FeatureFault text tokens names at (fault.Syntax at)
  feature_again : (name : List ℕ) → spelled_name_at text tokens at ≡ Some name → among name names ≡ true → FeatureFault text tokens names at (fault.Duplicate at)
  one_feature_more : (name : List ℕ) → spelled_name_at text tokens at ≡ Some name → among name names ≡ false → feature_limit ≤ length names → FeatureFault text tokens names at (fault.Limit at which.Features)

-- in the list of features
pub data HeadFault (text : List ℕ) (tokens : List Token) : CatalogFault → Type 0 where
  head_memory : HeadFault text tokens fault.Memory
  no_features_word : stands text tokens 0 sign.Features ≡ false → HeadFault text tokens (fault.Syntax 0)
  at_feature : (names : List (List ℕ)) (at : ℕ) (why : CatalogFault) → stands text tokens 0 sign.Features ≡ true → stands text tokens 1 sign.Semicolon ≡ false → FeaturesBefore text tokens names at → FeatureFault text tokens names at why → HeadFault text tokens why
  features_unended : (names : List (List ℕ)) (name : List ℕ) (at : ℕ) → stands text tokens 0 sign.Features ≡ true → FeaturesBefore text tokens names at → NewFeature text tokens names at name → stands text tokens (at + 1) sign.Comma ≡ false → stands text tokens (at + 1) sign.Semicolon ≡ false → HeadFault text tokens (fault.Syntax (at + 1))

-- in the line of the feature model
pub data ModelFault (names : List (List ℕ)) (text : List ℕ) (tokens : List Token) (at : ℕ) : CatalogFault → Type 0 where
  in_model : (why : CatalogFault) → stands text tokens at sign.Model ≡ true → ExpressionFault names text tokens 0 (at + 1) why → ModelFault names text tokens at why
  model_unended : (expr : Expr) (end : ℕ) → stands text tokens at sign.Model ≡ true → IsExpression names text tokens 0 (at + 1) expr end → stands text tokens end sign.Semicolon ≡ false → ModelFault names text tokens at (fault.Syntax end)

-- in a condition
pub record WhenFault (names : List (List ℕ)) (text : List ℕ) (tokens : List Token) (nesting at : ℕ) (why : CatalogFault) : Type 0 where
  pub begins : stands text tokens at sign.When ≡ true
  pub inside : ExpressionFault names text tokens nesting (at + 1) why

-- behind the brackets of a table or a row
pub data TailFault (names : List (List ℕ)) (text : List ℕ) (tokens : List Token) (at : ℕ) : CatalogFault → Type 0 where
  in_tail_condition : (why : CatalogFault) → WhenFault names text tokens 0 at why → TailFault names text tokens at why
  tail_unended : (cond : Expr) (end : ℕ) → IsWhen names text tokens 0 at cond end → stands text tokens end sign.Semicolon ≡ false → TailFault names text tokens at (fault.Syntax end)

-- at the name of a column in a table
pub data ColumnNameFault (text : List ℕ) (tokens : List Token) (columns : List Column) (at : ℕ) : CatalogFault → Type 0 where
  column_name_memory : ColumnNameFault text tokens columns at fault.Memory
  no_column_name : folded_at text tokens at ≡ None → ColumnNameFault text tokens columns at (fault.Syntax at)
  column_again : (name : List ℕ) (place : ℕ) → folded_at text tokens at ≡ Some name → column_place name columns ≡ Some place → ColumnNameFault text tokens columns at (fault.Duplicate at)
  one_column_more : (name : List ℕ) → folded_at text tokens at ≡ Some name → column_place name columns ≡ None → column_limit ≤ length columns → ColumnNameFault text tokens columns at (fault.Limit at which.Columns)

-- in a column of a table
pub data ColumnFault (names : List (List ℕ)) (text : List ℕ) (tokens : List Token) (columns : List Column) (at : ℕ) : CatalogFault → Type 0 where
  column_memory : ColumnFault names text tokens columns at fault.Memory
  at_column_name : (why : CatalogFault) → ColumnNameFault text tokens columns at why → ColumnFault names text tokens columns at why
  no_kind : (name : List ℕ) → NewColumn text tokens columns at name → kind_at text tokens (at + 1) ≡ None → ColumnFault names text tokens columns at (fault.Syntax (at + 1))
  in_column_condition : (name : List ℕ) (kind : Kind) (why : CatalogFault) → NewColumn text tokens columns at name → kind_at text tokens (at + 1) ≡ Some kind → WhenFault names text tokens 1 (at + 2) why → ColumnFault names text tokens columns at why

-- in the columns of a table
pub data ColumnsFault (names : List (List ℕ)) (text : List ℕ) (tokens : List Token) (from : ℕ) : CatalogFault → Type 0 where
  columns_memory : ColumnsFault names text tokens from fault.Memory
  at_column : (columns : List Column) (at : ℕ) (why : CatalogFault) → ColumnsBefore names text tokens from columns at → ColumnFault names text tokens columns at why → ColumnsFault names text tokens from why
  columns_unclosed : (columns : List Column) (column : Column) (at end : ℕ) → ColumnsBefore names text tokens from columns at → IsColumn names text tokens columns at column end → stands text tokens end sign.Comma ≡ false → stands text tokens end sign.Close ≡ false → ColumnsFault names text tokens from (fault.Syntax end)

-- at the name of a table that is declared
pub data TableNameFault (text : List ℕ) (tokens : List Token) (tables : List Table) (at : ℕ) : CatalogFault → Type 0 where
  table_name_memory : TableNameFault text tokens tables at fault.Memory
  no_table_name : folded_at text tokens at ≡ None → TableNameFault text tokens tables at (fault.Syntax at)
  table_again : (name : List ℕ) (place : ℕ) → folded_at text tokens at ≡ Some name → table_place name tables ≡ Some place → TableNameFault text tokens tables at (fault.Duplicate at)
  one_table_more : (name : List ℕ) → folded_at text tokens at ≡ Some name → table_place name tables ≡ None → table_limit ≤ length tables → TableNameFault text tokens tables at (fault.Limit at which.Tables)

-- in a table, from the word `table` on
pub data TableFault (names : List (List ℕ)) (text : List ℕ) (tokens : List Token) (tables : List Table) (at : ℕ) : CatalogFault → Type 0 where
  at_table_name : (why : CatalogFault) → TableNameFault text tokens tables (at + 1) why → TableFault names text tokens tables at why
  table_unopened : (name : List ℕ) → NewTable text tokens tables (at + 1) name → stands text tokens (at + 2) sign.Open ≡ false → TableFault names text tokens tables at (fault.Syntax (at + 2))
  in_columns : (name : List ℕ) (why : CatalogFault) → NewTable text tokens tables (at + 1) name → stands text tokens (at + 2) sign.Open ≡ true → ColumnsFault names text tokens (at + 3) why → TableFault names text tokens tables at why
  in_table_tail : (name : List ℕ) (columns : List Column) (behind : ℕ) (why : CatalogFault) → NewTable text tokens tables (at + 1) name → stands text tokens (at + 2) sign.Open ≡ true → AreColumns names text tokens (at + 3) columns behind → TailFault names text tokens behind why → TableFault names text tokens tables at why

-- at the name of a column in a row
pub data CellNameFault (text : List ℕ) (tokens : List Token) (columns : List Column) (cells : List (Option Value)) (at : ℕ) : CatalogFault → Type 0 where
  cell_name_memory : CellNameFault text tokens columns cells at fault.Memory
  no_cell_name : folded_at text tokens at ≡ None → CellNameFault text tokens columns cells at (fault.Syntax at)
  no_such_column : (name : List ℕ) → folded_at text tokens at ≡ Some name → column_place name columns ≡ None → CellNameFault text tokens columns cells at (fault.UnknownName at)
  cell_again : (name : List ℕ) (place : ℕ) → folded_at text tokens at ≡ Some name → column_place name columns ≡ Some place → has_value cells place ≡ true → CellNameFault text tokens columns cells at (fault.Duplicate at)

-- in a value of a row
pub data CellFault (text : List ℕ) (tokens : List Token) (columns : List Column) (cells : List (Option Value)) (at : ℕ) : CatalogFault → Type 0 where
  cell_memory : CellFault text tokens columns cells at fault.Memory
  at_cell_name : (why : CatalogFault) → CellNameFault text tokens columns cells at why → CellFault text tokens columns cells at why
  no_value : (place : ℕ) (column : Column) → NewCell text tokens columns cells at place column → value_at text tokens (at + 1) ≡ None → CellFault text tokens columns cells at (fault.Syntax (at + 1))
  another_kind : (place : ℕ) (column : Column) (value : Value) → NewCell text tokens columns cells at place column → value_at text tokens (at + 1) ≡ Some value → kind_of value ≢ column.kind → CellFault text tokens columns cells at (fault.WrongKind (at + 1))

-- in the values of a row
pub data CellsFault (text : List ℕ) (tokens : List Token) (columns : List Column) (from : ℕ) : CatalogFault → Type 0 where
  cells_memory : CellsFault text tokens columns from fault.Memory
  at_cell : (cells : List (Option Value)) (at : ℕ) (why : CatalogFault) → CellsBefore text tokens columns from cells at → CellFault text tokens columns cells at why → CellsFault text tokens columns from why
  cells_unclosed : (cells : List (Option Value)) (at place : ℕ) (value : Value) → CellsBefore text tokens columns from cells at → IsCell text tokens columns cells at place value → stands text tokens (at + 2) sign.Comma ≡ false → stands text tokens (at + 2) sign.Close ≡ false → CellsFault text tokens columns from (fault.Syntax (at + 2))

-- at the name of a row's table
pub data RowNameFault (text : List ℕ) (tokens : List Token) (tables : List Table) (at : ℕ) : CatalogFault → Type 0 where
  row_name_memory : RowNameFault text tokens tables at fault.Memory
  no_row_name : folded_at text tokens at ≡ None → RowNameFault text tokens tables at (fault.Syntax at)
  no_such_table : (name : List ℕ) → folded_at text tokens at ≡ Some name → table_place name tables ≡ None → RowNameFault text tokens tables at (fault.UnknownName at)

-- in a row, from the word `row` on
pub data RowFault (names : List (List ℕ)) (text : List ℕ) (tokens : List Token) (tables : List Table) (at : ℕ) : CatalogFault → Type 0 where
  at_row_name : (why : CatalogFault) → RowNameFault text tokens tables (at + 1) why → RowFault names text tokens tables at why
  row_unopened : (number : ℕ) (table : Table) → IsTableName text tokens tables (at + 1) number table → stands text tokens (at + 2) sign.Open ≡ false → RowFault names text tokens tables at (fault.Syntax (at + 2))
  in_cells : (number : ℕ) (table : Table) (why : CatalogFault) → IsTableName text tokens tables (at + 1) number table → stands text tokens (at + 2) sign.Open ≡ true → CellsFault text tokens table.columns (at + 3) why → RowFault names text tokens tables at why
  in_row_tail : (number : ℕ) (table : Table) (cells : List (Option Value)) (behind : ℕ) (why : CatalogFault) → IsTableName text tokens tables (at + 1) number table → stands text tokens (at + 2) sign.Open ≡ true → AreCells text tokens table.columns (at + 3) cells behind → TailFault names text tokens behind why → RowFault names text tokens tables at why

-- at a table or a row, behind others
pub data EntryFault (names : List (List ℕ)) (text : List ℕ) (tokens : List Token) (tables : List Table) (at : ℕ) : CatalogFault → Type 0 where
  entry_memory : EntryFault names text tokens tables at fault.Memory
  in_table : (why : CatalogFault) → stands text tokens at sign.Table ≡ true → TableFault names text tokens tables at why → EntryFault names text tokens tables at why
  in_row : (why : CatalogFault) → stands text tokens at sign.Row ≡ true → RowFault names text tokens tables at why → EntryFault names text tokens tables at why
  no_entry : stands text tokens at sign.Table ≡ false → stands text tokens at sign.Row ≡ false → at < length tokens → EntryFault names text tokens tables at (fault.Syntax at)

pub record EntriesFault (names : List (List ℕ)) (text : List ℕ) (tokens : List Token) (from : ℕ) (why : CatalogFault) : Type 0 where
  pub tables : List Table
  pub rows : List OpeningRow
  pub at : ℕ
  pub before : EntriesTo names text tokens from tables rows at
  pub here : EntryFault names text tokens tables at why

-- in a catalogue's file
pub data FileFault (text : List ℕ) (tokens : List Token) : CatalogFault → Type 0 where
  catalogue_memory : FileFault text tokens fault.Memory
  in_head : (why : CatalogFault) → HeadFault text tokens why → FileFault text tokens why
  at_model : (names : List (List ℕ)) (body : ℕ) (why : CatalogFault) → IsHead text tokens names body → ModelFault names text tokens body why → FileFault text tokens why
  in_entries : (names : List (List ℕ)) (body : ℕ) (model : Expr) (entries : ℕ) (why : CatalogFault) → IsHead text tokens names body → IsModel names text tokens body model entries → EntriesFault names text tokens entries why → FileFault text tokens why
