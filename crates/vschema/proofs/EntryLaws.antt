-- Tables and rows, put together from their parts.
use Rattle.std.proofs.Common.{true, ◌≡◌, ℕ, ◌+◌, List, [], ◌∷◌, ◌++◌, length, Option, Some, refl, arith}
use Rattle.values.specs.Value.{kind_of}
use Rattle.word_tokens.specs.declared.token.Token.{Token}
use Rattle.values.specs.declared.value.Value.{Value}
use Rattle.vschema.specs.Words.{stands, value_at, line_number}
use Rattle.vschema.specs.Spelling.{no_cells, NewCell, IsCell, IsTail, IsColumn, ColumnsBefore, AreColumns, NewTable, IsTable, AreCells, IsTableName, IsRow, EntriesTo}
use Rattle.vschema.specs.Faults.{TailFault, TableFault, in_table_tail, RowFault, in_row_tail, EntryFault, EntriesFault}
use Rattle.vschema.specs.declared.catalog.Column.{Column}
use Rattle.vschema.specs.declared.catalog.OpeningRow.{OpeningRow}
use Rattle.vschema.specs.declared.catalog.Table.{Table}
use Rattle.vschema.specs.declared.fault.CatalogFault.{CatalogFault}
use Rattle.vschema.specs.declared.words.Sign.TheVariants as sign

pub no_cells_length : (columns : List Column) → length (no_cells columns) ≡ length columns
no_cells_length [] = refl
no_cells_length (column ∷ columns) = grind (arith, no_cells_length columns)

pub cell_is : (text : List ℕ) (tokens : List Token) (columns : List Column) (cells : List (Option Value)) (at place : ℕ) (column : Column) (value : Value) → NewCell text tokens columns cells at place column → value_at text tokens (at + 1) ≡ Some value → kind_of value ≡ column.kind → IsCell text tokens columns cells at place value
cell_is text tokens columns cells at place column value new literal kind = record { column = column; is_new = new; literal = literal; kind = kind }

module _ (names : List (List ℕ)) (text : List ℕ) (tokens : List Token) where
  pub columns_end : (from at close end : ℕ) (all others : List Column) (last : Column) → all ≡ others ++ last ∷ [] → end ≡ close + 1 → ColumnsBefore names text tokens from others at → IsColumn names text tokens others at last close → stands text tokens close sign.Close ≡ true → AreColumns names text tokens from all end
  columns_end from at close end all others last is ends before column closes = record {
    others = others;
    at = at;
    before = before;
    last = last;
    close = close;
    is_column = column;
    closes = closes;
    all = is;
    ends = ends;
  }

  pub table_ends : (tables : List Table) (at from behind end : ℕ) (table : Table) → from ≡ at + 2 + 1 → stands text tokens at sign.Table ≡ true → NewTable text tokens tables (at + 1) table.name → stands text tokens (at + 2) sign.Open ≡ true → AreColumns names text tokens from table.columns behind → IsTail names text tokens behind table.cond end → IsTable names text tokens tables at table end
  table_ends tables at from behind end table follows begins new opens columns tail =
      let three : from ≡ at + 3 = omega arith in
      record { begins = begins; is_new = new; opens = opens; behind = behind; columns = rw three at columns; tail = tail }

  pub table_tail_refused : (tables : List Table) (at from behind : ℕ) (name : List ℕ) (columns : List Column) (why : CatalogFault) → from ≡ at + 2 + 1 → NewTable text tokens tables (at + 1) name → stands text tokens (at + 2) sign.Open ≡ true → AreColumns names text tokens from columns behind → TailFault names text tokens behind why → TableFault names text tokens tables at why
  table_tail_refused tables at from behind name columns why follows new opens are tail =
      let three : from ≡ at + 3 = omega arith in in_table_tail name columns behind why new opens (rw three at are) tail

  pub row_ends : (tables : List Table) (at from behind end : ℕ) (table : Table) (row : OpeningRow) → from ≡ at + 2 + 1 → stands text tokens at sign.Row ≡ true → IsTableName text tokens tables (at + 1) row.table table → stands text tokens (at + 2) sign.Open ≡ true → AreCells text tokens table.columns from row.cells behind → IsTail names text tokens behind row.cond end → row.line ≡ line_number text tokens at → IsRow names text tokens tables at row end
  row_ends tables at from behind end table row follows begins name opens cells tail line =
      let three : from ≡ at + 3 = omega arith in
      record { begins = begins; table = table; is_name = name; opens = opens; behind = behind; cells = rw three at cells; tail = tail; line = line }

  pub row_tail_refused : (tables : List Table) (at from behind number : ℕ) (table : Table) (cells : List (Option Value)) (why : CatalogFault) → from ≡ at + 2 + 1 → IsTableName text tokens tables (at + 1) number table → stands text tokens (at + 2) sign.Open ≡ true → AreCells text tokens table.columns from cells behind → TailFault names text tokens behind why → RowFault names text tokens tables at why
  row_tail_refused tables at from behind number table cells why follows name opens are tail =
      let three : from ≡ at + 3 = omega arith in in_row_tail number table cells behind why name opens (rw three at are) tail

  pub entries_refused : (from at : ℕ) (tables : List Table) (rows : List OpeningRow) (why : CatalogFault) → EntriesTo names text tokens from tables rows at → EntryFault names text tokens tables at why → EntriesFault names text tokens from why
  entries_refused from at tables rows why before here = record { tables = tables; rows = rows; at = at; before = before; here = here }
