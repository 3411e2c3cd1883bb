-- Where the reading of a write, of another statement and of a whole text ends at a fault.
use Rattle.std.specs.Prelude.{Bool, true, false, ◌≡◌, ◌≢◌, ℕ, ◌+◌, ◌||◌, List, length, Some, None, Err}
use Rattle.word_tokens.specs.declared.token.Token.{Token}
use Rattle.vra_syntax.specs.declared.cond.Cond.{Cond}
use Rattle.vra_syntax.specs.declared.cond.Operand.{Operand}
use Rattle.vra_syntax.specs.declared.statement.Statement.{Statement}
use Rattle.vra_syntax.specs.declared.write.SetItem.{SetItem}
use Rattle.query_parser.specs.Conditions.{IsWhere}
use Rattle.query_parser.specs.Faults.{WhereFault, WhenFault, QueryFault}
use Rattle.query_parser.specs.Lexemes.{lexeme_at, stands, name_at, value_at}
use Rattle.query_parser.specs.Queries.{WholeQuery}
use Rattle.query_parser.specs.StatementGrammar.{is_word}
use Rattle.query_parser.specs.Statements.{NamesTo, ValuesTo, TuplesTo, SetItemsTo, SpellsStatement, StatementsBefore}
use Rattle.query_parser.specs.declared.fault.ParseFault.{ParseFault}
use Rattle.query_parser.specs.declared.fault.ParseFault.TheVariants as fault
use Rattle.query_parser.specs.declared.lexeme.Lexeme.TheVariants as lexeme

-- in names between brackets, whose first one stands at a place
pub data NamesFault (text : List ℕ) (tokens : List Token) (at : ℕ) : ParseFault → Type 0 where
  names_memory : NamesFault text tokens at fault.Memory
  no_first_name : name_at text tokens at ≡ None → NamesFault text tokens at (fault.Syntax at)
  no_next_name : (before : List (List ℕ)) (place : ℕ) → NamesTo text tokens at before place → stands text tokens place lexeme.Comma ≡ true → name_at text tokens (place + 1) ≡ None → NamesFault text tokens at (fault.Syntax (place + 1))
  names_unclosed : (before : List (List ℕ)) (place : ℕ) → NamesTo text tokens at before place → stands text tokens place lexeme.Comma ≡ false → stands text tokens place lexeme.Close ≡ false → NamesFault text tokens at (fault.Syntax place)

pub data TupleFault (with_params : Bool) (text : List ℕ) (tokens : List Token) (count at : ℕ) : ParseFault → Type 0 where
  tuple_memory : TupleFault with_params text tokens count at fault.Memory
  no_tuple : stands text tokens at lexeme.Open ≡ false → TupleFault with_params text tokens count at (fault.Syntax at)
  no_first_value : (why : ParseFault) → stands text tokens at lexeme.Open ≡ true → value_at with_params text tokens (at + 1) ≡ Err why → TupleFault with_params text tokens count at why
  no_next_value : (before : List Operand) (place : ℕ) (why : ParseFault) → stands text tokens at lexeme.Open ≡ true → ValuesTo with_params text tokens (at + 1) before place → stands text tokens place lexeme.Comma ≡ true → value_at with_params text tokens (place + 1) ≡ Err why → TupleFault with_params text tokens count at why
  tuple_unclosed : (before : List Operand) (place : ℕ) → stands text tokens at lexeme.Open ≡ true → ValuesTo with_params text tokens (at + 1) before place → stands text tokens place lexeme.Comma ≡ false → stands text tokens place lexeme.Close ≡ false → TupleFault with_params text tokens count at (fault.Syntax place)
  another_count : (before : List Operand) (place : ℕ) → stands text tokens at lexeme.Open ≡ true → ValuesTo with_params text tokens (at + 1) before place → stands text tokens place lexeme.Close ≡ true → length before ≢ count → TupleFault with_params text tokens count at (fault.Syntax place)

pub data TuplesFault (with_params : Bool) (text : List ℕ) (tokens : List Token) (count at : ℕ) : ParseFault → Type 0 where
  tuples_memory : TuplesFault with_params text tokens count at fault.Memory
  in_first_tuple : (why : ParseFault) → TupleFault with_params text tokens count at why → TuplesFault with_params text tokens count at why
  in_next_tuple : (before : List (List Operand)) (place : ℕ) (why : ParseFault) → TuplesTo with_params text tokens count at before place → stands text tokens place lexeme.Comma ≡ true → TupleFault with_params text tokens count (place + 1) why → TuplesFault with_params text tokens count at why

pub data SetItemFault (with_params : Bool) (text : List ℕ) (tokens : List Token) (at : ℕ) : ParseFault → Type 0 where
  set_item_memory : SetItemFault with_params text tokens at fault.Memory
  no_set_column : name_at text tokens at ≡ None → SetItemFault with_params text tokens at (fault.Syntax at)
  no_equal : (column : List ℕ) → name_at text tokens at ≡ Some column → stands text tokens (at + 1) lexeme.Equal ≡ false → SetItemFault with_params text tokens at (fault.Syntax (at + 1))
  no_set_value : (column : List ℕ) (why : ParseFault) → name_at text tokens at ≡ Some column → stands text tokens (at + 1) lexeme.Equal ≡ true → value_at with_params text tokens (at + 2) ≡ Err why → SetItemFault with_params text tokens at why

pub data SetItemsFault (with_params : Bool) (text : List ℕ) (tokens : List Token) (at : ℕ) : ParseFault → Type 0 where
  set_items_memory : SetItemsFault with_params text tokens at fault.Memory
  in_first_set_item : (why : ParseFault) → SetItemFault with_params text tokens at why → SetItemsFault with_params text tokens at why
  in_next_set_item : (before : List SetItem) (place : ℕ) (why : ParseFault) → SetItemsTo with_params text tokens at before place → stands text tokens place lexeme.Comma ≡ true → SetItemFault with_params text tokens (place + 1) why → SetItemsFault with_params text tokens at why

pub data InsertFault (with_params : Bool) (names : List (List ℕ)) (text : List ℕ) (tokens : List Token) (at : ℕ) : ParseFault → Type 0 where
  insert_memory : InsertFault with_params names text tokens at fault.Memory
  no_into : stands text tokens at lexeme.Into ≡ false → InsertFault with_params names text tokens at (fault.Syntax at)
  no_insert_table : stands text tokens at lexeme.Into ≡ true → name_at text tokens (at + 1) ≡ None → InsertFault with_params names text tokens at (fault.Syntax (at + 1))
  no_names : (table : List ℕ) → stands text tokens at lexeme.Into ≡ true → name_at text tokens (at + 1) ≡ Some table → stands text tokens (at + 2) lexeme.Open ≡ false → InsertFault with_params names text tokens at (fault.Syntax (at + 2))
  in_names : (table : List ℕ) (why : ParseFault) → stands text tokens at lexeme.Into ≡ true → name_at text tokens (at + 1) ≡ Some table → stands text tokens (at + 2) lexeme.Open ≡ true → NamesFault text tokens (at + 3) why → InsertFault with_params names text tokens at why
  no_values : (table : List ℕ) (columns : List (List ℕ)) (close : ℕ) → stands text tokens at lexeme.Into ≡ true → name_at text tokens (at + 1) ≡ Some table → stands text tokens (at + 2) lexeme.Open ≡ true → NamesTo text tokens (at + 3) columns close → stands text tokens close lexeme.Close ≡ true → stands text tokens (close + 1) lexeme.Values ≡ false → InsertFault with_params names text tokens at (fault.Syntax (close + 1))
  in_tuples : (table : List ℕ) (columns : List (List ℕ)) (close : ℕ) (why : ParseFault) → stands text tokens at lexeme.Into ≡ true → name_at text tokens (at + 1) ≡ Some table → stands text tokens (at + 2) lexeme.Open ≡ true → NamesTo text tokens (at + 3) columns close → stands text tokens close lexeme.Close ≡ true → stands text tokens (close + 1) lexeme.Values ≡ true → TuplesFault with_params text tokens (length columns) (close + 2) why → InsertFault with_params names text tokens at why
  in_insert_when : (table : List ℕ) (columns : List (List ℕ)) (close : ℕ) (rows : List (List Operand)) (last : ℕ) (why : ParseFault) → stands text tokens at lexeme.Into ≡ true → name_at text tokens (at + 1) ≡ Some table → stands text tokens (at + 2) lexeme.Open ≡ true → NamesTo text tokens (at + 3) columns close → stands text tokens close lexeme.Close ≡ true → stands text tokens (close + 1) lexeme.Values ≡ true → TuplesTo with_params text tokens (length columns) (close + 2) rows last → stands text tokens last lexeme.Comma ≡ false → WhenFault names text tokens 0 last why → InsertFault with_params names text tokens at why

pub data DeleteFault (with_params : Bool) (names : List (List ℕ)) (text : List ℕ) (tokens : List Token) (at : ℕ) : ParseFault → Type 0 where
  delete_memory : DeleteFault with_params names text tokens at fault.Memory
  no_delete_from : stands text tokens at lexeme.From ≡ false → DeleteFault with_params names text tokens at (fault.Syntax at)
  no_delete_table : stands text tokens at lexeme.From ≡ true → name_at text tokens (at + 1) ≡ None → DeleteFault with_params names text tokens at (fault.Syntax (at + 1))
  in_delete_where : (table : List ℕ) (why : ParseFault) → stands text tokens at lexeme.From ≡ true → name_at text tokens (at + 1) ≡ Some table → WhereFault with_params names text tokens 0 (at + 2) why → DeleteFault with_params names text tokens at why
  in_delete_when : (table : List ℕ) (c : Cond) (last : ℕ) (why : ParseFault) → stands text tokens at lexeme.From ≡ true → name_at text tokens (at + 1) ≡ Some table → IsWhere with_params names text tokens 0 (at + 2) c last → WhenFault names text tokens 0 last why → DeleteFault with_params names text tokens at why

pub data UpdateFault (with_params : Bool) (names : List (List ℕ)) (text : List ℕ) (tokens : List Token) (at : ℕ) : ParseFault → Type 0 where
  update_memory : UpdateFault with_params names text tokens at fault.Memory
  no_update_table : name_at text tokens at ≡ None → UpdateFault with_params names text tokens at (fault.Syntax at)
  no_set : (table : List ℕ) → name_at text tokens at ≡ Some table → stands text tokens (at + 1) lexeme.Set ≡ false → UpdateFault with_params names text tokens at (fault.Syntax (at + 1))
  in_set_items : (table : List ℕ) (why : ParseFault) → name_at text tokens at ≡ Some table → stands text tokens (at + 1) lexeme.Set ≡ true → SetItemsFault with_params text tokens (at + 2) why → UpdateFault with_params names text tokens at why
  in_update_where : (table : List ℕ) (items : List SetItem) (behind : ℕ) (why : ParseFault) → name_at text tokens at ≡ Some table → stands text tokens (at + 1) lexeme.Set ≡ true → SetItemsTo with_params text tokens (at + 2) items behind → stands text tokens behind lexeme.Comma ≡ false → WhereFault with_params names text tokens 0 behind why → UpdateFault with_params names text tokens at why
  in_update_when : (table : List ℕ) (items : List SetItem) (behind : ℕ) (c : Cond) (last : ℕ) (why : ParseFault) → name_at text tokens at ≡ Some table → stands text tokens (at + 1) lexeme.Set ≡ true → SetItemsTo with_params text tokens (at + 2) items behind → stands text tokens behind lexeme.Comma ≡ false → IsWhere with_params names text tokens 0 behind c last → WhenFault names text tokens 0 last why → UpdateFault with_params names text tokens at why

-- behind the word `set`
pub data SettingFault (with_params : Bool) (text : List ℕ) (tokens : List Token) (at : ℕ) : ParseFault → Type 0 where
  no_setting : is_word (lexeme_at text tokens at) ≡ false → SettingFault with_params text tokens at (fault.Syntax at)
  no_to : is_word (lexeme_at text tokens at) ≡ true → stands text tokens (at + 1) lexeme.To || stands text tokens (at + 1) lexeme.Equal ≡ false → SettingFault with_params text tokens at (fault.Syntax (at + 1))
  no_setting_value : is_word (lexeme_at text tokens at) ≡ true → stands text tokens (at + 1) lexeme.To || stands text tokens (at + 1) lexeme.Equal ≡ true → is_word (lexeme_at text tokens (at + 2)) ≡ false → stands text tokens (at + 2) lexeme.Integer ≡ false → stands text tokens (at + 2) lexeme.Text ≡ false → SettingFault with_params text tokens at (fault.Syntax (at + 2))
  setting_too_large : (why : ParseFault) → is_word (lexeme_at text tokens at) ≡ true → stands text tokens (at + 1) lexeme.To || stands text tokens (at + 1) lexeme.Equal ≡ true → stands text tokens (at + 2) lexeme.Integer ≡ true → value_at with_params text tokens (at + 2) ≡ Err why → SettingFault with_params text tokens at why

-- which of the words stands at a place that begin a statement other than a query
pub record BeginsQuery (text : List ℕ) (tokens : List Token) (at : ℕ) : Type 0 where
  pub not_begin : stands text tokens at lexeme.Begin ≡ false
  pub not_commit : stands text tokens at lexeme.Commit ≡ false
  pub not_rollback : stands text tokens at lexeme.Rollback ≡ false
  pub not_set : stands text tokens at lexeme.Set ≡ false
  pub not_insert : stands text tokens at lexeme.Insert ≡ false
  pub not_delete : stands text tokens at lexeme.Delete ≡ false
  pub not_update : stands text tokens at lexeme.Update ≡ false

pub data StatementFault (with_params : Bool) (names : List (List ℕ)) (text : List ℕ) (tokens : List Token) (at : ℕ) : ParseFault → Type 0 where
  statement_memory : StatementFault with_params names text tokens at fault.Memory
  in_setting : (why : ParseFault) → stands text tokens at lexeme.Set ≡ true → SettingFault with_params text tokens (at + 1) why → StatementFault with_params names text tokens at why
  in_insert : (why : ParseFault) → stands text tokens at lexeme.Insert ≡ true → InsertFault with_params names text tokens (at + 1) why → StatementFault with_params names text tokens at why
  in_delete : (why : ParseFault) → stands text tokens at lexeme.Delete ≡ true → DeleteFault with_params names text tokens (at + 1) why → StatementFault with_params names text tokens at why
  in_update : (why : ParseFault) → stands text tokens at lexeme.Update ≡ true → UpdateFault with_params names text tokens (at + 1) why → StatementFault with_params names text tokens at why
  in_query : (why : ParseFault) → BeginsQuery text tokens at → QueryFault with_params names text tokens (WholeQuery 0) at why → StatementFault with_params names text tokens at why

-- in a text
pub data StatementsFault (with_params : Bool) (names : List (List ℕ)) (text : List ℕ) (tokens : List Token) : ParseFault → Type 0 where
  statements_memory : StatementsFault with_params names text tokens fault.Memory
  in_statement : (before : List Statement) (at : ℕ) (why : ParseFault) → StatementsBefore with_params names text tokens before at → stands text tokens at lexeme.End ≡ false → stands text tokens at lexeme.Semicolon ≡ false → StatementFault with_params names text tokens at why → StatementsFault with_params names text tokens why
  statement_unended : (before : List Statement) (at : ℕ) (s : Statement) (end : ℕ) → StatementsBefore with_params names text tokens before at → SpellsStatement with_params names text tokens at s end → stands text tokens end lexeme.End ≡ false → stands text tokens end lexeme.Semicolon ≡ false → StatementsFault with_params names text tokens (fault.Syntax end)
