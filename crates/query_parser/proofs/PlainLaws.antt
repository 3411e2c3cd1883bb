-- The statements that a text spells are plain.
use Rattle.std.proofs.Common.{◌≡◌, ℕ, ◌+◌, ◌<◌, Bool, List, [], ◌∷◌, ◌++◌, length, arith}
use Rattle.std.proofs.lemmas.List.{length-append}
use Rattle.word_tokens.specs.Tokens.{AreTokens}
use Rattle.word_tokens.specs.declared.token.Token.{Token}
use Rattle.vra_syntax.specs.declared.cond.Operand.{Operand}
use Rattle.vra_syntax.specs.declared.statement.Statement.{Statement}
use Rattle.vra_syntax.specs.declared.write.SetItem.{SetItem}
use Rattle.query_parser.specs.Statements.{NamesTo, one_name, another_name, ValuesTo, one_value, another_value, IsTuple, TuplesTo, one_tuple, another_tuple, SetItemsTo, one_set_item, another_set_item, SpellsStatement, begin_statement, commit_statement, rollback_statement, set_statement, insert_statement, delete_statement, update_statement, query_statement, StatementsBefore, no_statement_yet, no_statement_here, another_statement, AreStatements, ends_bare, ends_with_statement}
use Rattle.query_parser.proofs.Printables.{PlainName, PlainNames, PlainValue, PlainValues, PlainSetItems, PlainRows, PlainStatement, plain_begin, plain_commit, plain_rollback, plain_set, plain_query, plain_insert, plain_delete, plain_update, PlainStatements}
use Rattle.query_parser.proofs.PlainTokens.{plain_name, plain_value_at}
use Rattle.query_parser.proofs.PlainParts.{plain_when_at}
use Rattle.query_parser.proofs.PlainConds.{plain_where_at}
use Rattle.query_parser.proofs.PlainQueries.{plain_query_at}

-- one more at the end
pushed_some : {X : Type 0} (before : List X) (x : X) → 0 < length (before ++ x ∷ [])
pushed_some {X} before x = rw length-append (omega arith)

push_name : (before : List (List ℕ)) (name : List ℕ) → PlainNames before → PlainName name → PlainNames (before ++ name ∷ [])
push_name [] name all plain = (plain, tt)
push_name (x ∷ before) name all plain = (all.0, push_name before name all.1 plain)

push_value : (with_params : Bool) (before : List Operand) (v : Operand) → PlainValues with_params before → PlainValue with_params v → PlainValues with_params (before ++ v ∷ [])
push_value with_params [] v all plain = (plain, tt)
push_value with_params (x ∷ before) v all plain = (all.0, push_value with_params before v all.1 plain)

push_row : (with_params : Bool) (count : ℕ) (before : List (List Operand)) (row : List Operand) → PlainRows with_params count before → length row ≡ count → PlainValues with_params row → PlainRows with_params count (before ++ row ∷ [])
push_row with_params count [] row all size plain = (size, plain, tt)
push_row with_params count (x ∷ before) row all size plain = (all.0, all.1, push_row with_params count before row all.2 size plain)

push_set_item : (with_params : Bool) (before : List SetItem) (item : SetItem) → PlainSetItems with_params before → PlainName item.column → PlainValue with_params item.value → PlainSetItems with_params (before ++ item ∷ [])
push_set_item with_params [] item all named valued = (named, valued, tt)
push_set_item with_params (x ∷ before) item all named valued = (all.0, all.1, push_set_item with_params before item all.2 named valued)

push_statement : (with_params : Bool) (names : List (List ℕ)) (before : List Statement) (s : Statement) → PlainStatements with_params names before → PlainStatement with_params names s → PlainStatements with_params names (before ++ s ∷ [])
push_statement with_params names [] s all plain = (plain, tt)
push_statement with_params names (x ∷ before) s all plain = (all.0, push_statement with_params names before s all.1 plain)

module _ (text : List ℕ) (tokens : List Token) where
  plain_names_to : (from : ℕ) (listed : List (List ℕ)) (end : ℕ) → NamesTo text tokens from listed end → (0 < length listed) × PlainNames listed
  plain_names_to f all z (one_name name named) = (omega arith, (plain_name text tokens f name named, tt))
  plain_names_to f all z (another_name before at name d comma named) = (pushed_some before name, push_name before name (plain_names_to f before at d).1 (plain_name text tokens (at + 1) name named))

module _ (with_params : Bool) (text : List ℕ) (tokens : List Token) (are : AreTokens text tokens) where
  plain_values_to : (from : ℕ) (listed : List Operand) (end : ℕ) → ValuesTo with_params text tokens from listed end → PlainValues with_params listed
  plain_values_to f all z (one_value v valued) = (plain_value_at with_params text tokens are f v valued, tt)
  plain_values_to f all z (another_value before at v d comma valued) = push_value with_params before v (plain_values_to f before at d) (plain_value_at with_params text tokens are (at + 1) v valued)

  plain_tuple_at : (count at : ℕ) (row : List Operand) (end : ℕ) → IsTuple with_params text tokens count at row end → PlainValues with_params row
  plain_tuple_at count at row end is = plain_values_to (at + 1) row is.close is.listed

  plain_tuples_to : (count from : ℕ) (rows : List (List Operand)) (end : ℕ) → TuplesTo with_params text tokens count from rows end → (0 < length rows) × PlainRows with_params count rows
  plain_tuples_to count f all z (one_tuple row end is) = (omega arith, (is.complete, plain_tuple_at count f row end is, tt))
  plain_tuples_to count f all z (another_tuple before at row end d comma is) =
      (pushed_some before row, push_row with_params count before row (plain_tuples_to count f before at d).1 is.complete (plain_tuple_at count (at + 1) row end is))

  plain_set_items_to : (from : ℕ) (changes : List SetItem) (end : ℕ) → SetItemsTo with_params text tokens from changes end → (0 < length changes) × PlainSetItems with_params changes
  plain_set_items_to f all z (one_set_item item is) = (omega arith, (plain_name text tokens f item.column is.named, plain_value_at with_params text tokens are (f + 2) item.value is.valued, tt))
  plain_set_items_to f all z (another_set_item before at item d comma is) =
      (pushed_some before item, push_set_item with_params before item (plain_set_items_to f before at d).1 (plain_name text tokens (at + 1) item.column is.named) (plain_value_at with_params text tokens are (at + 1 + 2) item.value is.valued))

module _ (with_params : Bool) (names : List (List ℕ)) (text : List ℕ) (tokens : List Token) (are : AreTokens text tokens) where
  plain_statement_at : (at : ℕ) (s : Statement) (end : ℕ) → SpellsStatement with_params names text tokens at s end → PlainStatement with_params names s
  plain_statement_at a x z (begin_statement end is tail) = plain_begin
  plain_statement_at a x z (commit_statement end is tail) = plain_commit
  plain_statement_at a x z (rollback_statement end is tail) = plain_rollback
  plain_statement_at a x z (set_statement is word to setting) = plain_set
  plain_statement_at a x z (insert_statement table columns rows expr end is d) =
      let listed = plain_names_to text tokens (a + 1 + 3) columns d.close d.listed in
      let given = plain_tuples_to with_params text tokens are (length columns) (d.close + 2) rows d.last d.given in
      plain_insert table columns rows expr (plain_name text tokens (a + 1 + 1) table d.named) listed.0 listed.1 given.0 given.1 (plain_when_at names text tokens d.last expr end d.condition)
  plain_statement_at a x z (delete_statement table c expr end is d) =
      plain_delete table c expr (plain_name text tokens (a + 1 + 1) table d.named) (plain_where_at with_params names text tokens are 0 (a + 1 + 2) c d.last d.chosen) (plain_when_at names text tokens d.last expr end d.condition)
  plain_statement_at a x z (update_statement table changes c expr end is d) =
      let listed = plain_set_items_to with_params text tokens are (a + 1 + 2) changes d.behind d.listed in
      plain_update table changes c expr (plain_name text tokens (a + 1) table d.named) listed.0 listed.1 (plain_where_at with_params names text tokens are 0 d.behind c d.last d.chosen) (plain_when_at names text tokens d.last expr end d.condition)
  plain_statement_at a x z (query_statement q end d) = plain_query q (plain_query_at with_params names text tokens are 0 a q end (omega arith) d)

  plain_before : (all : List Statement) (at : ℕ) → StatementsBefore with_params names text tokens all at → PlainStatements with_params names all
  plain_before all a no_statement_yet = tt
  plain_before all a (no_statement_here before at d semicolon) = plain_before before at d
  plain_before all a (another_statement before at s end d is semicolon) = push_statement with_params names before s (plain_before before at d) (plain_statement_at at s end is)

-- what a text spells is plain
pub plain_statements : (with_params : Bool) (names : List (List ℕ)) (text : List ℕ) (tokens : List Token) → AreTokens text tokens → (all : List Statement) → AreStatements with_params names text tokens all → PlainStatements with_params names all
plain_statements with_params names text tokens are x (ends_bare all at d end) = plain_before with_params names text tokens are all at d
plain_statements with_params names text tokens are x (ends_with_statement before at s end d is last) =
    push_statement with_params names before s (plain_before with_params names text tokens are before at d) (plain_statement_at with_params names text tokens are at s end is)
