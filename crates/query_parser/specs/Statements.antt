-- What the tokens of writes, of other statements and of whole texts spell.
use Rattle.std.specs.Prelude.{Bool, true, false, ◌≡◌, ℕ, ◌+◌, ◌||◌, List, [], ◌∷◌, ◌++◌, length, Some, Ok}
use Rattle.feature_expr.specs.declared.expr.Expr.{Expr}
use Rattle.word_tokens.specs.declared.token.Token.{Token}
use Rattle.vra_syntax.specs.declared.cond.Cond.{Cond}
use Rattle.vra_syntax.specs.declared.cond.Operand.{Operand}
use Rattle.vra_syntax.specs.declared.query.Query.{Query}
use Rattle.vra_syntax.specs.declared.statement.Statement.{Statement}
use Rattle.vra_syntax.specs.declared.statement.Statement.TheVariants as statement
use Rattle.vra_syntax.specs.declared.write.SetItem.{SetItem}
use Rattle.vra_syntax.specs.declared.write.Write.TheVariants as write
use Rattle.query_parser.specs.Conditions.{IsWhere}
use Rattle.query_parser.specs.Lexemes.{lexeme_at, stands, name_at, value_at}
use Rattle.query_parser.specs.Parts.{IsWhen}
use Rattle.query_parser.specs.Queries.{WholeQuery, SpellsQuery}
use Rattle.query_parser.specs.StatementGrammar.{is_word}
use Rattle.query_parser.specs.declared.lexeme.Lexeme.TheVariants as lexeme

-- from one place on, these names stand with commas between them
pub data NamesTo (text : List ℕ) (tokens : List Token) (from : ℕ) : List (List ℕ) → ℕ → Type 0 where
  one_name : (name : List ℕ) → name_at text tokens from ≡ Some name → NamesTo text tokens from (name ∷ []) (from + 1)
  another_name : (before : List (List ℕ)) (at : ℕ) (name : List ℕ) → NamesTo text tokens from before at → stands text tokens at lexeme.Comma ≡ true → name_at text tokens (at + 1) ≡ Some name → NamesTo text tokens from (before ++ name ∷ []) (at + 2)

-- these values
pub data ValuesTo (with_params : Bool) (text : List ℕ) (tokens : List Token) (from : ℕ) : List Operand → ℕ → Type 0 where
  one_value : (value : Operand) → value_at with_params text tokens from ≡ Ok value → ValuesTo with_params text tokens from (value ∷ []) (from + 1)
  another_value : (before : List Operand) (at : ℕ) (value : Operand) → ValuesTo with_params text tokens from before at → stands text tokens at lexeme.Comma ≡ true → value_at with_params text tokens (at + 1) ≡ Ok value → ValuesTo with_params text tokens from (before ++ value ∷ []) (at + 2)

-- a row of an insert: as many values in brackets as there are names
pub record IsTuple (with_params : Bool) (text : List ℕ) (tokens : List Token) (count at : ℕ) (values : List Operand) (end : ℕ) : Type 0 where
  pub opens : stands text tokens at lexeme.Open ≡ true
  pub close : ℕ
  pub listed : ValuesTo with_params text tokens (at + 1) values close
  pub closes : stands text tokens close lexeme.Close ≡ true
  pub complete : length values ≡ count
  pub ends : end ≡ close + 1

-- these rows
pub data TuplesTo (with_params : Bool) (text : List ℕ) (tokens : List Token) (count from : ℕ) : List (List Operand) → ℕ → Type 0 where
  one_tuple : (values : List Operand) (end : ℕ) → IsTuple with_params text tokens count from values end → TuplesTo with_params text tokens count from (values ∷ []) end
  another_tuple : (before : List (List Operand)) (at : ℕ) (values : List Operand) (end : ℕ) → TuplesTo with_params text tokens count from before at → stands text tokens at lexeme.Comma ≡ true → IsTuple with_params text tokens count (at + 1) values end → TuplesTo with_params text tokens count from (before ++ values ∷ []) end

-- a column of an update and its new value
pub record IsSetItem (with_params : Bool) (text : List ℕ) (tokens : List Token) (at : ℕ) (item : SetItem) : Type 0 where
  pub named : name_at text tokens at ≡ Some item.column
  pub equals : stands text tokens (at + 1) lexeme.Equal ≡ true
  pub valued : value_at with_params text tokens (at + 2) ≡ Ok item.value

-- these columns
pub data SetItemsTo (with_params : Bool) (text : List ℕ) (tokens : List Token) (from : ℕ) : List SetItem → ℕ → Type 0 where
  one_set_item : (item : SetItem) → IsSetItem with_params text tokens from item → SetItemsTo with_params text tokens from (item ∷ []) (from + 3)
  another_set_item : (before : List SetItem) (at : ℕ) (item : SetItem) → SetItemsTo with_params text tokens from before at → stands text tokens at lexeme.Comma ≡ true → IsSetItem with_params text tokens (at + 1) item → SetItemsTo with_params text tokens from (before ++ item ∷ []) (at + 4)

-- behind the word `insert`
pub record IsInsert (with_params : Bool) (names : List (List ℕ)) (text : List ℕ) (tokens : List Token) (at : ℕ) (table : List ℕ) (columns : List (List ℕ)) (rows : List (List Operand)) (expr : Expr) (end : ℕ) : Type 0 where
  pub into : stands text tokens at lexeme.Into ≡ true
  pub named : name_at text tokens (at + 1) ≡ Some table
  pub opens : stands text tokens (at + 2) lexeme.Open ≡ true
  pub close : ℕ
  pub listed : NamesTo text tokens (at + 3) columns close
  pub closes : stands text tokens close lexeme.Close ≡ true
  pub values : stands text tokens (close + 1) lexeme.Values ≡ true
  pub last : ℕ
  pub given : TuplesTo with_params text tokens (length columns) (close + 2) rows last
  pub no_more : stands text tokens last lexeme.Comma ≡ false
  pub condition : IsWhen names text tokens last expr end

-- behind the word `delete`
pub record IsDelete (with_params : Bool) (names : List (List ℕ)) (text : List ℕ) (tokens : List Token) (at : ℕ) (table : List ℕ) (c : Cond) (expr : Expr) (end : ℕ) : Type 0 where
  pub from : stands text tokens at lexeme.From ≡ true
  pub named : name_at text tokens (at + 1) ≡ Some table
  pub last : ℕ
  pub chosen : IsWhere with_params names text tokens 0 (at + 2) c last
  pub condition : IsWhen names text tokens last expr end

-- behind the word `update`
pub record IsUpdate (with_params : Bool) (names : List (List ℕ)) (text : List ℕ) (tokens : List Token) (at : ℕ) (table : List ℕ) (items : List SetItem) (c : Cond) (expr : Expr) (end : ℕ) : Type 0 where
  pub named : name_at text tokens at ≡ Some table
  pub sets : stands text tokens (at + 1) lexeme.Set ≡ true
  pub behind : ℕ
  pub listed : SetItemsTo with_params text tokens (at + 2) items behind
  pub no_more : stands text tokens behind lexeme.Comma ≡ false
  pub last : ℕ
  pub chosen : IsWhere with_params names text tokens 0 behind c last
  pub condition : IsWhen names text tokens last expr end

-- behind `begin`, `commit` and `rollback` one of two words may stand
pub data IsTail (text : List ℕ) (tokens : List Token) (at : ℕ) : ℕ → Type 0 where
  no_tail : stands text tokens at lexeme.Transaction ≡ false → stands text tokens at lexeme.Work ≡ false → IsTail text tokens at at
  transaction_tail : stands text tokens at lexeme.Transaction ≡ true → IsTail text tokens at (at + 1)
  work_tail : stands text tokens at lexeme.Work ≡ true → IsTail text tokens at (at + 1)

-- the value of a setting: any word, an integer or a text
pub data IsSetting (with_params : Bool) (text : List ℕ) (tokens : List Token) (at : ℕ) : Type 0 where
  word_setting : is_word (lexeme_at text tokens at) ≡ true → IsSetting with_params text tokens at
  integer_setting : (value : Operand) → stands text tokens at lexeme.Integer ≡ true → value_at with_params text tokens at ≡ Ok value → IsSetting with_params text tokens at
  text_setting : stands text tokens at lexeme.Text ≡ true → IsSetting with_params text tokens at

-- a statement
pub data SpellsStatement (with_params : Bool) (names : List (List ℕ)) (text : List ℕ) (tokens : List Token) (at : ℕ) : Statement → ℕ → Type 0 where
  begin_statement : (end : ℕ) → stands text tokens at lexeme.Begin ≡ true → IsTail text tokens (at + 1) end → SpellsStatement with_params names text tokens at statement.Begin end
  commit_statement : (end : ℕ) → stands text tokens at lexeme.Commit ≡ true → IsTail text tokens (at + 1) end → SpellsStatement with_params names text tokens at statement.Commit end
  rollback_statement : (end : ℕ) → stands text tokens at lexeme.Rollback ≡ true → IsTail text tokens (at + 1) end → SpellsStatement with_params names text tokens at statement.Rollback end
  set_statement : stands text tokens at lexeme.Set ≡ true → is_word (lexeme_at text tokens (at + 1)) ≡ true → stands text tokens (at + 2) lexeme.To || stands text tokens (at + 2) lexeme.Equal ≡ true → IsSetting with_params text tokens (at + 3) → SpellsStatement with_params names text tokens at statement.Set (at + 4)
  insert_statement : (table : List ℕ) (columns : List (List ℕ)) (rows : List (List Operand)) (expr : Expr) (end : ℕ) → stands text tokens at lexeme.Insert ≡ true → IsInsert with_params names text tokens (at + 1) table columns rows expr end → SpellsStatement with_params names text tokens at (statement.Write (write.Insert table columns rows expr)) end
  delete_statement : (table : List ℕ) (c : Cond) (expr : Expr) (end : ℕ) → stands text tokens at lexeme.Delete ≡ true → IsDelete with_params names text tokens (at + 1) table c expr end → SpellsStatement with_params names text tokens at (statement.Write (write.Delete table c expr)) end
  update_statement : (table : List ℕ) (items : List SetItem) (c : Cond) (expr : Expr) (end : ℕ) → stands text tokens at lexeme.Update ≡ true → IsUpdate with_params names text tokens (at + 1) table items c expr end → SpellsStatement with_params names text tokens at (statement.Write (write.Update table items c expr)) end
  query_statement : (q : Query) (end : ℕ) → SpellsQuery with_params names text tokens (WholeQuery 0) at q end → SpellsStatement with_params names text tokens at (statement.Query q) end

-- these statements stand before a place at which a further one may stand: between any two, and before or behind them,
-- semicolons
pub data StatementsBefore (with_params : Bool) (names : List (List ℕ)) (text : List ℕ) (tokens : List Token) : List Statement → ℕ → Type 0 where
  no_statement_yet : StatementsBefore with_params names text tokens [] 0
  no_statement_here : (before : List Statement) (at : ℕ) → StatementsBefore with_params names text tokens before at → stands text tokens at lexeme.Semicolon ≡ true → StatementsBefore with_params names text tokens before (at + 1)
  another_statement : (before : List Statement) (at : ℕ) (s : Statement) (end : ℕ) → StatementsBefore with_params names text tokens before at → SpellsStatement with_params names text tokens at s end → stands text tokens end lexeme.Semicolon ≡ true → StatementsBefore with_params names text tokens (before ++ s ∷ []) (end + 1)

-- all the tokens of a text are these statements
pub data AreStatements (with_params : Bool) (names : List (List ℕ)) (text : List ℕ) (tokens : List Token) : List Statement → Type 0 where
  ends_bare : (all : List Statement) (at : ℕ) → StatementsBefore with_params names text tokens all at → stands text tokens at lexeme.End ≡ true → AreStatements with_params names text tokens all
  ends_with_statement : (before : List Statement) (at : ℕ) (s : Statement) (end : ℕ) → StatementsBefore with_params names text tokens before at → SpellsStatement with_params names text tokens at s end → stands text tokens end lexeme.End ≡ true → AreStatements with_params names text tokens (before ++ s ∷ [])
