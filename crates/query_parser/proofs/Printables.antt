-- Statements that print, within the limit on nesting, as texts that are read again: what a text that was read spells.
use Rattle.std.specs.Prelude.{Bool, true, false, not, ◌≡◌, ℕ, ◌+◌, ◌^◌, ◌<◌, ◌≤◌, ◌==◌, List, [], ◌∷◌, length, map, Option, Some, None, pos, negsuc}
use Rattle.std.specs.Char.{to_ascii_lowercase}
use Rattle.std.specs.List.{list_all}
use Rattle.word_tokens.specs.Words.{is_name_of}
use Rattle.feature_expr.specs.Printing.{HasNames, text_nesting}
use Rattle.values.specs.declared.column_name.ColName.{ColName}
use Rattle.feature_expr.specs.declared.expr.Expr.{Expr}
use Rattle.word_tokens.specs.Tokens.{parameter_limit}
use Rattle.values.specs.declared.value.Value.TheVariants as value
use Rattle.vra_syntax.specs.declared.cond.Cond.{Cond}
use Rattle.vra_syntax.specs.declared.cond.Cond as cond
use Rattle.vra_syntax.specs.declared.cond.Op.{Op}
use Rattle.vra_syntax.specs.declared.cond.Operand.{Operand}
use Rattle.vra_syntax.specs.declared.cond.Operand.TheVariants as operand
use Rattle.vra_syntax.specs.declared.items.Item.{Item}
use Rattle.vra_syntax.specs.declared.items.Items.{Items}
use Rattle.vra_syntax.specs.declared.items.Items.TheVariants as items
use Rattle.vra_syntax.specs.declared.query.Query.{Query}
use Rattle.vra_syntax.specs.declared.query.Query as query
use Rattle.vra_syntax.specs.declared.statement.Statement.{Statement}
use Rattle.vra_syntax.specs.declared.statement.Statement.TheVariants as statement
use Rattle.vra_syntax.specs.declared.write.SetItem.{SetItem}
use Rattle.vra_syntax.specs.declared.write.Write.TheVariants as write
use Rattle.query_printer.specs.Printing.{takes_and, takes_or, takes_chain, takes_select, takes_join, takes_alias}
use Rattle.feature_expr.specs.Nesting.{nesting_limit}
use Rattle.query_printer.specs.declared.print_cond.CondPlace.{CondPlace}
use Rattle.query_printer.specs.declared.print_cond.CondPlace.TheVariants as cplace
use Rattle.query_printer.specs.declared.print_query.QueryPlace.{QueryPlace}
use Rattle.query_printer.specs.declared.print_query.QueryPlace.TheVariants as qplace

-- a name in lower case
abbrev pub PlainName : List ℕ → Type 0
PlainName name = (is_name_of name ≡ true) × (map to_ascii_lowercase name ≡ name)

abbrev pub PlainNames : List (List ℕ) → Type 0
PlainNames [] = Unit {0}
PlainNames (name ∷ names) = PlainName name × PlainNames names

abbrev pub PlainPrefix : Option (List ℕ) → Type 0
PlainPrefix None = Unit {0}
PlainPrefix (Some prefix) = PlainName prefix

abbrev pub PlainColumn : ColName → Type 0
PlainColumn column = PlainPrefix column.prefix × PlainName column.base

abbrev pub PlainRename : Option ColName → Type 0
PlainRename None = Unit {0}
PlainRename (Some column) = PlainColumn column

-- no zero byte
abbrev pub IsQuotable : List ℕ → Type 0
IsQuotable bytes = list_all (λ byte. not (byte == 0)) bytes ≡ true

-- a literal or a parameter, each within its range
pub data PlainValue (with_params : Bool) : Operand → Type 0 where
  plain_positive : (n : ℕ) → n < 2 ^ 63 → PlainValue with_params (operand.Literal (value.Int (pos n)))
  plain_negative : (n : ℕ) → n < 2 ^ 63 → PlainValue with_params (operand.Literal (value.Int (negsuc n)))
  plain_text : (bytes : List ℕ) → IsQuotable bytes → PlainValue with_params (operand.Literal (value.Text bytes))
  plain_truth : (truth : Bool) → PlainValue with_params (operand.Literal (value.Bool truth))
  plain_param : (number : ℕ) → with_params ≡ true → 0 < number → number ≤ parameter_limit → PlainValue with_params (operand.Param number)

pub data PlainOperand (with_params : Bool) : Operand → Type 0 where
  plain_column : (column : ColName) → PlainColumn column → PlainOperand with_params (operand.Column column)
  plain_value : (v : Operand) → PlainValue with_params v → PlainOperand with_params v

abbrev pub PlainValues : Bool → List Operand → Type 0
PlainValues with_params [] = Unit {0}
PlainValues with_params (v ∷ vs) = PlainValue with_params v × PlainValues with_params vs

-- an expression with so many brackets, `not` and choices open round it
abbrev pub PlainExpr : List (List ℕ) → ℕ → Expr → Type 0
PlainExpr names n expr = HasNames names expr × (n + text_nesting expr ≤ nesting_limit)

abbrev pub PlainItemWhen : List (List ℕ) → ℕ → Option Expr → Type 0
PlainItemWhen names n None = Unit {0}
PlainItemWhen names n (Some expr) = PlainExpr names n expr

pub record PlainItem (names : List (List ℕ)) (n : ℕ) (item : Item) : Type 0 where
  pub column : PlainColumn item.column
  pub rename : PlainRename item.rename
  pub condition : PlainItemWhen names n item.cond

abbrev pub PlainItemList : List (List ℕ) → ℕ → List Item → Type 0
PlainItemList names n [] = Unit {0}
PlainItemList names n (item ∷ more) = PlainItem names n item × PlainItemList names n more

abbrev pub PlainItems : List (List ℕ) → ℕ → Items → Type 0
PlainItems names n items.All = Unit {0}
PlainItems names n (items.Listed listed) = (0 < length listed) × PlainItemList names n listed

-- a condition at a place
pub data PlainCond (with_params : Bool) (names : List (List ℕ)) : ℕ → CondPlace → Cond → Type 0 where
  plain_comparison : (n : ℕ) (at : CondPlace) (left : Operand) (op : Op) (right : Operand) → PlainOperand with_params left → PlainOperand with_params right → PlainCond with_params names n at (cond.Cmp left op right)
  plain_true : (n : ℕ) (at : CondPlace) → PlainCond with_params names n at cond.True
  plain_false : (n : ℕ) (at : CondPlace) → PlainCond with_params names n at cond.False
  plain_not : (n : ℕ) (at : CondPlace) (inner : Cond) → n < nesting_limit → PlainCond with_params names (n + 1) cplace.Operand inner → PlainCond with_params names n at (cond.Not inner)
  free_and : (n : ℕ) (at : CondPlace) (left right : Cond) → takes_and at ≡ true → PlainCond with_params names n cplace.Conjunct left → PlainCond with_params names n cplace.Operand right → PlainCond with_params names n at (cond.And left right)
  bound_and : (n : ℕ) (at : CondPlace) (left right : Cond) → takes_and at ≡ false → n < nesting_limit → PlainCond with_params names (n + 1) cplace.Conjunct left → PlainCond with_params names (n + 1) cplace.Operand right → PlainCond with_params names n at (cond.And left right)
  free_or : (n : ℕ) (at : CondPlace) (left right : Cond) → takes_or at ≡ true → PlainCond with_params names n cplace.Disjunct left → PlainCond with_params names n cplace.Conjunct right → PlainCond with_params names n at (cond.Or left right)
  bound_or : (n : ℕ) (at : CondPlace) (left right : Cond) → takes_or at ≡ false → n < nesting_limit → PlainCond with_params names (n + 1) cplace.Disjunct left → PlainCond with_params names (n + 1) cplace.Conjunct right → PlainCond with_params names n at (cond.Or left right)
  plain_cond_choice : (n : ℕ) (at : CondPlace) (expr : Expr) (left right : Cond) → n + 1 < nesting_limit → PlainExpr names (n + 1) expr → PlainCond with_params names (n + 2) cplace.Disjunct left → PlainCond with_params names (n + 2) cplace.Disjunct right → PlainCond with_params names n at (cond.Choice expr left right)

-- a query at a place
pub data PlainQuery (with_params : Bool) (names : List (List ℕ)) : ℕ → QueryPlace → Query → Type 0 where
  plain_table : (n : ℕ) (at : QueryPlace) (name : List ℕ) → PlainName name → PlainQuery with_params names n at (query.Table name)
  plain_empty : (n : ℕ) (at : QueryPlace) → PlainQuery with_params names n at query.Empty
  free_select : (n : ℕ) (at : QueryPlace) (kept : Items) (source : Query) (c : Cond) → takes_select at ≡ true → PlainItems names n kept → PlainQuery with_params names n qplace.Source source → PlainCond with_params names n cplace.Disjunct c → PlainQuery with_params names n at (query.Select kept source c)
  bound_select : (n : ℕ) (at : QueryPlace) (kept : Items) (source : Query) (c : Cond) → takes_select at ≡ false → n < nesting_limit → PlainItems names (n + 1) kept → PlainQuery with_params names (n + 1) qplace.Source source → PlainCond with_params names (n + 1) cplace.Disjunct c → PlainQuery with_params names n at (query.Select kept source c)
  plain_join : (n : ℕ) (at : QueryPlace) (left right : Query) (c : Cond) → takes_join at ≡ true → PlainQuery with_params names n qplace.Source left → PlainQuery with_params names n qplace.Joined right → PlainCond with_params names n cplace.Disjunct c → PlainQuery with_params names n at (query.Join left right c)
  free_union : (n : ℕ) (at : QueryPlace) (left right : Query) → takes_chain at ≡ true → PlainQuery with_params names n qplace.Whole left → PlainQuery with_params names n qplace.Term right → PlainQuery with_params names n at (query.Union left right)
  bound_union : (n : ℕ) (at : QueryPlace) (left right : Query) → takes_chain at ≡ false → n < nesting_limit → PlainQuery with_params names (n + 1) qplace.Whole left → PlainQuery with_params names (n + 1) qplace.Term right → PlainQuery with_params names n at (query.Union left right)
  free_except : (n : ℕ) (at : QueryPlace) (left right : Query) → takes_chain at ≡ true → PlainQuery with_params names n qplace.Whole left → PlainQuery with_params names n qplace.Term right → PlainQuery with_params names n at (query.Except left right)
  bound_except : (n : ℕ) (at : QueryPlace) (left right : Query) → takes_chain at ≡ false → n < nesting_limit → PlainQuery with_params names (n + 1) qplace.Whole left → PlainQuery with_params names (n + 1) qplace.Term right → PlainQuery with_params names n at (query.Except left right)
  plain_alias : (n : ℕ) (at : QueryPlace) (source : Query) (name : List ℕ) → takes_alias at ≡ true → PlainQuery with_params names n qplace.Named source → PlainName name → PlainQuery with_params names n at (query.Alias source name)
  plain_query_choice : (n : ℕ) (at : QueryPlace) (expr : Expr) (left right : Query) → n + 1 < nesting_limit → PlainExpr names (n + 1) expr → PlainQuery with_params names (n + 2) qplace.Whole left → PlainQuery with_params names (n + 2) qplace.Whole right → PlainQuery with_params names n at (query.Choice expr left right)

abbrev pub PlainSetItems : Bool → List SetItem → Type 0
PlainSetItems with_params [] = Unit {0}
PlainSetItems with_params (item ∷ more) = PlainName item.column × PlainValue with_params item.value × PlainSetItems with_params more

-- rows of an insert, each with so many values
abbrev pub PlainRows : Bool → ℕ → List (List Operand) → Type 0
PlainRows with_params count [] = Unit {0}
PlainRows with_params count (row ∷ rows) = (length row ≡ count) × PlainValues with_params row × PlainRows with_params count rows

pub data PlainStatement (with_params : Bool) (names : List (List ℕ)) : Statement → Type 0 where
  plain_begin : PlainStatement with_params names statement.Begin
  plain_commit : PlainStatement with_params names statement.Commit
  plain_rollback : PlainStatement with_params names statement.Rollback
  plain_set : PlainStatement with_params names statement.Set
  plain_query : (q : Query) → PlainQuery with_params names 0 qplace.Whole q → PlainStatement with_params names (statement.Query q)
  plain_insert : (table : List ℕ) (columns : List (List ℕ)) (rows : List (List Operand)) (expr : Expr) → PlainName table → 0 < length columns → PlainNames columns → 0 < length rows → PlainRows with_params (length columns) rows → PlainExpr names 0 expr → PlainStatement with_params names (statement.Write (write.Insert table columns rows expr))
  plain_delete : (table : List ℕ) (c : Cond) (expr : Expr) → PlainName table → PlainCond with_params names 0 cplace.Disjunct c → PlainExpr names 0 expr → PlainStatement with_params names (statement.Write (write.Delete table c expr))
  plain_update : (table : List ℕ) (changes : List SetItem) (c : Cond) (expr : Expr) → PlainName table → 0 < length changes → PlainSetItems with_params changes → PlainCond with_params names 0 cplace.Disjunct c → PlainExpr names 0 expr → PlainStatement with_params names (statement.Write (write.Update table changes c expr))

abbrev pub PlainStatements : Bool → List (List ℕ) → List Statement → Type 0
PlainStatements with_params names [] = Unit {0}
PlainStatements with_params names (s ∷ all) = PlainStatement with_params names s × PlainStatements with_params names all
