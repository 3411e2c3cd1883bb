-- Where the reading of a text ends at a fault, part by part. What stands before the fault was read; want of memory may
-- come anywhere.
use Rattle.std.specs.Prelude.{Bool, true, false, ◌≡◌, ◌≢◌, ℕ, ◌+◌, ◌<◌, ◌≤◌, List, Option, Some, None, Err}
use Rattle.feature_expr.specs.ExprGrammar.{Disjunction, IsRefused, IsFirst}
use Rattle.values.specs.declared.column_name.ColName.{ColName}
use Rattle.feature_expr.specs.declared.expr.Expr.{Expr}
use Rattle.feature_expr.specs.declared.parse.Fault.{Fault}
use Rattle.word_tokens.specs.declared.token.Token.{Token}
use Rattle.values.specs.declared.value.Value.TheVariants as value
use Rattle.vra_syntax.specs.declared.cond.Cond.{Cond}
use Rattle.vra_syntax.specs.declared.cond.Op.{Op}
use Rattle.vra_syntax.specs.declared.cond.Operand.{Operand}
use Rattle.vra_syntax.specs.declared.cond.Operand.TheVariants as operand
use Rattle.vra_syntax.specs.declared.items.Item.{Item}
use Rattle.vra_syntax.specs.declared.items.Items.{Items}
use Rattle.vra_syntax.specs.declared.query.Query.{Query}
use Rattle.query_parser.specs.Conditions.{CondPart, OrChain, Condition, AndChain, Conjunction, Negation, SpellsCond}
use Rattle.query_parser.specs.Lexemes.{stands, name_at, op_at, value_at}
use Rattle.query_parser.specs.Parts.{IsColumn, IsOperand, IsExpression, IsChoice, IsRename, ItemsTo, AreItems}
use Rattle.query_parser.specs.ExpressionFaults.{fault_of}
use Rattle.query_parser.specs.Queries.{QueryPart, QueryChain, WholeQuery, Term, Simple, SourceChain, WholeSource, SourceTerm, SpellsQuery}
use Rattle.query_parser.specs.declared.fault.ParseFault.{ParseFault}
use Rattle.query_parser.specs.declared.fault.ParseFault.TheVariants as fault
use Rattle.query_parser.specs.declared.lexeme.Lexeme.TheVariants as lexeme
use Rattle.feature_expr.specs.Nesting.{nesting_limit}

pub data ColumnFault (text : List ℕ) (tokens : List Token) (at : ℕ) : ParseFault → Type 0 where
  column_memory : ColumnFault text tokens at fault.Memory
  no_column : name_at text tokens at ≡ None → ColumnFault text tokens at (fault.Syntax at)
  no_base : (prefix : List ℕ) → name_at text tokens at ≡ Some prefix → stands text tokens (at + 1) lexeme.Dot ≡ true → name_at text tokens (at + 2) ≡ None → ColumnFault text tokens at (fault.Syntax (at + 2))

pub data OperandFault (with_params : Bool) (text : List ℕ) (tokens : List Token) (at : ℕ) : ParseFault → Type 0 where
  operand_memory : OperandFault with_params text tokens at fault.Memory
  in_column : (name : List ℕ) (why : ParseFault) → name_at text tokens at ≡ Some name → ColumnFault text tokens at why → OperandFault with_params text tokens at why
  no_value : (why : ParseFault) → name_at text tokens at ≡ None → value_at with_params text tokens at ≡ Err why → OperandFault with_params text tokens at why

-- in a feature expression, whose features before the fault are known
pub record ExpressionFault (names : List (List ℕ)) (text : List ℕ) (tokens : List Token) (nesting at : ℕ) (why : ParseFault) : Type 0 where
  pub inner : Fault
  pub refused : IsRefused names text tokens nesting_limit (Disjunction nesting) at inner
  pub first : IsFirst names text tokens at inner
  pub given : why ≡ fault_of inner

-- from the word `choice` to the bracket before its sides
pub data ChoiceFault (names : List (List ℕ)) (text : List ℕ) (tokens : List Token) (nesting at : ℕ) : ParseFault → Type 0 where
  choice_too_deep : stands text tokens at lexeme.Choice ≡ true → nesting_limit ≤ nesting → ChoiceFault names text tokens nesting at (fault.TooDeep at)
  no_square : stands text tokens at lexeme.Choice ≡ true → nesting < nesting_limit → stands text tokens (at + 1) lexeme.OpenSquare ≡ false → ChoiceFault names text tokens nesting at (fault.Syntax (at + 1))
  in_chooser : (why : ParseFault) → stands text tokens at lexeme.Choice ≡ true → nesting < nesting_limit → stands text tokens (at + 1) lexeme.OpenSquare ≡ true → ExpressionFault names text tokens (nesting + 1) (at + 2) why → ChoiceFault names text tokens nesting at why
  square_unclosed : (expr : Expr) (close : ℕ) → stands text tokens at lexeme.Choice ≡ true → nesting < nesting_limit → stands text tokens (at + 1) lexeme.OpenSquare ≡ true → IsExpression names text tokens (nesting + 1) (at + 2) expr close → stands text tokens close lexeme.CloseSquare ≡ false → ChoiceFault names text tokens nesting at (fault.Syntax close)
  no_sides : (expr : Expr) (close : ℕ) → stands text tokens at lexeme.Choice ≡ true → nesting < nesting_limit → stands text tokens (at + 1) lexeme.OpenSquare ≡ true → IsExpression names text tokens (nesting + 1) (at + 2) expr close → stands text tokens close lexeme.CloseSquare ≡ true → stands text tokens (close + 1) lexeme.Open ≡ false → ChoiceFault names text tokens nesting at (fault.Syntax (close + 1))
  sides_too_deep : (expr : Expr) (close : ℕ) → stands text tokens at lexeme.Choice ≡ true → nesting < nesting_limit → stands text tokens (at + 1) lexeme.OpenSquare ≡ true → IsExpression names text tokens (nesting + 1) (at + 2) expr close → stands text tokens close lexeme.CloseSquare ≡ true → stands text tokens (close + 1) lexeme.Open ≡ true → nesting_limit ≤ nesting + 1 → ChoiceFault names text tokens nesting at (fault.TooDeep (close + 1))

pub data CondFault (with_params : Bool) (names : List (List ℕ)) (text : List ℕ) (tokens : List Token) : CondPart → ℕ → ParseFault → Type 0 where
  cond_memory : (part : CondPart) (at : ℕ) → CondFault with_params names text tokens part at fault.Memory
  in_first_conjunction : (n at : ℕ) (why : ParseFault) → CondFault with_params names text tokens (Conjunction n) at why → CondFault with_params names text tokens (Condition n) at why
  in_next_conjunction : (n at : ℕ) (left : Cond) (middle : ℕ) (why : ParseFault) → SpellsCond with_params names text tokens (OrChain n) at left middle → stands text tokens middle lexeme.Or ≡ true → CondFault with_params names text tokens (Conjunction n) (middle + 1) why → CondFault with_params names text tokens (Condition n) at why
  in_first_negation : (n at : ℕ) (why : ParseFault) → CondFault with_params names text tokens (Negation n) at why → CondFault with_params names text tokens (Conjunction n) at why
  in_next_negation : (n at : ℕ) (left : Cond) (middle : ℕ) (why : ParseFault) → SpellsCond with_params names text tokens (AndChain n) at left middle → stands text tokens middle lexeme.And ≡ true → CondFault with_params names text tokens (Negation n) (middle + 1) why → CondFault with_params names text tokens (Conjunction n) at why
  not_too_deep : (n at : ℕ) → stands text tokens at lexeme.Not ≡ true → nesting_limit ≤ n → CondFault with_params names text tokens (Negation n) at (fault.TooDeep at)
  in_not : (n at : ℕ) (why : ParseFault) → stands text tokens at lexeme.Not ≡ true → n < nesting_limit → CondFault with_params names text tokens (Negation (n + 1)) (at + 1) why → CondFault with_params names text tokens (Negation n) at why
  cond_too_deep : (n at : ℕ) → stands text tokens at lexeme.Open ≡ true → nesting_limit ≤ n → CondFault with_params names text tokens (Negation n) at (fault.TooDeep at)
  in_cond_brackets : (n at : ℕ) (why : ParseFault) → stands text tokens at lexeme.Open ≡ true → n < nesting_limit → CondFault with_params names text tokens (Condition (n + 1)) (at + 1) why → CondFault with_params names text tokens (Negation n) at why
  cond_unclosed : (n at : ℕ) (c : Cond) (end : ℕ) → stands text tokens at lexeme.Open ≡ true → n < nesting_limit → SpellsCond with_params names text tokens (Condition (n + 1)) (at + 1) c end → stands text tokens end lexeme.Close ≡ false → CondFault with_params names text tokens (Negation n) at (fault.Syntax end)
  in_cond_choice : (n at : ℕ) (why : ParseFault) → ChoiceFault names text tokens n at why → CondFault with_params names text tokens (Negation n) at why
  in_left_cond : (n at : ℕ) (expr : Expr) (sides : ℕ) (why : ParseFault) → IsChoice names text tokens n at expr sides → CondFault with_params names text tokens (Condition (n + 2)) sides why → CondFault with_params names text tokens (Negation n) at why
  no_right_cond : (n at : ℕ) (expr : Expr) (sides : ℕ) (left : Cond) (middle : ℕ) → IsChoice names text tokens n at expr sides → SpellsCond with_params names text tokens (Condition (n + 2)) sides left middle → stands text tokens middle lexeme.Comma ≡ false → CondFault with_params names text tokens (Negation n) at (fault.Syntax middle)
  in_right_cond : (n at : ℕ) (expr : Expr) (sides : ℕ) (left : Cond) (middle : ℕ) (why : ParseFault) → IsChoice names text tokens n at expr sides → SpellsCond with_params names text tokens (Condition (n + 2)) sides left middle → stands text tokens middle lexeme.Comma ≡ true → CondFault with_params names text tokens (Condition (n + 2)) (middle + 1) why → CondFault with_params names text tokens (Negation n) at why
  cond_sides_unclosed : (n at : ℕ) (expr : Expr) (sides : ℕ) (left right : Cond) (middle end : ℕ) → IsChoice names text tokens n at expr sides → SpellsCond with_params names text tokens (Condition (n + 2)) sides left middle → stands text tokens middle lexeme.Comma ≡ true → SpellsCond with_params names text tokens (Condition (n + 2)) (middle + 1) right end → stands text tokens end lexeme.Close ≡ false → CondFault with_params names text tokens (Negation n) at (fault.Syntax end)
  in_left_operand : (n at : ℕ) (why : ParseFault) → stands text tokens at lexeme.Not ≡ false → stands text tokens at lexeme.Open ≡ false → stands text tokens at lexeme.Choice ≡ false → OperandFault with_params text tokens at why → CondFault with_params names text tokens (Negation n) at why
  no_comparison : (n at : ℕ) (left : Operand) (middle : ℕ) → IsOperand with_params text tokens at left middle → left ≢ operand.Literal (value.Bool true) → left ≢ operand.Literal (value.Bool false) → op_at text tokens middle ≡ None → CondFault with_params names text tokens (Negation n) at (fault.Syntax middle)
  in_right_operand : (n at : ℕ) (left : Operand) (op : Op) (middle : ℕ) (why : ParseFault) → IsOperand with_params text tokens at left middle → op_at text tokens middle ≡ Some op → OperandFault with_params text tokens (middle + 1) why → CondFault with_params names text tokens (Negation n) at why

pub record WhereFault (with_params : Bool) (names : List (List ℕ)) (text : List ℕ) (tokens : List Token) (nesting at : ℕ) (why : ParseFault) : Type 0 where
  pub begins : stands text tokens at lexeme.Where ≡ true
  pub in_where : CondFault with_params names text tokens (Condition nesting) (at + 1) why

pub record WhenFault (names : List (List ℕ)) (text : List ℕ) (tokens : List Token) (nesting at : ℕ) (why : ParseFault) : Type 0 where
  pub begins : stands text tokens at lexeme.When ≡ true
  pub in_when : ExpressionFault names text tokens nesting (at + 1) why

-- in the new name of an item
pub record RenameFault (text : List ℕ) (tokens : List Token) (at : ℕ) (why : ParseFault) : Type 0 where
  pub begins : stands text tokens at lexeme.As ≡ true
  pub in_name : ColumnFault text tokens (at + 1) why

pub data ItemFault (names : List (List ℕ)) (text : List ℕ) (tokens : List Token) (nesting at : ℕ) : ParseFault → Type 0 where
  in_item_column : (why : ParseFault) → ColumnFault text tokens at why → ItemFault names text tokens nesting at why
  in_rename : (column : ColName) (end : ℕ) (why : ParseFault) → IsColumn text tokens at column end → stands text tokens end lexeme.As ≡ true → ColumnFault text tokens (end + 1) why → ItemFault names text tokens nesting at why
  in_item_when : (column : ColName) (behind : ℕ) (rename : Option ColName) (last : ℕ) (why : ParseFault) → IsColumn text tokens at column behind → IsRename text tokens behind rename last → WhenFault names text tokens nesting last why → ItemFault names text tokens nesting at why

pub data ItemsFault (names : List (List ℕ)) (text : List ℕ) (tokens : List Token) (nesting at : ℕ) : ParseFault → Type 0 where
  items_memory : ItemsFault names text tokens nesting at fault.Memory
  in_first_item : (why : ParseFault) → stands text tokens at lexeme.Star ≡ false → ItemFault names text tokens nesting at why → ItemsFault names text tokens nesting at why
  in_next_item : (before : List Item) (place : ℕ) (why : ParseFault) → stands text tokens at lexeme.Star ≡ false → ItemsTo names text tokens nesting at before place → stands text tokens place lexeme.Comma ≡ true → ItemFault names text tokens nesting (place + 1) why → ItemsFault names text tokens nesting at why

pub data QueryFault (with_params : Bool) (names : List (List ℕ)) (text : List ℕ) (tokens : List Token) : QueryPart → ℕ → ParseFault → Type 0 where
  query_memory : (part : QueryPart) (at : ℕ) → QueryFault with_params names text tokens part at fault.Memory
  in_first_term : (n at : ℕ) (why : ParseFault) → QueryFault with_params names text tokens (Term n) at why → QueryFault with_params names text tokens (WholeQuery n) at why
  in_union_term : (n at : ℕ) (left : Query) (middle : ℕ) (why : ParseFault) → SpellsQuery with_params names text tokens (QueryChain n) at left middle → stands text tokens middle lexeme.Union ≡ true → QueryFault with_params names text tokens (Term n) (middle + 1) why → QueryFault with_params names text tokens (WholeQuery n) at why
  in_except_term : (n at : ℕ) (left : Query) (middle : ℕ) (why : ParseFault) → SpellsQuery with_params names text tokens (QueryChain n) at left middle → stands text tokens middle lexeme.Except ≡ true → QueryFault with_params names text tokens (Term n) (middle + 1) why → QueryFault with_params names text tokens (WholeQuery n) at why
  in_items : (n at : ℕ) (why : ParseFault) → stands text tokens at lexeme.Select ≡ true → ItemsFault names text tokens n (at + 1) why → QueryFault with_params names text tokens (Term n) at why
  no_from : (n at : ℕ) (items : Items) (from : ℕ) → stands text tokens at lexeme.Select ≡ true → AreItems names text tokens n (at + 1) items from → stands text tokens from lexeme.From ≡ false → QueryFault with_params names text tokens (Term n) at (fault.Syntax from)
  in_source : (n at : ℕ) (items : Items) (from : ℕ) (why : ParseFault) → stands text tokens at lexeme.Select ≡ true → AreItems names text tokens n (at + 1) items from → stands text tokens from lexeme.From ≡ true → QueryFault with_params names text tokens (WholeSource n) (from + 1) why → QueryFault with_params names text tokens (Term n) at why
  in_select_where : (n at : ℕ) (items : Items) (source : Query) (from behind : ℕ) (why : ParseFault) → stands text tokens at lexeme.Select ≡ true → AreItems names text tokens n (at + 1) items from → stands text tokens from lexeme.From ≡ true → SpellsQuery with_params names text tokens (WholeSource n) (from + 1) source behind → WhereFault with_params names text tokens n behind why → QueryFault with_params names text tokens (Term n) at why
  in_simple_term : (n at : ℕ) (why : ParseFault) → stands text tokens at lexeme.Select ≡ false → QueryFault with_params names text tokens (Simple n) at why → QueryFault with_params names text tokens (Term n) at why
  no_simple_query : (n at : ℕ) → name_at text tokens at ≡ None → stands text tokens at lexeme.Empty ≡ false → stands text tokens at lexeme.Open ≡ false → stands text tokens at lexeme.Choice ≡ false → QueryFault with_params names text tokens (Simple n) at (fault.Syntax at)
  query_too_deep : (n at : ℕ) → stands text tokens at lexeme.Open ≡ true → nesting_limit ≤ n → QueryFault with_params names text tokens (Simple n) at (fault.TooDeep at)
  in_query_brackets : (n at : ℕ) (why : ParseFault) → stands text tokens at lexeme.Open ≡ true → n < nesting_limit → QueryFault with_params names text tokens (WholeQuery (n + 1)) (at + 1) why → QueryFault with_params names text tokens (Simple n) at why
  query_unclosed : (n at : ℕ) (q : Query) (end : ℕ) → stands text tokens at lexeme.Open ≡ true → n < nesting_limit → SpellsQuery with_params names text tokens (WholeQuery (n + 1)) (at + 1) q end → stands text tokens end lexeme.Close ≡ false → QueryFault with_params names text tokens (Simple n) at (fault.Syntax end)
  in_query_choice : (n at : ℕ) (why : ParseFault) → ChoiceFault names text tokens n at why → QueryFault with_params names text tokens (Simple n) at why
  in_left_query : (n at : ℕ) (expr : Expr) (sides : ℕ) (why : ParseFault) → IsChoice names text tokens n at expr sides → QueryFault with_params names text tokens (WholeQuery (n + 2)) sides why → QueryFault with_params names text tokens (Simple n) at why
  no_right_query : (n at : ℕ) (expr : Expr) (sides : ℕ) (left : Query) (middle : ℕ) → IsChoice names text tokens n at expr sides → SpellsQuery with_params names text tokens (WholeQuery (n + 2)) sides left middle → stands text tokens middle lexeme.Comma ≡ false → QueryFault with_params names text tokens (Simple n) at (fault.Syntax middle)
  in_right_query : (n at : ℕ) (expr : Expr) (sides : ℕ) (left : Query) (middle : ℕ) (why : ParseFault) → IsChoice names text tokens n at expr sides → SpellsQuery with_params names text tokens (WholeQuery (n + 2)) sides left middle → stands text tokens middle lexeme.Comma ≡ true → QueryFault with_params names text tokens (WholeQuery (n + 2)) (middle + 1) why → QueryFault with_params names text tokens (Simple n) at why
  query_sides_unclosed : (n at : ℕ) (expr : Expr) (sides : ℕ) (left right : Query) (middle end : ℕ) → IsChoice names text tokens n at expr sides → SpellsQuery with_params names text tokens (WholeQuery (n + 2)) sides left middle → stands text tokens middle lexeme.Comma ≡ true → SpellsQuery with_params names text tokens (WholeQuery (n + 2)) (middle + 1) right end → stands text tokens end lexeme.Close ≡ false → QueryFault with_params names text tokens (Simple n) at (fault.Syntax end)
  in_first_source : (n at : ℕ) (why : ParseFault) → QueryFault with_params names text tokens (SourceTerm n) at why → QueryFault with_params names text tokens (WholeSource n) at why
  in_joined_source : (n at : ℕ) (left : Query) (middle : ℕ) (why : ParseFault) → SpellsQuery with_params names text tokens (SourceChain n) at left middle → stands text tokens middle lexeme.Join ≡ true → QueryFault with_params names text tokens (SourceTerm n) (middle + 1) why → QueryFault with_params names text tokens (WholeSource n) at why
  no_on : (n at : ℕ) (left right : Query) (middle on : ℕ) → SpellsQuery with_params names text tokens (SourceChain n) at left middle → stands text tokens middle lexeme.Join ≡ true → SpellsQuery with_params names text tokens (SourceTerm n) (middle + 1) right on → stands text tokens on lexeme.On ≡ false → QueryFault with_params names text tokens (WholeSource n) at (fault.Syntax on)
  in_on : (n at : ℕ) (left right : Query) (middle on : ℕ) (why : ParseFault) → SpellsQuery with_params names text tokens (SourceChain n) at left middle → stands text tokens middle lexeme.Join ≡ true → SpellsQuery with_params names text tokens (SourceTerm n) (middle + 1) right on → stands text tokens on lexeme.On ≡ true → CondFault with_params names text tokens (Condition n) (on + 1) why → QueryFault with_params names text tokens (WholeSource n) at why
  in_source_term : (n at : ℕ) (why : ParseFault) → QueryFault with_params names text tokens (Simple n) at why → QueryFault with_params names text tokens (SourceTerm n) at why
  no_alias : (n at : ℕ) (q : Query) (end : ℕ) → SpellsQuery with_params names text tokens (Simple n) at q end → stands text tokens end lexeme.As ≡ true → name_at text tokens (end + 1) ≡ None → QueryFault with_params names text tokens (SourceTerm n) at (fault.Syntax (end + 1))
