-- What the tokens of the small parts of a statement spell. A place is the number of a token. Each part says where it
-- ends; what ends with `To` may go on.
use Rattle.std.specs.Prelude.{Bool, true, false, ◌≡◌, ℕ, ◌+◌, ◌<◌, List, [], ◌∷◌, ◌++◌, Option, Some, None, Ok}
use Rattle.feature_expr.specs.ExprGrammar.{Disjunction, IsRead, Spells}
use Rattle.values.specs.declared.column_name.ColName.{ColName}
use Rattle.feature_expr.specs.declared.expr.Expr.{Expr}
use Rattle.feature_expr.specs.declared.expr.Expr as e
use Rattle.word_tokens.specs.declared.token.Token.{Token}
use Rattle.vra_syntax.specs.declared.cond.Operand.{Operand}
use Rattle.vra_syntax.specs.declared.cond.Operand.TheVariants as operand
use Rattle.vra_syntax.specs.declared.items.Item.{Item}
use Rattle.vra_syntax.specs.declared.items.Items.{Items}
use Rattle.vra_syntax.specs.declared.items.Items.TheVariants as items
use Rattle.query_parser.specs.Lexemes.{stands, name_at, value_at}
use Rattle.query_parser.specs.declared.lexeme.Lexeme.TheVariants as lexeme
use Rattle.feature_expr.specs.Nesting.{nesting_limit}

-- the name of a column: a name, or two with a dot between them
pub data IsColumn (text : List ℕ) (tokens : List Token) (at : ℕ) : ColName → ℕ → Type 0 where
  plain_column : (base : List ℕ) → name_at text tokens at ≡ Some base → stands text tokens (at + 1) lexeme.Dot ≡ false → IsColumn text tokens at (record { prefix = None; base = base }) (at + 1)
  prefixed_column : (prefix base : List ℕ) → name_at text tokens at ≡ Some prefix → stands text tokens (at + 1) lexeme.Dot ≡ true → name_at text tokens (at + 2) ≡ Some base → IsColumn text tokens at (record { prefix = Some prefix; base = base }) (at + 3)

-- a side of a comparison
pub data IsOperand (with_params : Bool) (text : List ℕ) (tokens : List Token) (at : ℕ) : Operand → ℕ → Type 0 where
  column_operand : (column : ColName) (end : ℕ) → IsColumn text tokens at column end → IsOperand with_params text tokens at (operand.Column column) end
  value_operand : (value : Operand) → name_at text tokens at ≡ None → value_at with_params text tokens at ≡ Ok value → IsOperand with_params text tokens at value (at + 1)

-- a feature expression, where so many brackets, `not` and choices are open round it
pub record IsExpression (names : List (List ℕ)) (text : List ℕ) (tokens : List Token) (nesting at : ℕ) (expr : Expr) (end : ℕ) : Type 0 where
  pub read : IsRead text tokens nesting_limit (Disjunction nesting) at end
  pub spelled : Spells names text tokens (Disjunction nesting) at expr end

-- the word `choice`, its expression in square brackets, and the bracket in which the two sides stand
pub record IsChoice (names : List (List ℕ)) (text : List ℕ) (tokens : List Token) (nesting at : ℕ) (expr : Expr) (sides : ℕ) : Type 0 where
  pub begins : stands text tokens at lexeme.Choice ≡ true
  pub within : nesting < nesting_limit
  pub square : stands text tokens (at + 1) lexeme.OpenSquare ≡ true
  pub close : ℕ
  pub chooses : IsExpression names text tokens (nesting + 1) (at + 2) expr close
  pub squared : stands text tokens close lexeme.CloseSquare ≡ true
  pub sides_within : nesting + 1 < nesting_limit
  pub opens : stands text tokens (close + 1) lexeme.Open ≡ true
  pub ends : sides ≡ close + 2

-- the word `as` and the new name of an item
pub data IsRename (text : List ℕ) (tokens : List Token) (at : ℕ) : Option ColName → ℕ → Type 0 where
  no_rename : stands text tokens at lexeme.As ≡ false → IsRename text tokens at None at
  some_rename : (column : ColName) (end : ℕ) → stands text tokens at lexeme.As ≡ true → IsColumn text tokens (at + 1) column end → IsRename text tokens at (Some column) end

-- the word `when` and the condition of an item
pub data IsItemWhen (names : List (List ℕ)) (text : List ℕ) (tokens : List Token) (nesting at : ℕ) : Option Expr → ℕ → Type 0 where
  no_item_when : stands text tokens at lexeme.When ≡ false → IsItemWhen names text tokens nesting at None at
  some_item_when : (expr : Expr) (end : ℕ) → stands text tokens at lexeme.When ≡ true → IsExpression names text tokens nesting (at + 1) expr end → IsItemWhen names text tokens nesting at (Some expr) end

-- the word `when` and the condition of a write; a missing one is `true`
pub data IsWhen (names : List (List ℕ)) (text : List ℕ) (tokens : List Token) (at : ℕ) : Expr → ℕ → Type 0 where
  no_when : stands text tokens at lexeme.When ≡ false → IsWhen names text tokens at e.True at
  some_when : (expr : Expr) (end : ℕ) → stands text tokens at lexeme.When ≡ true → IsExpression names text tokens 0 (at + 1) expr end → IsWhen names text tokens at expr end

-- an item of a select: a column, its new name and its condition
pub record IsItem (names : List (List ℕ)) (text : List ℕ) (tokens : List Token) (nesting at : ℕ) (item : Item) (end : ℕ) : Type 0 where
  pub behind : ℕ
  pub named : IsColumn text tokens at item.column behind
  pub last : ℕ
  pub renamed : IsRename text tokens behind item.rename last
  pub condition : IsItemWhen names text tokens nesting last item.cond end

-- from one place on, these items stand with commas between them
pub data ItemsTo (names : List (List ℕ)) (text : List ℕ) (tokens : List Token) (nesting from : ℕ) : List Item → ℕ → Type 0 where
  one_item : (item : Item) (end : ℕ) → IsItem names text tokens nesting from item end → ItemsTo names text tokens nesting from (item ∷ []) end
  another_item : (before : List Item) (at : ℕ) (item : Item) (end : ℕ) → ItemsTo names text tokens nesting from before at → stands text tokens at lexeme.Comma ≡ true → IsItem names text tokens nesting (at + 1) item end → ItemsTo names text tokens nesting from (before ++ item ∷ []) end

-- what a select keeps: all columns, or a list of items
pub data AreItems (names : List (List ℕ)) (text : List ℕ) (tokens : List Token) (nesting at : ℕ) : Items → ℕ → Type 0 where
  all_items : stands text tokens at lexeme.Star ≡ true → AreItems names text tokens nesting at items.All (at + 1)
  listed_items : (listed : List Item) (end : ℕ) → stands text tokens at lexeme.Star ≡ false → ItemsTo names text tokens nesting at listed end → stands text tokens end lexeme.Comma ≡ false → AreItems names text tokens nesting at (items.Listed listed) end
