-- What the tokens of a condition on rows spell: `or` and `and` group to the left.
use Rattle.std.specs.Prelude.{Bool, true, false, ◌≡◌, ℕ, ◌+◌, ◌<◌, List, Some, None}
use Rattle.feature_expr.specs.declared.expr.Expr.{Expr}
use Rattle.word_tokens.specs.declared.token.Token.{Token}
use Rattle.values.specs.declared.value.Value.TheVariants as value
use Rattle.vra_syntax.specs.declared.cond.Cond.{Cond}
use Rattle.vra_syntax.specs.declared.cond.Cond as cond
use Rattle.vra_syntax.specs.declared.cond.Op.{Op}
use Rattle.vra_syntax.specs.declared.cond.Operand.{Operand}
use Rattle.vra_syntax.specs.declared.cond.Operand.TheVariants as operand
use Rattle.query_parser.specs.Lexemes.{stands, op_at}
use Rattle.query_parser.specs.Parts.{IsOperand, IsChoice}
use Rattle.query_parser.specs.declared.lexeme.Lexeme.TheVariants as lexeme
use Rattle.feature_expr.specs.Nesting.{nesting_limit}

-- the parts of a condition, each with the number of brackets, `not` and choices that are open round it. A chain may go
-- on; a whole part doesn't.
pub data CondPart : Type 0 where
  OrChain : (nesting : ℕ) → CondPart
  Condition : (nesting : ℕ) → CondPart
  AndChain : (nesting : ℕ) → CondPart
  Conjunction : (nesting : ℕ) → CondPart
  Negation : (nesting : ℕ) → CondPart

pub data SpellsCond (with_params : Bool) (names : List (List ℕ)) (text : List ℕ) (tokens : List Token) : CondPart → ℕ → Cond → ℕ → Type 0 where
  one_conjunction : (n at : ℕ) (c : Cond) (end : ℕ) → SpellsCond with_params names text tokens (Conjunction n) at c end → SpellsCond with_params names text tokens (OrChain n) at c end
  another_conjunction : (n at : ℕ) (left right : Cond) (middle end : ℕ) → SpellsCond with_params names text tokens (OrChain n) at left middle → stands text tokens middle lexeme.Or ≡ true → SpellsCond with_params names text tokens (Conjunction n) (middle + 1) right end → SpellsCond with_params names text tokens (OrChain n) at (cond.Or left right) end
  whole_condition : (n at : ℕ) (c : Cond) (end : ℕ) → SpellsCond with_params names text tokens (OrChain n) at c end → stands text tokens end lexeme.Or ≡ false → SpellsCond with_params names text tokens (Condition n) at c end
  one_negation : (n at : ℕ) (c : Cond) (end : ℕ) → SpellsCond with_params names text tokens (Negation n) at c end → SpellsCond with_params names text tokens (AndChain n) at c end
  another_negation : (n at : ℕ) (left right : Cond) (middle end : ℕ) → SpellsCond with_params names text tokens (AndChain n) at left middle → stands text tokens middle lexeme.And ≡ true → SpellsCond with_params names text tokens (Negation n) (middle + 1) right end → SpellsCond with_params names text tokens (AndChain n) at (cond.And left right) end
  whole_conjunction : (n at : ℕ) (c : Cond) (end : ℕ) → SpellsCond with_params names text tokens (AndChain n) at c end → stands text tokens end lexeme.And ≡ false → SpellsCond with_params names text tokens (Conjunction n) at c end
  not_condition : (n at : ℕ) (inner : Cond) (end : ℕ) → stands text tokens at lexeme.Not ≡ true → n < nesting_limit → SpellsCond with_params names text tokens (Negation (n + 1)) (at + 1) inner end → SpellsCond with_params names text tokens (Negation n) at (cond.Not inner) end
  condition_in_brackets : (n at : ℕ) (c : Cond) (end : ℕ) → stands text tokens at lexeme.Open ≡ true → n < nesting_limit → SpellsCond with_params names text tokens (Condition (n + 1)) (at + 1) c end → stands text tokens end lexeme.Close ≡ true → SpellsCond with_params names text tokens (Negation n) at c (end + 1)
  choice_of_conditions : (n at : ℕ) (expr : Expr) (sides : ℕ) (left right : Cond) (middle end : ℕ) → IsChoice names text tokens n at expr sides → SpellsCond with_params names text tokens (Condition (n + 2)) sides left middle → stands text tokens middle lexeme.Comma ≡ true → SpellsCond with_params names text tokens (Condition (n + 2)) (middle + 1) right end → stands text tokens end lexeme.Close ≡ true → SpellsCond with_params names text tokens (Negation n) at (cond.Choice expr left right) (end + 1)
  comparison : (n at : ℕ) (left : Operand) (op : Op) (right : Operand) (middle end : ℕ) → IsOperand with_params text tokens at left middle → op_at text tokens middle ≡ Some op → IsOperand with_params text tokens (middle + 1) right end → SpellsCond with_params names text tokens (Negation n) at (cond.Cmp left op right) end
  truth : (n at end : ℕ) → IsOperand with_params text tokens at (operand.Literal (value.Bool true)) end → op_at text tokens end ≡ None → SpellsCond with_params names text tokens (Negation n) at cond.True end
  falsehood : (n at end : ℕ) → IsOperand with_params text tokens at (operand.Literal (value.Bool false)) end → op_at text tokens end ≡ None → SpellsCond with_params names text tokens (Negation n) at cond.False end

-- a condition behind `where`; a missing one is True
pub data IsWhere (with_params : Bool) (names : List (List ℕ)) (text : List ℕ) (tokens : List Token) (nesting at : ℕ) : Cond → ℕ → Type 0 where
  no_where : stands text tokens at lexeme.Where ≡ false → IsWhere with_params names text tokens nesting at cond.True at
  some_where : (c : Cond) (end : ℕ) → stands text tokens at lexeme.Where ≡ true → SpellsCond with_params names text tokens (Condition nesting) (at + 1) c end → IsWhere with_params names text tokens nesting at c end
