-- What the tokens of a query spell: `union`, `except` and `join` group to the left, and `union` and `except` have one
-- rank.
use Rattle.std.specs.Prelude.{Bool, true, false, ◌≡◌, ℕ, ◌+◌, ◌<◌, List, Some}
use Rattle.feature_expr.specs.declared.expr.Expr.{Expr}
use Rattle.word_tokens.specs.declared.token.Token.{Token}
use Rattle.vra_syntax.specs.declared.cond.Cond.{Cond}
use Rattle.vra_syntax.specs.declared.items.Items.{Items}
use Rattle.vra_syntax.specs.declared.query.Query.{Query}
use Rattle.vra_syntax.specs.declared.query.Query as query
use Rattle.query_parser.specs.Conditions.{Condition, SpellsCond, IsWhere}
use Rattle.query_parser.specs.Lexemes.{stands, name_at}
use Rattle.query_parser.specs.Parts.{IsChoice, AreItems}
use Rattle.query_parser.specs.declared.lexeme.Lexeme.TheVariants as lexeme
use Rattle.feature_expr.specs.Nesting.{nesting_limit}

-- the parts of a query, each with the number of brackets and choices that are open round it. A chain may go on; a whole
-- part doesn't. A simple query is a table, `empty`, a query in brackets or a choice.
pub data QueryPart : Type 0 where
  QueryChain : (nesting : ℕ) → QueryPart
  WholeQuery : (nesting : ℕ) → QueryPart
  Term : (nesting : ℕ) → QueryPart
  Simple : (nesting : ℕ) → QueryPart
  SourceChain : (nesting : ℕ) → QueryPart
  WholeSource : (nesting : ℕ) → QueryPart
  SourceTerm : (nesting : ℕ) → QueryPart

pub data SpellsQuery (with_params : Bool) (names : List (List ℕ)) (text : List ℕ) (tokens : List Token) : QueryPart → ℕ → Query → ℕ → Type 0 where
  one_term : (n at : ℕ) (q : Query) (end : ℕ) → SpellsQuery with_params names text tokens (Term n) at q end → SpellsQuery with_params names text tokens (QueryChain n) at q end
  union_term : (n at : ℕ) (left right : Query) (middle end : ℕ) → SpellsQuery with_params names text tokens (QueryChain n) at left middle → stands text tokens middle lexeme.Union ≡ true → SpellsQuery with_params names text tokens (Term n) (middle + 1) right end → SpellsQuery with_params names text tokens (QueryChain n) at (query.Union left right) end
  except_term : (n at : ℕ) (left right : Query) (middle end : ℕ) → SpellsQuery with_params names text tokens (QueryChain n) at left middle → stands text tokens middle lexeme.Except ≡ true → SpellsQuery with_params names text tokens (Term n) (middle + 1) right end → SpellsQuery with_params names text tokens (QueryChain n) at (query.Except left right) end
  whole_query : (n at : ℕ) (q : Query) (end : ℕ) → SpellsQuery with_params names text tokens (QueryChain n) at q end → stands text tokens end lexeme.Union ≡ false → stands text tokens end lexeme.Except ≡ false → SpellsQuery with_params names text tokens (WholeQuery n) at q end
  select_term : (n at : ℕ) (items : Items) (source : Query) (c : Cond) (from behind end : ℕ) → stands text tokens at lexeme.Select ≡ true → AreItems names text tokens n (at + 1) items from → stands text tokens from lexeme.From ≡ true → SpellsQuery with_params names text tokens (WholeSource n) (from + 1) source behind → IsWhere with_params names text tokens n behind c end → SpellsQuery with_params names text tokens (Term n) at (query.Select items source c) end
  simple_term : (n at : ℕ) (q : Query) (end : ℕ) → SpellsQuery with_params names text tokens (Simple n) at q end → SpellsQuery with_params names text tokens (Term n) at q end
  table : (n at : ℕ) (name : List ℕ) → name_at text tokens at ≡ Some name → SpellsQuery with_params names text tokens (Simple n) at (query.Table name) (at + 1)
  empty_query : (n at : ℕ) → stands text tokens at lexeme.Empty ≡ true → SpellsQuery with_params names text tokens (Simple n) at query.Empty (at + 1)
  query_in_brackets : (n at : ℕ) (q : Query) (end : ℕ) → stands text tokens at lexeme.Open ≡ true → n < nesting_limit → SpellsQuery with_params names text tokens (WholeQuery (n + 1)) (at + 1) q end → stands text tokens end lexeme.Close ≡ true → SpellsQuery with_params names text tokens (Simple n) at q (end + 1)
  choice_of_queries : (n at : ℕ) (expr : Expr) (sides : ℕ) (left right : Query) (middle end : ℕ) → IsChoice names text tokens n at expr sides → SpellsQuery with_params names text tokens (WholeQuery (n + 2)) sides left middle → stands text tokens middle lexeme.Comma ≡ true → SpellsQuery with_params names text tokens (WholeQuery (n + 2)) (middle + 1) right end → stands text tokens end lexeme.Close ≡ true → SpellsQuery with_params names text tokens (Simple n) at (query.Choice expr left right) (end + 1)
  one_source : (n at : ℕ) (q : Query) (end : ℕ) → SpellsQuery with_params names text tokens (SourceTerm n) at q end → SpellsQuery with_params names text tokens (SourceChain n) at q end
  joined_source : (n at : ℕ) (left right : Query) (c : Cond) (middle on end : ℕ) → SpellsQuery with_params names text tokens (SourceChain n) at left middle → stands text tokens middle lexeme.Join ≡ true → SpellsQuery with_params names text tokens (SourceTerm n) (middle + 1) right on → stands text tokens on lexeme.On ≡ true → SpellsCond with_params names text tokens (Condition n) (on + 1) c end → SpellsQuery with_params names text tokens (SourceChain n) at (query.Join left right c) end
  whole_source : (n at : ℕ) (q : Query) (end : ℕ) → SpellsQuery with_params names text tokens (SourceChain n) at q end → stands text tokens end lexeme.Join ≡ false → SpellsQuery with_params names text tokens (WholeSource n) at q end
  plain_source : (n at : ℕ) (q : Query) (end : ℕ) → SpellsQuery with_params names text tokens (Simple n) at q end → stands text tokens end lexeme.As ≡ false → SpellsQuery with_params names text tokens (SourceTerm n) at q end
  source_with_alias : (n at : ℕ) (q : Query) (name : List ℕ) (end : ℕ) → SpellsQuery with_params names text tokens (Simple n) at q end → stands text tokens end lexeme.As ≡ true → name_at text tokens (end + 1) ≡ Some name → SpellsQuery with_params names text tokens (SourceTerm n) at (query.Alias q name) (end + 2)
