-- What the tokens of the small parts of a statement spell is plain.
use Rattle.std.proofs.Common.{◌≡◌, ℕ, ◌+◌, ◌<◌, ◌≤◌, Bool, false, List, [], ◌∷◌, ◌++◌, length, Option, sym, ap, ◌∙◌, arith}
use Rattle.std.proofs.lemmas.List.{length-append}
use Rattle.word_tokens.specs.Tokens.{AreTokens}
use Rattle.word_tokens.specs.declared.token.Token.{Token}
use Rattle.feature_expr.specs.Expressions.{mentions_step, mentions}
use Rattle.feature_expr.specs.Printing.{nesting_step, text_nesting}
use Rattle.feature_expr.specs.ExprGrammar.{Disjunction}
use Rattle.values.specs.declared.column_name.ColName.{ColName}
use Rattle.feature_expr.specs.declared.expr.Expr.{Expr}
use Rattle.feature_expr.specs.declared.expr.Expr as e
use Rattle.feature_expr.specs.declared.expr.Expr.TheFolds.{fold-roll-Expr}
use Rattle.feature_expr.specs.declared.expr.Expr.TheVariants.{rolls-True}
use Rattle.feature_expr.specs.declared.expr.Expr.TheOpen.{Expr-F}
use Rattle.feature_expr.proofs.OccurringLaws.{names_spelled}
use Rattle.feature_expr.proofs.NestingLaws.{part_nests_within}
use Rattle.feature_expr.proofs.PartLaws.{no_or_behind, no_and_behind}
use Rattle.vra_syntax.specs.declared.cond.Operand.{Operand}
use Rattle.vra_syntax.specs.declared.items.Item.{Item}
use Rattle.vra_syntax.specs.declared.items.Items.{Items}
use Rattle.query_parser.specs.Parts.{IsColumn, plain_column, prefixed_column, IsOperand, column_operand, value_operand, IsExpression, IsChoice, IsRename, no_rename, some_rename, IsItemWhen, no_item_when, some_item_when, IsWhen, no_when, some_when, IsItem, ItemsTo, one_item, another_item, AreItems, all_items, listed_items}
use Rattle.feature_expr.specs.Nesting.{nesting_limit}
use Rattle.query_parser.proofs.Printables as printed
use Rattle.query_parser.proofs.Printables.{PlainColumn, PlainRename, PlainOperand, PlainExpr, PlainItemWhen, PlainItem, PlainItemList, PlainItems}
use Rattle.query_parser.proofs.PlainTokens.{plain_name, plain_value_at}

module _ (text : List ℕ) (tokens : List Token) where
  plain_column_at : (at : ℕ) (column : ColName) (end : ℕ) → IsColumn text tokens at column end → PlainColumn column
  plain_column_at a c z (plain_column base named bare) = (tt, plain_name text tokens a base named)
  plain_column_at a c z (prefixed_column prefix base named dot named') = (plain_name text tokens a prefix named, plain_name text tokens (a + 2) base named')

  plain_rename_at : (at : ℕ) (rename : Option ColName) (end : ℕ) → IsRename text tokens at rename end → PlainRename rename
  plain_rename_at a r z (no_rename none) = tt
  plain_rename_at a r z (some_rename column end is named) = plain_column_at (a + 1) column end named

  pub plain_operand_at : (with_params : Bool) → AreTokens text tokens → (at : ℕ) (v : Operand) (end : ℕ) → IsOperand with_params text tokens at v end → PlainOperand with_params v
  plain_operand_at with_params are a v z (column_operand column end is) = printed.plain_column column (plain_column_at a column end is)
  plain_operand_at with_params are a v z (value_operand v' unnamed valued) = printed.plain_value v' (plain_value_at with_params text tokens are a v' valued)

applied : {A B : Type 0} (f g : A → B) (x : A) → f ≡ g → f x ≡ g x
applied {A} {B} f g x e = ap (λ (h : A → B). h x) e

-- an expression in a text nests within the limit
module _ (names : List (List ℕ)) (text : List ℕ) (tokens : List Token) where
  pub plain_expression_at : (n at : ℕ) (expr : Expr) (end : ℕ) → n ≤ nesting_limit → IsExpression names text tokens n at expr end → PlainExpr names n expr
  plain_expression_at n at expr end low is = (
    names_spelled names text tokens (Disjunction n) at expr end is.spelled,
    part_nests_within names text tokens nesting_limit n at expr end low is.spelled (no_or_behind names text tokens nesting_limit n at end expr is.read is.spelled) (no_and_behind names text tokens nesting_limit n at end expr is.read is.spelled) is.read,
  )

  pub plain_choice_at : (n at : ℕ) (expr : Expr) (sides : ℕ) → IsChoice names text tokens n at expr sides → PlainExpr names (n + 1) expr
  plain_choice_at n at expr sides is = plain_expression_at (n + 1) (at + 2) expr is.close (let low = is.within in omega (arith, low)) is.chooses

  plain_item_when_at : (n at : ℕ) (expr : Option Expr) (end : ℕ) → n ≤ nesting_limit → IsItemWhen names text tokens n at expr end → PlainItemWhen names n expr
  plain_item_when_at n a x z low (no_item_when none) = tt
  plain_item_when_at n a x z low (some_item_when expr end is given) = plain_expression_at n (a + 1) expr end low given

  no_features : (i : ℕ) → mentions i e.True ≡ false
  no_features i = ap (mentions i) (sym rolls-True) ∙ fold-roll-Expr Bool (mentions_step i) Expr-F.True

  no_nesting : text_nesting e.True ≡ 0
  no_nesting = ap text_nesting (sym rolls-True) ∙ applied _ _ _ (fold-roll-Expr _ nesting_step Expr-F.True)

  plain_true_expression : PlainExpr names 0 e.True
  plain_true_expression = (λ i h. absurd (cc (h, no_features i)), rw no_nesting (omega arith))

  pub plain_when_at : (at : ℕ) (expr : Expr) (end : ℕ) → IsWhen names text tokens at expr end → PlainExpr names 0 expr
  plain_when_at a x z (no_when none) = plain_true_expression
  plain_when_at a x z (some_when expr end is given) = plain_expression_at 0 (a + 1) expr end (omega arith) given

  -- items
  plain_item_at : (n at : ℕ) (item : Item) (end : ℕ) → n ≤ nesting_limit → IsItem names text tokens n at item end → PlainItem names n item
  plain_item_at n at item end low is = record {
    column = plain_column_at text tokens at item.column is.behind is.named;
    rename = plain_rename_at text tokens is.behind item.rename is.last is.renamed;
    condition = plain_item_when_at n is.last item.cond end low is.condition;
  }

  push_item : (n : ℕ) (before : List Item) (item : Item) → PlainItemList names n before → PlainItem names n item → PlainItemList names n (before ++ item ∷ [])
  push_item n [] item all plain = (plain, tt)
  push_item n (x ∷ before) item all plain = (all.0, push_item n before item all.1 plain)

  plain_items_to : (n from : ℕ) (listed : List Item) (end : ℕ) → n ≤ nesting_limit → ItemsTo names text tokens n from listed end → (0 < length listed) × PlainItemList names n listed
  plain_items_to n from all z low (one_item item end is) = (omega arith, (plain_item_at n from item end low is, tt))
  plain_items_to n from all z low (another_item before at item end d comma is) =
      (rw length-append (omega arith), push_item n before item (plain_items_to n from before at low d).1 (plain_item_at n (at + 1) item end low is))

  pub plain_items_at : (n at : ℕ) (kept : Items) (end : ℕ) → n ≤ nesting_limit → AreItems names text tokens n at kept end → PlainItems names n kept
  plain_items_at n a kept z low (all_items star) = tt
  plain_items_at n a kept z low (listed_items listed end star d none) = plain_items_to n a listed end low d
