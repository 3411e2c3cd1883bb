-- Choices, put together from their parts.
use Rattle.std.proofs.Common.{true, false, ◌≡◌, ℕ, ◌+◌, ◌<◌, ◌≤◌, List, arith}
use Rattle.feature_expr.specs.declared.expr.Expr.{Expr}
use Rattle.word_tokens.specs.declared.token.Token.{Token}
use Rattle.query_parser.specs.Faults.{ExpressionFault, ChoiceFault, in_chooser, square_unclosed, no_sides, sides_too_deep}
use Rattle.query_parser.specs.Lexemes.{stands}
use Rattle.query_parser.specs.Parts.{IsExpression, IsChoice}
use Rattle.query_parser.specs.declared.fault.ParseFault.{ParseFault}
use Rattle.query_parser.specs.declared.fault.ParseFault.TheVariants as fault
use Rattle.query_parser.specs.declared.lexeme.Lexeme.TheVariants as lexeme
use Rattle.feature_expr.specs.Nesting.{nesting_limit}

module _ (names : List (List ℕ)) (text : List ℕ) (tokens : List Token) (nesting at inner from : ℕ) (inside : inner ≡ nesting + 1) (follows : from ≡ at + 1 + 1) (begins : stands text tokens at lexeme.Choice ≡ true) (within : nesting < nesting_limit) (square : stands text tokens (at + 1) lexeme.OpenSquare ≡ true) where
  two : from ≡ at + 2
  two = omega arith

  pub chooser_refused : (why : ParseFault) → ExpressionFault names text tokens inner from why → ChoiceFault names text tokens nesting at why
  chooser_refused why refused = let e = two in in_chooser why begins within square (rw (inside, e) at refused)

  module _ (expr : Expr) (close : ℕ) (chooses : IsExpression names text tokens inner from expr close) where
    chosen : IsExpression names text tokens (nesting + 1) (at + 2) expr close
    chosen = let e = two in rw (inside, e) at chooses

    pub chooser_unclosed : (why : ParseFault) → why ≡ fault.Syntax close → stands text tokens close lexeme.CloseSquare ≡ false → ChoiceFault names text tokens nesting at why
    chooser_unclosed why is unclosed = rw is (square_unclosed expr close begins within square chosen unclosed)

    module _ (next : ℕ) (squared : stands text tokens close lexeme.CloseSquare ≡ true) (behind : next ≡ close + 1) where
      pub choice_unopened : (why : ParseFault) → why ≡ fault.Syntax next → stands text tokens next lexeme.Open ≡ false → ChoiceFault names text tokens nesting at why
      choice_unopened why is unopened = rw (is, behind) (no_sides expr close begins within square chosen squared (rw behind at unopened))

      pub choice_sides_deep : (why : ParseFault) → why ≡ fault.TooDeep next → stands text tokens next lexeme.Open ≡ true → nesting_limit ≤ inner → ChoiceFault names text tokens nesting at why
      choice_sides_deep why is opens deep = rw (is, behind) (sides_too_deep expr close begins within square chosen squared (rw behind at opens) (rw inside at deep))

      pub choice_is : (sides : ℕ) → sides ≡ next + 1 → stands text tokens next lexeme.Open ≡ true → inner < nesting_limit → IsChoice names text tokens nesting at expr sides
      choice_is sides ends opens fits = record {
        begins = begins;
        within = within;
        square = square;
        close = close;
        chooses = chosen;
        squared = squared;
        sides_within = rw inside at fits;
        opens = rw behind at opens;
        ends = omega arith;
      }
