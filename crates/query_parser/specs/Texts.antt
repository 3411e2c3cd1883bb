-- Texts that are statements, and why others aren't.
use Rattle.std.specs.Prelude.{Bool, ◌≡◌, ◌≢◌, ℕ, ◌+◌, List, length, Result, Ok, Err}
use Rattle.word_tokens.specs.Tokens.{AreTokens, place_at}
use Rattle.word_tokens.specs.declared.token.Token.{Token}
use Rattle.vra_syntax.specs.declared.statement.Statement.{Statement}
use Rattle.query_parser.specs.StatementGrammar.{IsViable, IsViableFault}
use Rattle.query_parser.specs.Statements.{AreStatements}
use Rattle.query_parser.specs.WriteFaults.{StatementsFault}
use Rattle.query_parser.specs.declared.fault.ParseFault.{ParseFault}
use Rattle.query_parser.specs.declared.fault.ParseFault.TheVariants as fault
use Rattle.feature_expr.specs.Nesting.{nesting_limit}
use Rattle.query_parser.specs.declared.refused.ParseRefused.{ParseRefused}
use Rattle.query_parser.specs.declared.refused.ParseRefused.TheVariants as refused

-- a fault with its place among the characters
abbrev pub placed_at : List ℕ → List Token → ParseFault → ParseRefused
placed_at text tokens (fault.Syntax at) = refused.Syntax (place_at text tokens at)
placed_at text tokens (fault.UnknownFeature at) = refused.UnknownFeature (place_at text tokens at)
placed_at text tokens (fault.IntTooLarge at) = refused.IntTooLarge (place_at text tokens at)
placed_at text tokens (fault.TooDeep at) = refused.TooDeep (place_at text tokens at)
placed_at text tokens (fault.TooManyParams at) = refused.TooManyParams (place_at text tokens at)
placed_at text tokens (fault.NoParam at) = refused.NoParam (place_at text tokens at)
placed_at text tokens fault.Memory = refused.Memory

-- a text is these statements, where it may name these features and may or may not have parameters
pub record IsText (names : List (List ℕ)) (with_params : Bool) (text : List ℕ) (statements : List Statement) : Type 0 where
  pub tokens : List Token
  pub are_tokens : AreTokens text tokens
  pub viable : IsViable text tokens nesting_limit (length tokens + 1)
  pub spelled : AreStatements with_params names text tokens statements

pub record Refusal (names : List (List ℕ)) (with_params : Bool) (text : List ℕ) (why : ParseRefused) : Type 0 where
  pub tokens : List Token
  pub are_tokens : AreTokens text tokens
  pub fault : ParseFault
  pub is_fault : StatementsFault with_params names text tokens fault
  pub is_viable : IsViableFault text tokens fault
  pub placed : why ≡ placed_at text tokens fault

-- it is refused for its first fault, or memory ran out
abbrev pub IsRefusedText : List (List ℕ) → Bool → List ℕ → ParseRefused → Type 0
IsRefusedText names with_params text refused.Memory = Unit {0}
IsRefusedText names with_params text why = Refusal names with_params text why

-- the answer is these statements, or memory ran out
abbrev pub GivesStatements : List Statement → Result (List Statement) ParseRefused → Type 0
GivesStatements statements (Ok found) = found ≡ statements
GivesStatements statements (Err why) = why ≡ refused.Memory

-- the answer is this refusal, or memory ran out
abbrev pub GivesTextFault : ParseRefused → Result (List Statement) ParseRefused → Type 0
GivesTextFault why (Ok found) = ⊥
GivesTextFault why (Err found) = found ≢ refused.Memory → found ≡ why
