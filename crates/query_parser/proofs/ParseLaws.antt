-- The reader's answers.
use Rattle.std.proofs.Common.{Bool, ◌≡◌, ℕ, List, refl}
use Rattle.word_tokens.specs.Tokens.{AreTokens}
use Rattle.word_tokens.specs.declared.token.Token.{Token}
use Rattle.vra_syntax.specs.declared.statement.Statement.{Statement}
use Rattle.query_parser.specs.Statements.{AreStatements}
use Rattle.query_parser.specs.Texts.{IsText, Refusal, IsRefusedText, placed_at}
use Rattle.query_parser.specs.WriteFaults.{StatementsFault}
use Rattle.query_parser.specs.declared.fault.ParseFault.{ParseFault}
use Rattle.query_parser.specs.declared.fault.ParseFault.TheVariants as fault
use Rattle.query_parser.specs.declared.refused.ParseRefused.{ParseRefused}
use Rattle.query_parser.proofs.StatementWalks.{viable_text, viable_fault}

module _ (names : List (List ℕ)) (with_params : Bool) (text : List ℕ) (tokens : List Token) where
  pub is_text : (statements : List Statement) → AreTokens text tokens → AreStatements with_params names text tokens statements → IsText names with_params text statements
  is_text statements are spelled = record { tokens = tokens; are_tokens = are; viable = viable_text with_params names text tokens statements spelled; spelled = spelled }

  refusal : (f : ParseFault) → AreTokens text tokens → StatementsFault with_params names text tokens f → Refusal names with_params text (placed_at text tokens f)
  refusal f are is = record { tokens = tokens; are_tokens = are; fault = f; is_fault = is; is_viable = viable_fault with_params names text tokens f is; placed = refl }

  refused_as : (f : ParseFault) → Refusal names with_params text (placed_at text tokens f) → IsRefusedText names with_params text (placed_at text tokens f)
  refused_as (fault.Syntax at) r = r
  refused_as (fault.UnknownFeature at) r = r
  refused_as (fault.IntTooLarge at) r = r
  refused_as (fault.TooDeep at) r = r
  refused_as (fault.TooManyParams at) r = r
  refused_as (fault.NoParam at) r = r
  refused_as fault.Memory r = tt

  pub is_refused : (f : ParseFault) (why : ParseRefused) → AreTokens text tokens → StatementsFault with_params names text tokens f → why ≡ placed_at text tokens f → IsRefusedText names with_params text why
  is_refused f why are is placed = rw placed (refused_as f (refusal f are is))
