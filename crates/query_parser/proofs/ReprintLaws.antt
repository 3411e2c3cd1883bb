-- What a text spells is printed as a text that spells it alone.
use Rattle.std.proofs.Common.{Bool, ◌≡◌, ℕ, List, [], ◌∷◌, ◌++◌, None, Ok, Err, refl}
use Rattle.feature_expr.specs.Names.{refusal}
use Rattle.word_tokens.proofs.TokenLaws.{has_tokens}
use Rattle.vra_syntax.specs.declared.statement.Statement.{Statement}
use Rattle.query_printer.specs.Printing.{text_of}
use Rattle.query_parser.specs.Texts.{IsText, IsRefusedText, GivesStatements}
use Rattle.query_parser.specs.declared.refused.ParseRefused.{ParseRefused}
use Rattle.query_parser.proofs.Printables.{PlainStatement, PlainStatements}
use Rattle.query_parser.proofs.PlainLaws.{plain_statements}
use Rattle.query_parser.proofs.PrintedLaws.{printed_text}
use Rattle.query_parser.proofs.TextLaws.{gives_found, gives_refused}

one_of : (with_params : Bool) (names : List (List ℕ)) (before after : List Statement) (s : Statement) → PlainStatements with_params names (before ++ s ∷ after) → PlainStatement with_params names s
one_of with_params names [] after s all = all.0
one_of with_params names (first ∷ before) after s all = one_of with_params names before after s all.1

module _ (names : List (List ℕ)) (none : refusal names ≡ None) (with_params : Bool) (origin : List ℕ) (before after : List Statement) (s : Statement) (is : IsText names with_params origin (before ++ s ∷ after)) where
  plain : PlainStatement with_params names s
  plain = one_of with_params names before after s (plain_statements with_params names origin is.tokens is.are_tokens (before ++ s ∷ after) is.spelled)

  pub reads_printed : IsText names with_params (text_of names s) (s ∷ [])
  reads_printed = let t = has_tokens (text_of names s) in printed_text with_params names none s (text_of names s) t.tokens plain refl t.are_tokens

  pub printed_found : (text : List ℕ) (found : List Statement) → text ≡ text_of names s → IsText names with_params text found → GivesStatements (s ∷ []) (Ok found)
  printed_found text found same t = gives_found names with_params text found (s ∷ []) t (rw same reads_printed)

  pub printed_refused : (text : List ℕ) (why : ParseRefused) → text ≡ text_of names s → IsRefusedText names with_params text why → GivesStatements (s ∷ []) (Err why)
  printed_refused text why same r = gives_refused names with_params text why (s ∷ []) r (rw same reads_printed)
