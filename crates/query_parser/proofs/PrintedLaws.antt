-- The text that prints a plain statement is that statement alone.
use Rattle.std.proofs.Common.{◌≡◌, ℕ, ◌+◌, List, [], ◌∷◌, ◌++◌, Some, None, Bool, codes, decimal, pos, refl, sym, ap, append-nil, arith}
use Rattle.std.proofs.lemmas.Fmt.{decimal_digit}
use Rattle.feature_expr.specs.Names.{refusal}
use Rattle.word_tokens.specs.Tokens.{AreTokens}
use Rattle.word_tokens.specs.declared.token.Token.{Token}
use Rattle.word_tokens.specs.declared.token.TokenKind.TheVariants as kind
use Rattle.values.specs.declared.value.Value.TheVariants as value
use Rattle.vra_syntax.specs.declared.cond.Operand.TheVariants as operand
use Rattle.vra_syntax.specs.declared.query.Query.{Query}
use Rattle.vra_syntax.specs.declared.statement.Statement.{Statement}
use Rattle.vra_syntax.specs.declared.statement.Statement.TheVariants as statement
use Rattle.vra_syntax.specs.declared.write.Write.{Write}
use Rattle.query_parser.proofs.HereLaws.{lexeme_here, value_here, end_here}
use Rattle.query_parser.proofs.HereParts.{reads_as, word, word_before}
use Rattle.query_parser.proofs.Heres.{Here, at_start}
use Rattle.query_parser.proofs.NumberLaws.{positive_here}
use Rattle.query_parser.proofs.ParseLaws.{is_text}
use Rattle.query_parser.proofs.Printables.{plain_positive, PlainStatement, plain_begin, plain_commit, plain_rollback, plain_set, plain_query, plain_insert, plain_delete, plain_update}
use Rattle.query_parser.proofs.PrintedConds.{where_ended}
use Rattle.query_parser.proofs.PrintedQueries.{WholeQueryHere, query_here}
use Rattle.query_parser.proofs.PrintedWrites.{WriteHere, insert_here, delete_here, update_here}
use Rattle.query_parser.specs.Lexemes.{lexeme_at}
use Rattle.query_printer.specs.Printing.{text_of}
use Rattle.query_parser.specs.Statements.{IsTail, no_tail, IsSetting, integer_setting, SpellsStatement, begin_statement, commit_statement, rollback_statement, set_statement, query_statement, no_statement_yet, AreStatements, ends_with_statement}
use Rattle.query_parser.specs.Texts.{IsText}
use Rattle.query_parser.specs.declared.lexeme.Lexeme.TheVariants as lexeme

module _ (with_params : Bool) (names : List (List ℕ)) (text : List ℕ) (tokens : List Token) where
  -- a statement that stands there, behind which the text ends
  pub record StatementHere (k : ℕ) (s : Statement) : Type 0 where
    pub end : ℕ
    pub spelled : SpellsStatement with_params names text tokens k s end
    pub ends : lexeme_at text tokens end ≡ lexeme.End

  ended : (k : ℕ) → Here text tokens k [] → lexeme_at text tokens k ≡ lexeme.End
  ended k h = (end_here text tokens k h).0

  no_tail_here : (k : ℕ) → lexeme_at text tokens k ≡ lexeme.End → IsTail text tokens k k
  no_tail_here k is = no_tail (rw is refl) (rw is refl)

  begin_here : (k : ℕ) → Here text tokens k (codes "begin") → StatementHere k statement.Begin
  begin_here k h =
      let w = word text tokens k (codes "begin") [] refl refl h in
      let is = ended (k + 1) w.1 in
      record { end = k + 1; spelled = begin_statement (k + 1) (rw w.0 refl) (no_tail_here (k + 1) is); ends = is }

  commit_here : (k : ℕ) → Here text tokens k (codes "commit") → StatementHere k statement.Commit
  commit_here k h =
      let w = word text tokens k (codes "commit") [] refl refl h in
      let is = ended (k + 1) w.1 in
      record { end = k + 1; spelled = commit_statement (k + 1) (rw w.0 refl) (no_tail_here (k + 1) is); ends = is }

  rollback_here : (k : ℕ) → Here text tokens k (codes "rollback") → StatementHere k statement.Rollback
  rollback_here k h =
      let w = word text tokens k (codes "rollback") [] refl refl h in
      let is = ended (k + 1) w.1 in
      record { end = k + 1; spelled = rollback_statement (k + 1) (rw w.0 refl) (no_tail_here (k + 1) is); ends = is }

  -- the value 0 of a setting
  setting_here : (k : ℕ) → Here text tokens k (codes "0") → IsSetting with_params text tokens k × (lexeme_at text tokens (k + 1) ≡ lexeme.End)
  setting_here k h =
      let v = operand.Literal (value.Int (pos 0)) in
      let i = reads_as text tokens k (codes "0") (decimal 0 ++ []) (ap (λ (t : List ℕ). t ++ []) (sym (decimal_digit 0 (omega arith)))) h in
      let t = positive_here text tokens k 0 [] (omega arith) refl i in
      let is = value_here text tokens with_params v k [] (plain_positive 0 (omega arith)) (refl, refl) i in
      (integer_setting v (rw (lexeme_here text tokens k (kind.Integer (Some (pos 0))) (decimal 0) t.0) refl) is.0, ended (k + 1) t.1)

  set_here : (k : ℕ) → Here text tokens k (codes "set x to 0") → StatementHere k statement.Set
  set_here k h =
      let s = word_before text tokens k (codes "set") (codes "x to 0") refl h in
      let x = word_before text tokens (k + 1) (codes "x") (codes "to 0") refl s.1 in
      let second : k + 1 + 1 ≡ k + 2 = omega arith in
      let third : k + 2 + 1 ≡ k + 3 = omega arith in
      let fourth : k + 3 + 1 ≡ k + 4 = omega arith in
      let to = word_before text tokens (k + 2) (codes "to") (codes "0") refl (rw second at x.1) in
      let z = setting_here (k + 3) (rw third at to.1) in
      record { end = k + 4; spelled = set_statement (rw s.0 refl) (rw x.0 refl) (rw to.0 refl) z.0; ends = rw fourth at z.1 }

module _ (with_params : Bool) (names : List (List ℕ)) (none : refusal names ≡ None) (text : List ℕ) (tokens : List Token) where
  written : (k : ℕ) (w : Write) → WriteHere with_params names none text tokens k w [] → StatementHere with_params names text tokens k (statement.Write w)
  written k w h =
      let is = (end_here text tokens h.end h.here).0 in
      record { end = h.end; spelled = h.spelled (rw is (where_ended lexeme.End refl, (refl, refl, refl), refl)); ends = is }

  asked : (k : ℕ) (q : Query) → WholeQueryHere with_params names none text tokens 0 k q [] → StatementHere with_params names text tokens k (statement.Query q)
  asked k q h =
      let is = (end_here text tokens h.end h.here).0 in
      record { end = h.end; spelled = query_statement q h.end (h.spelled lexeme.End is refl); ends = is }

  -- nothing stands behind the text
  alone : (k : ℕ) (t : List ℕ) → Here text tokens k t → Here text tokens k (t ++ [])
  alone k t h = reads_as text tokens k _ _ (sym (append-nil t)) h

  pub statement_here : (s : Statement) (k : ℕ) → PlainStatement with_params names s → Here text tokens k (text_of names s) → StatementHere with_params names text tokens k s
  statement_here s k plain_begin h = begin_here with_params names text tokens k h
  statement_here s k plain_commit h = commit_here with_params names text tokens k h
  statement_here s k plain_rollback h = rollback_here with_params names text tokens k h
  statement_here s k plain_set h = set_here with_params names text tokens k h
  statement_here s k (plain_query q plain) h = asked k q (query_here with_params names none text tokens 0 q k [] plain (refl, refl) (alone k _ h))
  statement_here s k (plain_insert table columns rows expr name some plain_columns more plain_rows plain_expr) h =
      written k _ (insert_here with_params names none text tokens table columns rows expr k [] name some plain_columns more plain_rows plain_expr (refl, refl) (alone k _ h))
  statement_here s k (plain_delete table c expr name plain_c plain_expr) h =
      written k _ (delete_here with_params names none text tokens table c expr k [] name plain_c plain_expr (refl, refl) (alone k _ h))
  statement_here s k (plain_update table changes c expr name some plain_changes plain_c plain_expr) h =
      written k _ (update_here with_params names none text tokens table changes c expr k [] name some plain_changes plain_c plain_expr (refl, refl) (alone k _ h))

  pub printed_alone : (s : Statement) → PlainStatement with_params names s → text ≡ text_of names s → AreTokens text tokens → AreStatements with_params names text tokens (s ∷ [])
  printed_alone s plain is are =
      let h = statement_here s 0 plain (reads_as text tokens 0 _ _ is (at_start text tokens are)) in
      ends_with_statement [] 0 s h.end no_statement_yet h.spelled (rw h.ends refl)

-- the text that prints a statement is that statement alone
pub printed_text : (with_params : Bool) (names : List (List ℕ)) → refusal names ≡ None → (s : Statement) (text : List ℕ) (tokens : List Token) → PlainStatement with_params names s → text ≡ text_of names s → AreTokens text tokens → IsText names with_params text (s ∷ [])
printed_text with_params names none s text tokens plain is are =
    is_text names with_params text tokens (s ∷ []) are (printed_alone with_params names none text tokens s plain is are)
