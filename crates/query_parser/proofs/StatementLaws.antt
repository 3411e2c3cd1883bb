-- Statements, put together from their parts.
use Rattle.std.proofs.Common.{Bool, true, ◌≡◌, ℕ, ◌+◌, ◌||◌, List, arith}
use Rattle.word_tokens.specs.declared.token.Token.{Token}
use Rattle.vra_syntax.specs.declared.statement.Statement.TheVariants as statement
use Rattle.vra_syntax.specs.declared.write.Write.{Write}
use Rattle.vra_syntax.specs.declared.write.Write.TheVariants as write
use Rattle.query_parser.specs.Lexemes.{lexeme_at, stands}
use Rattle.query_parser.specs.StatementGrammar.{is_word}
use Rattle.query_parser.specs.Statements.{IsSetting, SpellsStatement, set_statement, insert_statement, delete_statement, update_statement}
use Rattle.query_parser.specs.Writes.{SpellsInsert, SpellsDelete, SpellsUpdate}
use Rattle.query_parser.specs.declared.lexeme.Lexeme.TheVariants as lexeme

module _ (with_params : Bool) (names : List (List ℕ)) (text : List ℕ) (tokens : List Token) (at : ℕ) where
  pub sets : (end : ℕ) → stands text tokens at lexeme.Set ≡ true → is_word (lexeme_at text tokens (at + 1)) ≡ true → stands text tokens (at + 1 + 1) lexeme.To || stands text tokens (at + 1 + 1) lexeme.Equal ≡ true → IsSetting with_params text tokens (at + 1 + 2) → end ≡ at + 1 + 3 → SpellsStatement with_params names text tokens at statement.Set end
  sets end begins word to setting ends =
      let two : at + 1 + 1 ≡ at + 2 = omega arith in
      let three : at + 1 + 2 ≡ at + 3 = omega arith in
      let four : end ≡ at + 4 = omega (arith, ends) in
      rw four (set_statement begins word (rw two at to) (rw three at setting))

  pub inserts : (w : Write) (end : ℕ) → stands text tokens at lexeme.Insert ≡ true → SpellsInsert with_params names text tokens (at + 1) w end → SpellsStatement with_params names text tokens at (statement.Write w) end
  inserts (write.Insert table columns rows expr) end begins spelled = insert_statement table columns rows expr end begins spelled
  inserts (write.Delete table c expr) end begins spelled = absurd spelled
  inserts (write.Update table items c expr) end begins spelled = absurd spelled

  pub deletes : (w : Write) (end : ℕ) → stands text tokens at lexeme.Delete ≡ true → SpellsDelete with_params names text tokens (at + 1) w end → SpellsStatement with_params names text tokens at (statement.Write w) end
  deletes (write.Insert table columns rows expr) end begins spelled = absurd spelled
  deletes (write.Delete table c expr) end begins spelled = delete_statement table c expr end begins spelled
  deletes (write.Update table items c expr) end begins spelled = absurd spelled

  pub updates : (w : Write) (end : ℕ) → stands text tokens at lexeme.Update ≡ true → SpellsUpdate with_params names text tokens (at + 1) w end → SpellsStatement with_params names text tokens at (statement.Write w) end
  updates (write.Insert table columns rows expr) end begins spelled = absurd spelled
  updates (write.Delete table c expr) end begins spelled = absurd spelled
  updates (write.Update table items c expr) end begins spelled = update_statement table items c expr end begins spelled
