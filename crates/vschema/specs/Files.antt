-- Files that are catalogues.
use Rattle.std.specs.Prelude.{ℕ, ◌+◌, List, length}
use Rattle.std.specs.Str.{IsUtf8}
use Rattle.word_tokens.specs.Tokens.{AreTokens}
use Rattle.word_tokens.specs.declared.token.Token.{Token}
use Rattle.vschema.specs.CatalogueGrammar.{IsViable}
use Rattle.vschema.specs.Spelling.{SpellCatalogue}
use Rattle.vschema.specs.declared.catalog.Catalog.{Catalog}
use Rattle.vschema.specs.declared.catalog.OpeningRow.{OpeningRow}

-- a file's bytes are text whose tokens are a whole text of the grammar, and spell this catalogue with these opening rows
pub record IsCatalogue (bytes : List ℕ) (catalog : Catalog) (rows : List OpeningRow) : Type 0 where
  pub is_text : IsUtf8 bytes
  pub tokens : List Token
  pub are_tokens : AreTokens bytes tokens
  pub viable : IsViable bytes tokens (length tokens + 1)
  pub spelled : SpellCatalogue bytes tokens catalog rows
