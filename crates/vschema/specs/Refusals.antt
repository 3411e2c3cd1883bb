-- What a refusal of the catalogue's reader says of the bytes that it read.
use Rattle.std.specs.Prelude.{◌≡◌, ◌≢◌, ℕ, List, Result, Ok, Err}
use Rattle.std.specs.Str.{IsUtf8}
use Rattle.std.specs.Str.Lossy.{utf8_valid_len}
use Rattle.word_tokens.specs.Tokens.{AreTokens}
use Rattle.word_tokens.specs.declared.token.Token.{Token}
use Rattle.vschema.specs.Words.{line_number}
use Rattle.vschema.specs.CatalogueGrammar.{IsViableFault}
use Rattle.vschema.specs.Faults.{FileFault}
use Rattle.vschema.specs.declared.catalog.Catalog.{Catalog}
use Rattle.vschema.specs.declared.catalog.OpeningRow.{OpeningRow}
use Rattle.vschema.specs.declared.fault.CatalogFault.{CatalogFault}
use Rattle.vschema.specs.declared.fault.CatalogFault.TheVariants as fault
use Rattle.vschema.specs.declared.refused.CatalogRefused.{CatalogRefused}
use Rattle.vschema.specs.declared.refused.CatalogRefused.TheVariants as refused

-- a fault with its line
abbrev pub refused_at : List ℕ → List Token → CatalogFault → CatalogRefused
refused_at text tokens (fault.Syntax at) = refused.Syntax (line_number text tokens at)
refused_at text tokens (fault.Duplicate at) = refused.Duplicate (line_number text tokens at)
refused_at text tokens (fault.UnknownFeature at) = refused.UnknownFeature (line_number text tokens at)
refused_at text tokens (fault.UnknownName at) = refused.UnknownName (line_number text tokens at)
refused_at text tokens (fault.WrongKind at) = refused.WrongKind (line_number text tokens at)
refused_at text tokens (fault.Limit at which) = refused.Limit (line_number text tokens at) which
refused_at text tokens fault.Memory = refused.Memory

-- The bytes are text, and this is the first fault among its tokens, with its line: what stands before it was read, a
-- syntax fault stands at the first token with which no catalogue goes on, and each other at one that could stand there.
pub record IsRefused (why : CatalogRefused) (bytes : List ℕ) : Type 0 where
  pub is_text : IsUtf8 bytes
  pub tokens : List Token
  pub are_tokens : AreTokens bytes tokens
  pub fault : CatalogFault
  pub is_fault : FileFault bytes tokens fault
  pub viable : IsViableFault bytes tokens fault
  pub placed : why ≡ refused_at bytes tokens fault

-- what each refusal says: the bytes aren't text, from this one on, or they have that first fault; want of memory says
-- nothing
abbrev pub Refuses : CatalogRefused → List ℕ → Type 0
Refuses (refused.Utf8 place) bytes = (IsUtf8 bytes → ⊥) × (place ≡ utf8_valid_len bytes)
Refuses refused.Memory bytes = Unit {0}
Refuses why bytes = IsRefused why bytes

-- the answer is this catalogue with these opening rows, or memory ran out
abbrev pub GivesCatalogue : Catalog → List OpeningRow → Result (Catalog × List OpeningRow) CatalogRefused → Type 0
GivesCatalogue catalog rows (Ok found) = (found.0 ≡ catalog) × (found.1 ≡ rows)
GivesCatalogue catalog rows (Err why) = why ≡ refused.Memory

-- the answer is this refusal, or memory ran out
abbrev pub GivesFileFault : CatalogRefused → Result (Catalog × List OpeningRow) CatalogRefused → Type 0
GivesFileFault why (Ok found) = ⊥
GivesFileFault why (Err found) = found ≢ refused.Memory → found ≡ why
