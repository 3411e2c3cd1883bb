-- The reader's answers.
use Rattle.std.proofs.Common.{◌≡◌, ℕ, List, refl}
use Rattle.std.specs.Str.{IsUtf8}
use Rattle.word_tokens.specs.Tokens.{AreTokens}
use Rattle.word_tokens.specs.declared.token.Token.{Token}
use Rattle.vschema.specs.Faults.{FileFault}
use Rattle.vschema.specs.declared.fault.CatalogFault.{CatalogFault}
use Rattle.vschema.specs.declared.fault.CatalogFault.TheVariants as fault
use Rattle.vschema.specs.declared.refused.CatalogRefused.{CatalogRefused}
use Rattle.vschema.proofs.GrammarLaws.{is_viable_fault, is_whole}
use Rattle.vschema.specs.Files.{IsCatalogue}
use Rattle.vschema.specs.Spelling.{SpellCatalogue}
use Rattle.vschema.specs.declared.catalog.Catalog.{Catalog}
use Rattle.vschema.specs.declared.catalog.OpeningRow.{OpeningRow}
use Rattle.vschema.specs.Refusals.{IsRefused, Refuses, refused_at}

pub is_refused : (text : List ℕ) (tokens : List Token) (f : CatalogFault) → IsUtf8 text → AreTokens text tokens → FileFault text tokens f → IsRefused (refused_at text tokens f) text
is_refused text tokens f utf8 are is = record { is_text = utf8; tokens = tokens; are_tokens = are; fault = f; is_fault = is; viable = is_viable_fault text tokens f is; placed = refl }

refuses : (text : List ℕ) (tokens : List Token) (f : CatalogFault) → IsRefused (refused_at text tokens f) text → Refuses (refused_at text tokens f) text
refuses text tokens (fault.Syntax at) r = r
refuses text tokens (fault.Duplicate at) r = r
refuses text tokens (fault.UnknownFeature at) r = r
refuses text tokens (fault.UnknownName at) r = r
refuses text tokens (fault.WrongKind at) r = r
refuses text tokens (fault.Limit at which) r = r
refuses text tokens fault.Memory r = tt

pub refused_text : (text : List ℕ) (tokens : List Token) (f : CatalogFault) (why : CatalogRefused) → IsUtf8 text → AreTokens text tokens → FileFault text tokens f → why ≡ refused_at text tokens f → Refuses why text
refused_text text tokens f why utf8 are is placed = rw placed (refuses text tokens f (is_refused text tokens f utf8 are is))

pub is_catalogue : (text : List ℕ) (tokens : List Token) (catalog : Catalog) (rows : List OpeningRow) → IsUtf8 text → AreTokens text tokens → SpellCatalogue text tokens catalog rows → IsCatalogue text catalog rows
is_catalogue text tokens catalog rows utf8 are spelled = record { is_text = utf8; tokens = tokens; are_tokens = are; viable = is_whole text tokens catalog rows spelled; spelled = spelled }
