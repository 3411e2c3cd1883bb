-- A file is one catalogue alone, and then it has no fault, or it has one fault.
use Rattle.std.proofs.Common.{◌≡◌, ◌≢◌, ℕ, List, Ok, Err, sym, ap, ◌∙◌, refl}
use Rattle.std.specs.Str.{IsUtf8}
use Rattle.word_tokens.specs.declared.token.Token.{Token}
use Rattle.feature_expr.proofs.OneLaws.{one_tokens}
use Rattle.vschema.specs.Files.{IsCatalogue}
use Rattle.vschema.specs.Refusals.{refused_at, IsRefused, Refuses, GivesCatalogue, GivesFileFault}
use Rattle.vschema.specs.declared.catalog.Catalog.{Catalog}
use Rattle.vschema.specs.declared.catalog.OpeningRow.{OpeningRow}
use Rattle.vschema.specs.declared.fault.CatalogFault.{CatalogFault}
use Rattle.vschema.specs.declared.fault.CatalogFault.TheVariants as fault
use Rattle.vschema.specs.declared.refused.CatalogRefused.{CatalogRefused}
use Rattle.vschema.specs.declared.refused.CatalogRefused.TheVariants as refused
use Rattle.vschema.proofs.ProgramEntries.{one_file, no_fault, one_fault}

module _ (bytes : List ℕ) where
  pub one_catalogue : (catalog other : Catalog) (rows other_rows : List OpeningRow) → IsCatalogue bytes catalog rows → IsCatalogue bytes other other_rows → (catalog ≡ other) × (rows ≡ other_rows)
  one_catalogue catalog other rows other_rows c d =
      let same : d.tokens ≡ c.tokens = one_tokens bytes d.tokens c.tokens d.are_tokens c.are_tokens in
      one_file bytes c.tokens catalog other rows other_rows c.spelled (rw same at d.spelled)

  -- a refusal that isn't for memory is a fault
  fault_stands : (why : CatalogRefused) (tokens : List Token) (f : CatalogFault) → why ≡ refused_at bytes tokens f → why ≢ refused.Memory → f ≢ fault.Memory
  fault_stands why tokens f placed other is = other (placed ∙ ap (refused_at bytes tokens) is)

  -- bytes that are text are refused for one of their tokens
  refusal_of : (why : CatalogRefused) → IsUtf8 bytes → Refuses why bytes → why ≢ refused.Memory → IsRefused why bytes
  refusal_of (refused.Utf8 place) utf8 r other = absurd (r.0 utf8)
  refusal_of (refused.Syntax line) utf8 r other = r
  refusal_of (refused.Duplicate line) utf8 r other = r
  refusal_of (refused.UnknownFeature line) utf8 r other = r
  refusal_of (refused.UnknownName line) utf8 r other = r
  refusal_of (refused.WrongKind line) utf8 r other = r
  refusal_of (refused.Limit line most) utf8 r other = r
  refusal_of refused.Memory utf8 r other = absurd (other refl)

  not_refused : (catalog : Catalog) (rows : List OpeningRow) (why : CatalogRefused) → IsCatalogue bytes catalog rows → Refuses why bytes → why ≢ refused.Memory → ⊥
  not_refused catalog rows why c r other =
      let q = refusal_of why c.is_text r other in
      let same : q.tokens ≡ c.tokens = one_tokens bytes q.tokens c.tokens q.are_tokens c.are_tokens in
      no_fault bytes c.tokens catalog rows q.fault c.spelled (rw same at q.is_fault) (fault_stands why q.tokens q.fault q.placed other)

  -- a refusal, of a file that is a catalogue
  pub faultless : (catalog : Catalog) (rows : List OpeningRow) (why : CatalogRefused) → IsCatalogue bytes catalog rows → Refuses why bytes → why ≡ refused.Memory
  faultless catalog rows (refused.Utf8 place) c r = absurd (not_refused catalog rows (refused.Utf8 place) c r (λ h. cc h))
  faultless catalog rows (refused.Syntax line) c r = absurd (not_refused catalog rows (refused.Syntax line) c r (λ h. cc h))
  faultless catalog rows (refused.Duplicate line) c r = absurd (not_refused catalog rows (refused.Duplicate line) c r (λ h. cc h))
  faultless catalog rows (refused.UnknownFeature line) c r = absurd (not_refused catalog rows (refused.UnknownFeature line) c r (λ h. cc h))
  faultless catalog rows (refused.UnknownName line) c r = absurd (not_refused catalog rows (refused.UnknownName line) c r (λ h. cc h))
  faultless catalog rows (refused.WrongKind line) c r = absurd (not_refused catalog rows (refused.WrongKind line) c r (λ h. cc h))
  faultless catalog rows (refused.Limit line most) c r = absurd (not_refused catalog rows (refused.Limit line most) c r (λ h. cc h))
  faultless catalog rows refused.Memory c r = refl

  one_place : (why other : CatalogRefused) → IsRefused why bytes → IsRefused other bytes → why ≢ refused.Memory → other ≢ refused.Memory → why ≡ other
  one_place why other p q x y =
      let same : q.tokens ≡ p.tokens = one_tokens bytes q.tokens p.tokens q.are_tokens p.are_tokens in
      let is : p.fault ≡ q.fault = one_fault bytes p.tokens p.fault q.fault p.is_fault (rw same at q.is_fault) (fault_stands why p.tokens p.fault p.placed x) (fault_stands other q.tokens q.fault q.placed y) in
      p.placed ∙ (rw (is, sym same) (sym q.placed))

  -- bytes that aren't text are refused as such alone
  not_text : (place : ℕ) (other : CatalogRefused) → Refuses (refused.Utf8 place) bytes → Refuses other bytes → other ≢ refused.Memory → refused.Utf8 place ≡ other
  not_text place (refused.Utf8 other) r s y = ap refused.Utf8 (r.1 ∙ sym s.1)
  not_text place (refused.Syntax line) r s y = absurd (r.0 s.is_text)
  not_text place (refused.Duplicate line) r s y = absurd (r.0 s.is_text)
  not_text place (refused.UnknownFeature line) r s y = absurd (r.0 s.is_text)
  not_text place (refused.UnknownName line) r s y = absurd (r.0 s.is_text)
  not_text place (refused.WrongKind line) r s y = absurd (r.0 s.is_text)
  not_text place (refused.Limit line most) r s y = absurd (r.0 s.is_text)
  not_text place refused.Memory r s y = absurd (y refl)

  -- a refusal of text, beside any other
  one_fault_of : (why other : CatalogRefused) → IsRefused why bytes → Refuses other bytes → why ≢ refused.Memory → other ≢ refused.Memory → why ≡ other
  one_fault_of why other p s x y = one_place why other p (refusal_of other p.is_text s y) x y

  pub one_refusal : (why other : CatalogRefused) → Refuses why bytes → Refuses other bytes → why ≢ refused.Memory → other ≢ refused.Memory → why ≡ other
  one_refusal (refused.Utf8 place) other r s x y = not_text place other r s y
  one_refusal (refused.Syntax line) other r s x y = one_fault_of (refused.Syntax line) other r s x y
  one_refusal (refused.Duplicate line) other r s x y = one_fault_of (refused.Duplicate line) other r s x y
  one_refusal (refused.UnknownFeature line) other r s x y = one_fault_of (refused.UnknownFeature line) other r s x y
  one_refusal (refused.UnknownName line) other r s x y = one_fault_of (refused.UnknownName line) other r s x y
  one_refusal (refused.WrongKind line) other r s x y = one_fault_of (refused.WrongKind line) other r s x y
  one_refusal (refused.Limit line most) other r s x y = one_fault_of (refused.Limit line most) other r s x y
  one_refusal refused.Memory other r s x y = absurd (x refl)

  pub gives_found : (found : Catalog × List OpeningRow) (catalog : Catalog) (rows : List OpeningRow) → IsCatalogue bytes found.0 found.1 → IsCatalogue bytes catalog rows → GivesCatalogue catalog rows (Ok found)
  gives_found found catalog rows c d = one_catalogue found.0 catalog found.1 rows c d

  pub gives_refused : (why : CatalogRefused) (catalog : Catalog) (rows : List OpeningRow) → Refuses why bytes → IsCatalogue bytes catalog rows → GivesCatalogue catalog rows (Err why)
  gives_refused why catalog rows r c = faultless catalog rows why c r

  pub fault_found : (found : Catalog × List OpeningRow) (why : CatalogRefused) → IsCatalogue bytes found.0 found.1 → Refuses why bytes → why ≢ refused.Memory → GivesFileFault why (Ok found)
  fault_found found why c r other = not_refused found.0 found.1 why c r other

  pub fault_refused : (found why : CatalogRefused) → Refuses found bytes → Refuses why bytes → why ≢ refused.Memory → GivesFileFault why (Err found)
  fault_refused found why r s other x = one_refusal found why r s x other
