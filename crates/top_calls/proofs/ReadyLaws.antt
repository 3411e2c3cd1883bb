-- A catalogue that passes its check is refused for no cause.
use Rattle.std.proofs.Common.{◌≡◌, ◌≢◌, ℕ, List, inl, inr, sym, subst, arith}
use Rattle.causes.specs.Faults.{Rose}
use Rattle.vra_types.specs.declared.refused.CheckRefused.{CheckRefused}
use Rattle.vra_types.specs.declared.refused.CheckRefused.TheVariants as unpassed
use Rattle.vra_types.proofs.PassLaws.{unrefused}
use Rattle.vschema.specs.Refusals.{Refuses}
use Rattle.vschema.specs.declared.catalog.Catalog.{Catalog}
use Rattle.vschema.specs.declared.refused.CatalogRefused.{CatalogRefused}
use Rattle.vschema.specs.declared.refused.CatalogRefused.TheVariants as refused
use Rattle.vschema.proofs.FileLaws.{one_catalogue, faultless}
use Rattle.top_calls.specs.Checks.{ArePassing, HoldsPassing, IsReady}
use Rattle.top_calls.specs.Exits.{IsUnpassed, RefusedFor, HasNoFault}
use Rattle.top_calls.specs.Sinks.{Held}
use Rattle.top_calls.specs.Sources.{Files}
use Rattle.top_calls.specs.declared.exit.CatalogueFault.{CatalogueFault}
use Rattle.top_calls.specs.declared.exit.CatalogueFault.TheVariants as fault

module _ (bytes : List ℕ) (p : ArePassing bytes) where
  not_refused : (why : CatalogRefused) → Refuses why bytes → why ≢ refused.Memory → ⊥
  not_refused why r other = other (faultless bytes p.catalog p.rows why p.spelled r)

  not_unpassed : (catalog : Catalog) (why : CheckRefused) → IsUnpassed bytes catalog why → why ≢ unpassed.Memory → ⊥
  not_unpassed catalog why u other =
      let same = one_catalogue bytes catalog p.catalog u.rows p.rows u.spelled p.spelled in
      other (unrefused p.catalog p.rows why p.passes (rw (same.0, same.1) at u.refused))

  not_refused_for : (why : CatalogueFault) → RefusedFor why bytes → ⊥
  not_refused_for (fault.Parse refused.Memory) r = r
  not_refused_for (fault.Parse (refused.Utf8 place)) r = not_refused (refused.Utf8 place) r (λ h. cc h)
  not_refused_for (fault.Parse (refused.Syntax line)) r = not_refused (refused.Syntax line) r (λ h. cc h)
  not_refused_for (fault.Parse (refused.Duplicate line)) r = not_refused (refused.Duplicate line) r (λ h. cc h)
  not_refused_for (fault.Parse (refused.UnknownFeature line)) r = not_refused (refused.UnknownFeature line) r (λ h. cc h)
  not_refused_for (fault.Parse (refused.UnknownName line)) r = not_refused (refused.UnknownName line) r (λ h. cc h)
  not_refused_for (fault.Parse (refused.WrongKind line)) r = not_refused (refused.WrongKind line) r (λ h. cc h)
  not_refused_for (fault.Parse (refused.Limit line which)) r = not_refused (refused.Limit line which) r (λ h. cc h)
  not_refused_for (fault.Check unpassed.Memory catalog) r = r
  not_refused_for (fault.Check unpassed.NoVariant catalog) r = not_unpassed catalog unpassed.NoVariant r (λ h. cc h)
  not_refused_for (fault.Check (unpassed.NoColumn name c) catalog) r = not_unpassed catalog (unpassed.NoColumn name c) r (λ h. cc h)
  not_refused_for (fault.Check (unpassed.MissingValue line name c) catalog) r = not_unpassed catalog (unpassed.MissingValue line name c) r (λ h. cc h)

pub no_fault : (before after : Files) (catalogue stream : List ℕ) (out out' : Held) → IsReady before after catalogue stream out out' → HasNoFault before after catalogue stream out out'
no_fault before after catalogue stream out out' ready = record {
  read = ready.read;
  written = ready.written;
  short_catalogue = ready.holds.short_catalogue;
  short_stream = ready.holds.short_stream;
  taken = λ why f. not_refused_for f.bytes (ready.holds.passing f.bytes f.content) why f.refused;
}

still : (old new : ℕ) → old ≡ 0 → new ≡ 0 → Rose old new → ⊥
still old new was is (inl more) = omega (arith, was, is, more)
still old new was is (inr last) = omega (arith, was, is, last)

-- counts that are 0 before and after haven't risen
pub no_fault_counted : (before after : Files) (catalogue stream : List ℕ) (out out' : Held) → HoldsPassing before catalogue stream → before.faults ≡ 0 → after.faults ≡ 0 → out.faults ≡ 0 → out'.faults ≡ 0 → IsReady before after catalogue stream out out'
no_fault_counted before after catalogue stream out out' holds files files' sink sink' = record {
  read = inr (still before.faults after.faults files files');
  written = still out.faults out'.faults sink sink';
  holds = holds;
}

-- the same of two names by which they are called
pub no_fault_named : (before after : Files) (catalogue stream name other : List ℕ) (out out' : Held) → name ≡ catalogue → other ≡ stream → IsReady before after catalogue stream out out' → HasNoFault before after name other out out'
no_fault_named before after catalogue stream name other out out' is is' ready =
    subst (λ n. HasNoFault before after n other out out') (sym is) (subst (λ s. HasNoFault before after catalogue s out out') (sym is') (no_fault before after catalogue stream out out' ready))
