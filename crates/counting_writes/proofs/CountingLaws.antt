-- Those of the writes that count, one write after another.
use Rattle.std.proofs.Common.{◌≡◌, ◌∙◌, Bool, true, false, if◌then◌else◌, List, [], ◌∷◌, ◌++◌, refl, sym, ap, append_assoc, append-nil}
use Rattle.stored_versions.specs.Catalogues.{catalog_after}
use Rattle.stored_versions.specs.Logs.{taken_from}
use Rattle.vra_syntax.specs.declared.write.Write.{Write}
use Rattle.vra_syntax.specs.declared.write.Write.TheVariants as write
use Rattle.vschema.specs.declared.catalog.Catalog.{Catalog}
use Rattle.write_meaning.specs.TakenWrites.{is_taken}

-- no write changes the catalogue yet
after_stays : (catalog : Catalog) (w : Write) → catalog_after catalog w ≡ catalog
after_stays catalog (write.Insert table names rows expr) = refl
after_stays catalog (write.Delete table cond expr) = refl
after_stays catalog (write.Update table items cond expr) = refl

by_test : (w : Write) (one other : List Write) (b : Bool) → one ≡ other → (if b then w ∷ one else other) ≡ (if b then w ∷ [] else []) ++ other
by_test w one other true same = ap (λ (ws : List Write). w ∷ ws) same
by_test w one other false same = refl

first_then : (catalog : Catalog) (w : Write) (more : List Write) → taken_from catalog (w ∷ more) ≡ taken_from catalog (w ∷ []) ++ taken_from catalog more
first_then catalog w more =
    by_test w (taken_from (catalog_after catalog w) more) (taken_from catalog more) (is_taken catalog w) (ap (λ (later : Catalog). taken_from later more) (after_stays catalog w))

-- one write more
pub counting_more : (catalog : Catalog) (w : Write) (more all old new : List Write) → new ≡ old ++ taken_from catalog (w ∷ []) → old ++ taken_from catalog (w ∷ more) ≡ all → new ++ taken_from catalog more ≡ all
counting_more catalog w more all old new put on =
    ap (λ (ws : List Write). ws ++ taken_from catalog more) put
    ∙ append_assoc old (taken_from catalog (w ∷ [])) (taken_from catalog more)
    ∙ ap (λ (ws : List Write). old ++ ws) (sym (first_then catalog w more))
    ∙ on

-- no write is left
pub counting_end : (catalog : Catalog) (left all new : List Write) → left ≡ [] → new ++ taken_from catalog left ≡ all → new ≡ all
counting_end catalog left all new none on = sym (append-nil new) ∙ ap (λ (ws : List Write). new ++ taken_from catalog ws) (sym none) ∙ on
