-- A commit of others is what those of its writes that count make of the tables.
use Rattle.std.proofs.Common.{◌≡◌, ◌∙◌, ◌<◌, ℕ, Bool, true, false, ◌&&◌, if◌then◌else◌, List, [], ◌∷◌, ◌++◌, refl, sym, ap, subst}
use Rattle.commit_log.specs.declared.commit.Commit.{Commit}
use Rattle.stored_versions.proofs.LogLaws.{none_left_out}
use Rattle.stored_versions.proofs.StepLaws.{commit_taken}
use Rattle.stored_versions.specs.Catalogues.{catalog_after, catalog_from}
use Rattle.stored_versions.specs.Databases.{bounds_from, catalog_at, opening_size, relation_from}
use Rattle.stored_versions.specs.Logs.{all_taken, taken_from, taken_writes}
use Rattle.stored_versions.specs.Openings.{Opening}
use Rattle.stored_versions.specs.StoredViews.{IsStoredView}
use Rattle.vra_syntax.specs.declared.write.Write.{Write}
use Rattle.vra_syntax.specs.declared.write.Write.TheVariants as write
use Rattle.vschema.specs.Variants.{opening_database}
use Rattle.vschema.specs.declared.catalog.Catalog.{Catalog}
use Rattle.vschema.specs.declared.catalog.Table.{Table}
use Rattle.vtable.specs.declared.table.VRow.{VRow}
use Rattle.write_meaning.specs.TableViews.{IsTableView}
use Rattle.write_meaning.specs.TakenWrites.{is_taken}

after_same : (catalog : Catalog) (w : Write) → catalog_after catalog w ≡ catalog
after_same catalog (write.Insert table names rows expr) = refl
after_same catalog (write.Delete table cond expr) = refl
after_same catalog (write.Update table items cond expr) = refl

from_same : (catalog : Catalog) (writes : List Write) → catalog_from catalog writes ≡ catalog
from_same catalog [] = refl
from_same catalog (w ∷ writes) = ap (λ it. catalog_from it writes) (after_same catalog w) ∙ from_same catalog writes

pub catalog_same : (opening : Opening) (commits : List Commit) (writes : List Write) → catalog_at opening commits writes ≡ opening.catalog
catalog_same opening commits writes = from_same opening.catalog (taken_writes opening commits ++ writes)

taken_by : (catalog : Catalog) (w : Write) (writes : List Write) (b : Bool) → is_taken catalog w ≡ b → all_taken (catalog_after catalog w) (taken_from (catalog_after catalog w) writes) ≡ true → all_taken catalog (taken_from catalog writes) ≡ true
    → all_taken catalog (if b then w ∷ taken_from (catalog_after catalog w) writes else taken_from catalog writes) ≡ true
taken_by catalog w writes true is one other = rw is one
taken_by catalog w writes false is one other = other

-- each write that counts does
pub taken_taken : (catalog : Catalog) (writes : List Write) → all_taken catalog (taken_from catalog writes) ≡ true
taken_taken catalog [] = refl
taken_taken catalog (w ∷ writes) = taken_by catalog w writes (is_taken catalog w) refl (taken_taken (catalog_after catalog w) writes) (taken_taken catalog writes)

by_taken : (opening : Opening) (one other : List Commit) (number : ℕ) (table : Table) (rows : List VRow) → taken_writes opening one ≡ taken_writes opening other → IsStoredView opening one [] number table rows → IsStoredView opening other [] number table rows
by_taken opening one other number table rows same view =
    subst (λ writes. IsTableView opening.catalog.model table rows (λ c. relation_from c number opening.catalog (writes ++ []) (opening_database c opening.catalog opening.rows number)) (bounds_from number opening.catalog (writes ++ []) (opening_size opening number))) same view

-- a commit of the writes that count says what the commit says
pub counted_view : (opening : Opening) (commits : List Commit) (counted commit : Commit) (number : ℕ) (table : Table) (rows : List VRow) → counted.writes ≡ taken_from opening.catalog commit.writes
    → IsStoredView opening (commits ++ counted ∷ []) [] number table rows → IsStoredView opening (commits ++ commit ∷ []) [] number table rows
counted_view opening commits counted commit number table rows is view =
    let catalog : catalog_at opening commits [] ≡ opening.catalog = catalog_same opening commits [] in
    let twice : taken_from opening.catalog counted.writes ≡ taken_from opening.catalog commit.writes =
    ap (taken_from opening.catalog) is ∙ none_left_out (taken_from opening.catalog commit.writes) opening.catalog (taken_taken opening.catalog commit.writes) ∙ refl in
    by_taken opening (commits ++ counted ∷ []) (commits ++ commit ∷ []) number table rows
    (commit_taken opening commits counted
    ∙ ap (λ it. taken_writes opening commits ++ taken_from it counted.writes) catalog
    ∙ ap (λ writes. taken_writes opening commits ++ writes) twice
    ∙ sym (commit_taken opening commits commit ∙ ap (λ it. taken_writes opening commits ++ taken_from it commit.writes) catalog))
    view
