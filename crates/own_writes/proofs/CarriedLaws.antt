-- Writes on rows that are a table in every variant, one after another.
use Rattle.std.proofs.Common.{◌≡◌, ℕ, Bool, true, false, ◌&&◌, List, [], ◌∷◌, ◌++◌, Some, slice_get, refl, sym, ◌∙◌, ap, subst, rules, append-nil, append_assoc}
use Rattle.feature_expr.specs.declared.expr.Expr.{Expr}
use Rattle.own_writes.specs.Carried.{Carries}
use Rattle.query_meaning.specs.Sources.{number_of}
use Rattle.query_meaning.specs.WriteTyping.{table_name_of}
use Rattle.stored_versions.proofs.StepLaws.{view_left, view_written}
use Rattle.stored_versions.specs.Catalogues.{catalog_after, catalog_from}
use Rattle.stored_versions.specs.Databases.{catalog_at, is_number, writes_to}
use Rattle.stored_versions.specs.Logs.{all_taken, taken_writes}
use Rattle.stored_versions.specs.Openings.{Opening}
use Rattle.stored_versions.specs.StoredViews.{IsStoredView}
use Rattle.commit_log.specs.declared.commit.Commit.{Commit}
use Rattle.vra_syntax.specs.declared.write.Write.{Write}
use Rattle.vra_syntax.specs.declared.write.Write.TheVariants as write
use Rattle.vschema.specs.declared.catalog.Catalog.{Catalog}
use Rattle.vschema.specs.declared.catalog.Table.{Table}
use Rattle.vtable.specs.declared.table.VRow.{VRow}
use Rattle.write_meaning.specs.RowWrites.{IsRowWrite}
use Rattle.write_meaning.specs.TakenWrites.{is_taken}

-- no write changes the catalogue yet

after_stays : (catalog : Catalog) (w : Write) → catalog_after catalog w ≡ catalog
after_stays catalog (write.Insert table names rows expr) = refl
after_stays catalog (write.Delete table cond expr) = refl
after_stays catalog (write.Update table items cond expr) = refl

from_stays : (writes : List Write) (catalog : Catalog) → catalog_from catalog writes ≡ catalog
from_stays [] catalog = refl
from_stays (w ∷ writes) catalog = from_stays writes (catalog_after catalog w) ∙ after_stays catalog w

pub here_is : (opening : Opening) (commits : List Commit) (before : List Write) → catalog_at opening commits before ≡ opening.catalog
here_is opening commits before = from_stays (taken_writes opening commits ++ before) opening.catalog

first_taken : (a b : Bool) → (a && b) ≡ true → a ≡ true
first_taken true b h = refl
first_taken false b h = h

rest_taken : (a b : Bool) → (a && b) ≡ true → b ≡ true
rest_taken true b h = h
rest_taken false b h = search rules

alone : (a b : Bool) → (a && b) ≡ true → (a && true) ≡ true
alone true b h = refl
alone false b h = h

-- a write of another table
pub carries_left : (model : Expr) (tables : List Table) (number : ℕ) (table : Table) (w : Write) (rows : List VRow) → is_number number (number_of tables (table_name_of w)) ≡ false → Carries model tables number table (w ∷ []) rows rows
carries_left model tables number table w rows other = record {
  view = λ opening commits before m t taken view.
      let named : writes_to (catalog_at opening commits before) number w ≡ false =
      ap (λ (catalog : Catalog). writes_to catalog number w) (here_is opening commits before)
      ∙ ap (λ (ts : List Table). is_number number (number_of ts (table_name_of w))) t ∙ other in
      view_left opening commits before w number table rows named view;
}

-- a write of this one
pub carries_written : (model : Expr) (tables : List Table) (number : ℕ) (table : Table) (w : Write) (old new : List VRow) → slice_get tables number ≡ Some table → is_number number (number_of tables (table_name_of w)) ≡ true → IsRowWrite model table w old new → Carries model tables number table (w ∷ []) old new
carries_written model tables number table w old new found this made = record {
  view = λ opening commits before m t taken view.
      let here = here_is opening commits before in
      let named : writes_to (catalog_at opening commits before) number w ≡ true =
      ap (λ (catalog : Catalog). writes_to catalog number w) here
      ∙ ap (λ (ts : List Table). is_number number (number_of ts (table_name_of w))) t ∙ this in
      let there : slice_get (catalog_at opening commits before).tables number ≡ Some table =
      ap (λ (catalog : Catalog). slice_get catalog.tables number) here ∙ ap (λ (ts : List Table). slice_get ts number) t ∙ found in
      let counts : is_taken (catalog_at opening commits before) w ≡ true =
      ap (λ (catalog : Catalog). is_taken catalog w) here ∙ first_taken (is_taken opening.catalog w) true taken in
      let same : (catalog_at opening commits before).model ≡ model = ap (λ (catalog : Catalog). catalog.model) here ∙ m in
      view_written opening commits before w number table old new counts there named (subst (λ k. IsRowWrite k table w old new) (sym same) made) view;
}

-- no write
pub carries_none : (model : Expr) (tables : List Table) (number : ℕ) (table : Table) (rows : List VRow) → Carries model tables number table [] rows rows
carries_none model tables number table rows = record {
  view = λ opening commits before m t taken view. subst (λ writes. IsStoredView opening commits writes number table rows) (sym (append-nil before)) view;
}

-- no write is left
pub carries_end : (model : Expr) (tables : List Table) (number : ℕ) (table : Table) (left all : List Write) (old new : List VRow) → left ≡ [] → ((end : List VRow) → Carries model tables number table left new end → Carries model tables number table all old end) → Carries model tables number table all old new
carries_end model tables number table left all old new none on =
    on new (subst (λ writes. Carries model tables number table writes new new) (sym none) (carries_none model tables number table new))

-- one write, and others behind it
pub carries_more : (model : Expr) (tables : List Table) (number : ℕ) (table : Table) (w : Write) (writes : List Write) (old mid new : List VRow) → Carries model tables number table (w ∷ []) old mid → Carries model tables number table writes mid new → Carries model tables number table (w ∷ writes) old new
carries_more model tables number table w writes old mid new one rest = record {
  view = λ opening commits before m t taken view.
      let first = one.view opening commits before m t (alone (is_taken opening.catalog w) (all_taken (catalog_after opening.catalog w) writes) taken) view in
      let left : all_taken opening.catalog writes ≡ true =
      ap (λ (catalog : Catalog). all_taken catalog writes) (sym (after_stays opening.catalog w))
      ∙ rest_taken (is_taken opening.catalog w) (all_taken (catalog_after opening.catalog w) writes) taken in
      subst (λ all. IsStoredView opening commits all number table new) (append_assoc before (w ∷ []) writes) (rest.view opening commits (before ++ w ∷ []) m t left first);
}
