-- The writes of a commit as own writes, and then as a commit more.
use Rattle.std.proofs.Common.{◌≡◌, ◌∙◌, ℕ, Bool, true, false, ◌&&◌, if◌then◌else◌, List, [], ◌∷◌, ◌++◌, map, refl, sym, ap, subst, append-nil}
use Rattle.commit_changes.proofs.PendingLaws.{busy, busy_after, busy_changes, busy_rises, idle_after, pending_changes, pending_rises}
use Rattle.commit_changes.specs.Carried.{CarriesCommit, CarriesEach}
use Rattle.commit_changes.specs.Stored.{AreOfTables, ArePending, no_change}
use Rattle.commit_log.specs.declared.commit.Commit.{Commit}
use Rattle.feature_expr.specs.declared.expr.Expr.{Expr}
use Rattle.own_writes.proofs.CarriedLaws.{carries_more, carries_none, here_is}
use Rattle.own_writes.specs.Carried.{Carries}
use Rattle.plan_tables.specs.declared.rows.TableRows.{TableRows}
use Rattle.stored_versions.proofs.StepLaws.{commit_taken}
use Rattle.stored_versions.specs.Catalogues.{catalog_after}
use Rattle.stored_versions.specs.Databases.{bounds_from, opening_size, relation_from}
use Rattle.stored_versions.specs.Logs.{all_taken, taken_from, taken_writes}
use Rattle.stored_versions.specs.Openings.{Opening}
use Rattle.stored_versions.specs.StoredViews.{IsStoredView}
use Rattle.table_changes.specs.Changes.{RiseFrom, after_changes}
use Rattle.table_changes.specs.declared.change.TableChange.{TableChange}
use Rattle.vra_syntax.specs.declared.write.Write.{Write}
use Rattle.vschema.specs.Variants.{opening_database}
use Rattle.vschema.specs.declared.catalog.Catalog.{Catalog}
use Rattle.vschema.specs.declared.catalog.Table.{Table}
use Rattle.vtable.specs.declared.table.VRow.{VRow}
use Rattle.write_meaning.specs.TableViews.{IsTableView}
use Rattle.write_meaning.specs.TakenWrites.{is_taken}

-- the writes that count all count

counting_by : (catalog : Catalog) (w : Write) (rest : List Write) (b : Bool) → is_taken catalog w ≡ b → all_taken (catalog_after catalog w) (taken_from (catalog_after catalog w) rest) ≡ true → all_taken catalog (taken_from catalog rest) ≡ true
    → all_taken catalog (if b then w ∷ taken_from (catalog_after catalog w) rest else taken_from catalog rest) ≡ true
counting_by catalog w rest true is more others = ap (λ (b : Bool). b && all_taken (catalog_after catalog w) (taken_from (catalog_after catalog w) rest)) is ∙ more
counting_by catalog w rest false is more others = others

pub counting_count : (writes : List Write) (catalog : Catalog) → all_taken catalog (taken_from catalog writes) ≡ true
counting_count [] catalog = refl
counting_count (w ∷ writes) catalog = counting_by catalog w writes (is_taken catalog w) refl (counting_count writes (catalog_after catalog w)) (counting_count writes catalog)

-- What counts after a commit is what counted before it, and those of its writes that count.
all_counts : (opening : Opening) (commits : List Commit) (commit : Commit) (writes : List Write) → taken_from opening.catalog commit.writes ≡ writes → taken_writes opening commits ++ writes ≡ taken_writes opening (commits ++ commit ∷ []) ++ []
all_counts opening commits commit writes counting =
    ap (λ (ws : List Write). taken_writes opening commits ++ ws)
    (sym counting ∙ ap (λ (catalog : Catalog). taken_from catalog commit.writes) (sym (here_is opening commits [])))
    ∙ sym (commit_taken opening commits commit)
    ∙ sym (append-nil (taken_writes opening (commits ++ commit ∷ [])))

-- rows that are a table after these writes of a log
abbrev ViewAfter : Opening → ℕ → Table → List VRow → List Write → Type 0
ViewAfter opening number table rows writes =
    IsTableView opening.catalog.model table rows (λ c. relation_from c number opening.catalog writes (opening_database c opening.catalog opening.rows number)) (bounds_from number opening.catalog writes (opening_size opening number))

-- So a table after a commit more is the table after those of its writes that count, as own writes.
pub view_committed : (opening : Opening) (commits : List Commit) (commit : Commit) (writes : List Write) (number : ℕ) (table : Table) (rows : List VRow) → taken_from opening.catalog commit.writes ≡ writes
    → IsStoredView opening commits writes number table rows → IsStoredView opening (commits ++ commit ∷ []) [] number table rows
view_committed opening commits commit writes number table rows counting view = subst (ViewAfter opening number table rows) (all_counts opening commits commit writes counting) view

-- One write after another.

pub each_idle : (model : Expr) (tables : List Table) (writes : List Write) (newest : List TableRows) (end : List TableChange) → CarriesEach model tables writes newest (map no_change newest) end → CarriesEach model tables writes newest [] end
each_idle model tables writes newest end it = record {
  each = λ number table rows found named.
      subst (λ (xs : List VRow). Carries model tables number table writes xs (after_changes number end rows.rows.rows)) (idle_after number newest rows.rows.rows) (it.each number table rows found named);
}

pub each_none : (model : Expr) (tables : List Table) (newest : List TableRows) (changes : List TableChange) → CarriesEach model tables [] newest changes changes
each_none model tables newest changes = record { each = λ number table rows found named. carries_none model tables number table (after_changes number changes rows.rows.rows) }

pub each_more : (model : Expr) (tables : List Table) (w : Write) (writes : List Write) (newest : List TableRows) (old mid new : List TableChange) → CarriesEach model tables (w ∷ []) newest old mid → CarriesEach model tables writes newest mid new → CarriesEach model tables (w ∷ writes) newest old new
each_more model tables w writes newest old mid new one rest = record {
  each = λ number table rows found named.
      carries_more model tables number table w writes (after_changes number old rows.rows.rows) (after_changes number mid rows.rows.rows) (after_changes number new rows.rows.rows)
      (one.each number table rows found named) (rest.each number table rows found named);
}

pub each_end : (model : Expr) (tables : List Table) (left all : List Write) (newest : List TableRows) (changes : List TableChange) → left ≡ []
    → ((end : List TableChange) → CarriesEach model tables left newest changes end → CarriesEach model tables all newest [] end) → CarriesEach model tables all newest [] changes
each_end model tables left all newest changes none on = on changes (subst (λ (ws : List Write). CarriesEach model tables ws newest changes changes) (sym none) (each_none model tables newest changes))

-- The whole commit.

module _ (newest : List TableRows) (pending : List TableChange) (are : ArePending 0 newest pending) where
  pub commit_rises : RiseFrom 0 (busy pending)
  commit_rises = busy_rises 0 pending (pending_rises 0 newest pending are)

  pub commit_places : AreOfTables newest (busy pending)
  commit_places = busy_changes newest pending (pending_changes [] newest pending are)

  pub commit_carried : (model : Expr) (tables : List Table) (writes : List Write) → CarriesEach model tables writes newest [] pending → CarriesCommit model tables writes newest (busy pending)
  commit_carried model tables writes it = record {
    view = λ opening commits commit m t counting number table rows found named view.
        let taken : all_taken opening.catalog writes ≡ true = ap (λ (ws : List Write). all_taken opening.catalog ws) (sym counting) ∙ counting_count commit.writes opening.catalog in
        subst (IsStoredView opening (commits ++ commit ∷ []) [] number table) (sym (busy_after number 0 pending rows.rows.rows (pending_rises 0 newest pending are)))
        (view_committed opening commits commit writes number table (after_changes number pending rows.rows.rows) counting
        ((it.each number table rows found named).view opening commits [] m t taken view));
  }
