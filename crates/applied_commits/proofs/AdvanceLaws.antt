-- A commit that was put into the versions is applied.
use Rattle.std.proofs.Common.{◌≡◌, ◌∙◌, ◌≤◌, ℕ, zero, suc, ◌+◌, true, List, [], ◌∷◌, ◌++◌, map, length, take, Option, Some, None, slice_get, refl, sym, ap, subst, subst₂, arith, rules}
use Rattle.applied_commits.proofs.NewestLaws.{newest_found}
use Rattle.applied_commits.specs.Carrying.{CarriesWrites, ChangesAt}
use Rattle.commit_changes.specs.Carried.{CarriesCommit}
use Rattle.commit_log.specs.Kept.{Appends, Kept}
use Rattle.commit_log.specs.declared.append.Append.{Append}
use Rattle.commit_log.specs.declared.append.Append.TheVariants as append
use Rattle.commit_log.specs.declared.commit.Commit.{Commit}
use Rattle.feature_expr.specs.declared.expr.Expr.{Expr}
use Rattle.plan_tables.specs.declared.rows.TableRows.{TableRows}
use Rattle.row_versions.specs.Changing.{IsChanged}
use Rattle.row_versions.specs.Holdings.{IsKept}
use Rattle.row_versions.specs.Stored.{Stored, newest_tables}
use Rattle.store_states.specs.Steps.{AppendsTo, IsAdvanced, IsCarried}
use Rattle.stored_versions.proofs.LogLaws.{none_left_out}
use Rattle.stored_versions.specs.Logs.{all_taken, taken_from}
use Rattle.stored_versions.specs.StoredViews.{IsStoredView}
use Rattle.table_changes.specs.Changes.{after_changes}
use Rattle.table_changes.specs.declared.change.TableChange.{TableChange}
use Rattle.version_lists.specs.Versions.{newest_rows}
use Rattle.vra_syntax.specs.declared.write.Write.{Write}
use Rattle.vschema.specs.declared.catalog.Catalog.{Catalog}
use Rattle.vschema.specs.declared.catalog.Table.{Table}
use Rattle.write_meaning.specs.StoredTables.{stored_columns}

-- the changes carry what the log says
pub writes_carried : (model : Expr) (catalog : Catalog) (old : Stored) (newest : List TableRows) (writes : List Write) (changes : List TableChange) → model ≡ catalog.model → old.columns ≡ map stored_columns catalog.tables
    → newest ≡ newest_tables 0 old.columns old.versions → CarriesCommit model catalog.tables writes newest changes → CarriesWrites catalog old writes changes
writes_carried model catalog old newest writes changes same columns is carries = record {
  view = λ opening commits commit number table at writes_are there view.
      let tables : opening.catalog.tables ≡ catalog.tables = sym (ap (λ (c : Catalog). c.tables) at) in
      let here : slice_get catalog.tables number ≡ Some table = sym (ap (λ tables. slice_get tables number) tables) ∙ there in
      carries.view opening commits commit (sym (ap (λ (c : Catalog). c.model) at) ∙ sym same) tables (subst (λ c. taken_from c commit.writes ≡ writes) at writes_are) number table
      (record { table = number; rows = record { columns = stored_columns table; rows = newest_rows number old.versions } }) here
      (newest_found number catalog.tables table old.columns old.versions newest columns is here) view;
}

some_is : {X : Type 0} (a b : X) → Some a ≡ Some b → a ≡ b
some_is a b h = search rules

one_more : {X : Type 0} (log : List X) (n : ℕ) (x : X) → slice_get log n ≡ Some x → take (n + 1) log ≡ take n log ++ x ∷ []
one_more [] n x there = search rules
one_more (y ∷ log) zero x there = ap (λ z. z ∷ []) (some_is y x there)
one_more (y ∷ log) (suc n) x there =
    let next : suc n + 1 ≡ suc (n + 1) = omega arith in
    ap (λ k. take k (y ∷ log)) next ∙ ap (λ zs. y ∷ zs) (one_more log n x there)

at_end : {X : Type 0} (log : List X) (x : X) → slice_get (log ++ x ∷ []) (length log) ≡ Some x
at_end [] x = refl
at_end (y ∷ log) x = at_end log x

module _ (catalog : Catalog) (old new : Stored) (changes : List TableChange) (changed : IsChanged changes old new) (kept : IsKept new) where
  advanced_if : (log : List Commit) → IsCarried log catalog old new → IsAdvanced log catalog old new
  advanced_if log carried = record {
    columns = ap (λ (s : Stored). s.columns) changed.is;
    applied = ap (λ (s : Stored). s.applied) changed.is;
    placed = kept.placed;
    seen = changed.seen;
    carried = carried;
  }

  own_carried : (log : List Commit) (commit : Commit) → slice_get log old.applied ≡ Some commit → all_taken catalog commit.writes ≡ true → CarriesWrites catalog old commit.writes changes → IsCarried log catalog old new
  own_carried log commit there taken carries = record {
    view = λ opening number table at here view.
        subst₂ (λ commits rows. IsStoredView opening commits [] number table rows) (sym (one_more log old.applied commit there)) (sym (changed.newest number))
        (carries.view opening (take old.applied log) commit number table at (none_left_out commit.writes catalog taken) here view);
  }

  counted_carried : (log : List Commit) (commit : Commit) (writes : List Write) → slice_get log old.applied ≡ Some commit → writes ≡ taken_from catalog commit.writes → CarriesWrites catalog old writes changes → IsCarried log catalog old new
  counted_carried log commit writes there are carries = record {
    view = λ opening number table at here view.
        subst₂ (λ commits rows. IsStoredView opening commits [] number table rows) (sym (one_more log old.applied commit there)) (sym (changed.newest number))
        (carries.view opening (take old.applied log) commit number table at (sym are) here view);
  }

-- a commit of others
pub applied : (log : List Commit) (catalog : Catalog) (old new : Stored) (changes : List TableChange) (commit : Commit) (writes : List Write) → IsChanged changes old new → IsKept new → slice_get log old.applied ≡ Some commit
    → writes ≡ taken_from catalog commit.writes → CarriesWrites catalog old writes changes → IsAdvanced log catalog old new
applied log catalog old new changes commit writes changed kept there are carries =
    advanced_if catalog old new changes changed kept log (counted_carried catalog old new changes changed kept log commit writes there are carries)

-- one's own commit, where it was added
pub appended : (before after : Kept) (catalog : Catalog) (old new : Stored) (changes : List TableChange) (commit : Commit) (answer : Append) → ChangesAt changes old answer new → IsKept new → Appends before commit answer after
    → old.applied ≡ length before.seen → all_taken catalog commit.writes ≡ true → CarriesWrites catalog old commit.writes changes → AppendsTo after.seen catalog old answer new
appended before after catalog old new changes commit (append.At k) changed kept added at taken carries =
    let there : slice_get after.seen old.applied ≡ Some commit = ap (slice_get after.seen) at ∙ ap (λ log. slice_get log (length before.seen)) added.1 ∙ at_end before.seen commit in
    advanced_if catalog old new changes changed kept after.seen (own_carried catalog old new changes changed kept after.seen commit there taken carries)
appended before after catalog old new changes commit (append.Behind k back) changed kept added at taken carries = changed
appended before after catalog old new changes commit (append.Failed back) changed kept added at taken carries = changed
appended before after catalog old new changes commit (append.Full n back) changed kept added at taken carries = changed
appended before after catalog old new changes commit (append.Memory back) changed kept added at taken carries = changed
