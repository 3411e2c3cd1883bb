-- What is read of a store is what its versions say.
use Rattle.std.proofs.Common.{◌≡◌, ◌∙◌, ◌<◌, ◌≤◌, ℕ, zero, suc, ◌+◌, ◌==◌, Bool, true, false, ◌&&◌, List, [], ◌∷◌, ◌++◌, map, length, take, Option, Some, None, slice_get, Result, Ok, Err, refl, sym, ap, ap₂, subst, arith, rules, true≢false}
use Rattle.std.proofs.lemmas.Bool.{eqb-true}
use Rattle.std.specs.Result.{IfOk}
use Rattle.std.specs.List.{AllByRecursion, list_all}
use Rattle.live_snapshots.proofs.OldestLaws.{least_seen}
use Rattle.live_snapshots.specs.Snapshots.{IsLive, Seen, oldest, IsUpTo}
use Rattle.own_writes.specs.Carried.{Carries}
use Rattle.plan_tables.specs.declared.rows.TableRows.{TableRows}
use Rattle.row_versions.specs.Stored.{Stored as Versioned, newest_tables}
use Rattle.snapshot_store.specs.Parts.{AreRowsAt}
use Rattle.store_states.proofs.LiveLaws.{live_view}
use Rattle.store_states.specs.Reads.{IsRowsAt, seen_tables}
use Rattle.store_states.specs.Stored.{Stored, log_of, number_or, seen_from}
use Rattle.store_states.specs.Views.{IsStore, IsTidy, SeesAtMost}
use Rattle.stored_versions.proofs.NewestLaws.{newest_are_seen}
use Rattle.stored_versions.specs.Catalogues.{catalog_after}
use Rattle.stored_versions.specs.Logs.{all_taken}
use Rattle.stored_versions.specs.Openings.{Opening}
use Rattle.stored_versions.specs.StoredViews.{IsStoredView}
use Rattle.version_lists.specs.Versions.{IsPlaced, Version, newest_rows, rows_seen}
use Rattle.vra_syntax.specs.declared.write.Write.{Write}
use Rattle.vschema.specs.Formed.{has_distinct_columns}
use Rattle.vschema.specs.declared.catalog.Catalog.{Catalog}
use Rattle.vschema.specs.declared.catalog.Table.{Table}
use Rattle.vtable.specs.declared.table.VColumn.{VColumn}
use Rattle.vtable.specs.declared.table.VRow.{VRow}
use Rattle.vtable.specs.declared.table.VTable.{VTable}
use Rattle.write_meaning.specs.StoredTables.{stored_columns}
use Rattle.write_meaning.specs.TakenWrites.{is_taken}

-- ---- The newest rows are what the snapshot of all applied commits sees.

newest_from : (s number : ℕ) (tables : List Table) (versions : List Version) → AllByRecursion (IsPlaced s) versions → newest_tables number (map stored_columns tables) versions ≡ seen_tables s number tables versions
newest_from s number [] versions placed = refl
newest_from s number (table ∷ tables) versions placed =
    ap₂ (λ rows others. record { table = number; rows = record { columns = stored_columns table; rows = rows } } ∷ others) (sym (newest_are_seen s number versions placed)) (newest_from s (number + 1) tables versions placed)

pub newest_seen : (store : Stored) (s : ℕ) (tables : List TableRows) → IsTidy store → AllByRecursion (IsPlaced store.rows.applied) store.rows.versions → s ≡ store.rows.applied
    → tables ≡ newest_tables 0 store.rows.columns store.rows.versions → tables ≡ seen_tables s 0 store.catalog.tables store.rows.versions
newest_seen store s tables tidy placed at are =
    are ∙ ap (λ columns. newest_tables 0 columns store.rows.versions) tidy.columns
    ∙ newest_from store.rows.applied 0 store.catalog.tables store.rows.versions placed
    ∙ ap (λ n. seen_tables n 0 store.catalog.tables store.rows.versions) (sym at)

-- ---- Then come the own writes.

pub rows_seen_at : (store : Stored) (snap : Seen) (number : ℕ) (table : Table) (writes : List Write) (rows : List VRow) → IsTidy store → IsLive store.live snap → slice_get store.catalog.tables number ≡ Some table
    → writes ≡ [] → rows ≡ rows_seen snap.1 number store.rows.versions → AreRowsAt store snap number table writes rows
rows_seen_at store snap number table writes rows tidy live there none are = record {
  view = λ opening is.
      subst (λ ws. IsStoredView opening (take snap.1 (log_of store)) ws number table rows) (sym none)
      (subst (IsStoredView opening (take snap.1 (log_of store)) [] number table) (sym are) (live_view opening store snap number table tidy live is there));
  plain = λ h. are;
}

pub rows_written_at : (store : Stored) (snap : Seen) (number : ℕ) (table : Table) (writes : List Write) (seen rows : List VRow) → IsTidy store → IsLive store.live snap → slice_get store.catalog.tables number ≡ Some table
    → all_taken store.catalog writes ≡ true → (writes ≡ [] → ⊥) → seen ≡ rows_seen snap.1 number store.rows.versions → Carries store.catalog.model store.catalog.tables number table writes seen rows → AreRowsAt store snap number table writes rows
rows_written_at store snap number table writes seen rows tidy live there taken some are carries = record {
  view = λ opening is.
      carries.view opening (take snap.1 (log_of store)) [] (sym (ap (λ (c : Catalog). c.model) is.catalog)) (sym (ap (λ (c : Catalog). c.tables) is.catalog)) (subst (λ c. all_taken c writes ≡ true) is.catalog taken)
      (subst (IsStoredView opening (take snap.1 (log_of store)) [] number table) (sym are) (live_view opening store snap number table tidy live is there));
  plain = λ none. absurd (some none);
}

both_true : (a b : Bool) → (a && b) ≡ true → (a ≡ true) × (b ≡ true)
both_true true b is = (refl, is)
both_true false b is = absurd (true≢false (sym is))

both_of : (a b : Bool) → a ≡ true → b ≡ true → (a && b) ≡ true
both_of a b h k = rw (h, k) refl

-- the first of writes that count
pub first_taken : (count : ℕ) (catalog : Catalog) (writes : List Write) → all_taken catalog writes ≡ true → all_taken catalog (take count writes) ≡ true
first_taken zero catalog writes all = refl
first_taken (suc count) catalog [] all = refl
first_taken (suc count) catalog (w ∷ writes) all =
    let parts = both_true (is_taken catalog w) (all_taken (catalog_after catalog w) writes) all in
    both_of (is_taken catalog w) (all_taken (catalog_after catalog w) (take count writes)) parts.0 (first_taken count (catalog_after catalog w) writes parts.1)

some_is : {X : Type 0} (a b : X) → Some a ≡ Some b → a ≡ b
some_is a b h = search rules

pub rows_read : (store : Stored) (snap : Seen) (number : ℕ) (table : Table) (writes : List Write) (columns : List VColumn) (rows : List VRow) → slice_get store.catalog.tables number ≡ Some table
    → columns ≡ stored_columns table → AreRowsAt store snap number table writes rows → IsRowsAt store snap number writes (record { columns = columns; rows = rows })
rows_read store snap number table writes columns rows there are at = record {
  columns = λ other found. are ∙ ap stored_columns (some_is table other (sym there ∙ found));
  view = λ opening other is found. subst (λ t. IsStoredView opening (take snap.1 (log_of store)) writes number t rows) (some_is table other (sym there ∙ found)) (at.view opening is);
  plain = at.plain;
}

-- a table of a catalogue of which each has distinct columns
pub distinct_at : (tables : List Table) (number : ℕ) (table : Table) → list_all has_distinct_columns tables ≡ true → slice_get tables number ≡ Some table → has_distinct_columns table ≡ true
distinct_at [] number table all there = search rules
distinct_at (one ∷ tables) zero table all there = subst (λ t. has_distinct_columns t ≡ true) (some_is one table there) (both_true (has_distinct_columns one) (list_all has_distinct_columns tables) all).0
distinct_at (one ∷ tables) (suc number) table all there = distinct_at tables number table (both_true (has_distinct_columns one) (list_all has_distinct_columns tables) all).1 there

pub is_none : {X : Type 0} (xs : List X) → (length xs == 0) ≡ true → xs ≡ []
is_none [] h = refl
is_none (x ∷ xs) h = let n = eqb-true (length (x ∷ xs)) 0 h in absurd (omega (arith, n))

pub is_some : {X : Type 0} (xs : List X) → (length xs == 0) ≡ false → xs ≡ [] → ⊥
is_some xs h none = true≢false (sym (ap (λ ys. length ys == 0) none) ∙ h)

pub map_ok : {X E : Type 0} {P Q : X → Type 0} (result : Result X E) → ((x : X) → P x → Q x) → IfOk result P → IfOk result Q
map_ok (Ok x) f h = f x h
map_ok (Err e) f h = tt
