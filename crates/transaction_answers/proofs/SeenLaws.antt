-- The rows that a live snapshot sees of each table are the tables of the catalogue without own writes.
use Rattle.std.proofs.Common.{◌≡◌, ◌∙◌, ℕ, suc, ◌+◌, List, [], ◌∷◌, take, Some, slice_get, refl, sym, ap, subst, arith, rules}
use Rattle.live_snapshots.specs.Snapshots.{IsLive, Seen}
use Rattle.plan_tables.specs.declared.rows.TableRows.{TableRows}
use Rattle.store_states.specs.Reads.{IsRowsAt, seen_tables}
use Rattle.store_states.specs.Stored.{Stored, log_of}
use Rattle.store_states.specs.Views.{IsStore, IsTidy}
use Rattle.stored_versions.specs.Openings.{Opening}
use Rattle.stored_versions.specs.StoredViews.{IsStoredView}
use Rattle.transaction_answers.specs.TablesAfter.{AreFrom, AreTablesAfter}
use Rattle.version_lists.specs.Versions.{rows_seen}
use Rattle.vra_syntax.specs.declared.write.Write.{Write}
use Rattle.vschema.specs.declared.catalog.Table.{Table}
use Rattle.write_meaning.specs.StoredTables.{stored_columns, stored_table}

some_is : {X : Type 0} (a b : X) → Some a ≡ Some b → a ≡ b
some_is a b h = search rules

module _ (view : (opening : Opening) (store : Stored) (snap : Seen) (number : ℕ) (table : Table) → IsTidy store → IsLive store.live snap → IsStore opening store → slice_get store.catalog.tables number ≡ Some table → IsStoredView opening (take snap.1 (log_of store)) [] number table (rows_seen snap.1 number store.rows.versions)) (store : Stored) (snap : Seen) (tidy : IsTidy store) (live : IsLive store.live snap) where
  one_seen : (number : ℕ) (table : Table) → slice_get store.catalog.tables number ≡ Some table → IsRowsAt store snap number [] (stored_table table (rows_seen snap.1 number store.rows.versions))
  one_seen number table there = record {
    columns = λ other found. ap stored_columns (some_is table other (sym there ∙ found));
    view = λ opening other is found. view opening store snap number other tidy live is found;
    plain = λ none. refl;
  }

  seen_from : (k : ℕ) (tables : List Table) → ((n : ℕ) → slice_get tables n ≡ slice_get store.catalog.tables (k + n)) → AreFrom store snap [] k tables (seen_tables snap.1 k tables store.rows.versions)
  seen_from k [] there = tt
  seen_from k (table ∷ tables) there =
      let at_first : k ≡ k + 0 = omega arith in
      let next : suc k ≡ k + 1 = omega arith in
      let further : (n : ℕ) → k + suc n ≡ suc k + n = λ n. omega arith in (
        refl,
        one_seen k table (ap (slice_get store.catalog.tables) at_first ∙ sym (there 0)),
        subst (λ n. AreFrom store snap [] (suc k) tables (seen_tables snap.1 n tables store.rows.versions)) next
            (seen_from (suc k) tables (λ n. there (suc n) ∙ ap (slice_get store.catalog.tables) (further n))),
      )

  pub seen_after : (writes : List Write) (rows : List TableRows) → writes ≡ [] → rows ≡ seen_tables snap.1 0 store.catalog.tables store.rows.versions → AreTablesAfter store snap writes rows
  seen_after writes rows none are =
      let same : (n : ℕ) → n ≡ 0 + n = λ n. omega arith in
      subst (λ ws. AreTablesAfter store snap ws rows) (sym none)
      (subst (λ held. AreTablesAfter store snap [] held) (sym are) (record { are = seen_from 0 store.catalog.tables (λ n. ap (slice_get store.catalog.tables) (same n)) }))
