-- A store of the opening rows says what the log says before any commit.
use Rattle.std.proofs.Common.{◌≡◌, ◌∙◌, ◌≤◌, ℕ, ◌+◌, Bool, true, false, ◌&&◌, List, [], ◌∷◌, ◌++◌, All, map, length, take, Option, Some, None, slice_get, refl, sym, ap, subst, arith, rules, true≢false}
use Rattle.std.specs.List.{AllByRecursion, list_all}
use Rattle.applied_commits.proofs.NewestLaws.{newest_found}
use Rattle.commit_log.specs.Kept.{Kept}
use Rattle.condition_sat.specs.Admitted.{IsAdmitted}
use Rattle.feature_expr.specs.declared.expr.Expr.{Expr}
use Rattle.opened_tables.proofs.OpenedLaws.{opened_columns, opened_counted, opened_found, opened_view}
use Rattle.opened_tables.specs.Opened.{opened_tables}
use Rattle.plan_tables.specs.declared.rows.TableRows.{TableRows}
use Rattle.row_versions.proofs.HoldingLaws.{newest_are}
use Rattle.row_versions.proofs.OpeningLaws.{opened_as, opened_holding}
use Rattle.row_versions.specs.Holdings.{IsKept}
use Rattle.row_versions.specs.Openings.{AreCounted, first_marks}
use Rattle.row_versions.specs.Stored.{Stored as Versioned, columns_of, first_versions, newest_tables, opened, row_count}
use Rattle.live_snapshots.specs.Snapshots.{Seen}
use Rattle.snapshot_store.specs.Opening.{IsFresh}
use Rattle.store_states.specs.Stored.{Stored, stored}
use Rattle.store_states.specs.Views.{IsStanding, IsStore, IsTidy}
use Rattle.stored_versions.proofs.NewestLaws.{newest_are_seen}
use Rattle.stored_versions.specs.Openings.{Opening, opening_rows}
use Rattle.stored_versions.specs.StoredViews.{IsStoredView}
use Rattle.version_lists.specs.Versions.{IsPlaced, Version, begun_versions, may_stay, newest_rows, rows_seen}
use Rattle.vra_types.specs.Check.{Passes}
use Rattle.vschema.specs.Formed.{IsFormed}
use Rattle.vschema.specs.declared.catalog.Catalog.{Catalog}
use Rattle.vschema.specs.declared.catalog.OpeningRow.{OpeningRow}
use Rattle.vschema.specs.declared.catalog.Table.{Table}
use Rattle.vtable.specs.declared.table.VRow.{VRow}
use Rattle.write_meaning.specs.RowWrites.{holding}
use Rattle.write_meaning.specs.StoredTables.{stored_columns}

-- ---- no version has ended

begun_clean : (number table : ℕ) (rows : List VRow) → list_all (may_stay None) (begun_versions number 0 table rows) ≡ true
begun_clean number table [] = refl
begun_clean number table (row ∷ rows) = begun_clean (number + 1) table rows

both_by : (b one both : Bool) → (one ≡ true → both ≡ true) → (b && one) ≡ true → (b && both) ≡ true
both_by true one both on h = on h
both_by false one both on h = absurd (true≢false (sym h))

all_both : {X : Type 0} (p : X → Bool) (xs ys : List X) → list_all p xs ≡ true → list_all p ys ≡ true → list_all p (xs ++ ys) ≡ true
all_both p [] ys h k = k
all_both p (x ∷ xs) ys h k = both_by (p x) (list_all p xs) (list_all p (xs ++ ys)) (λ all. all_both p xs ys all k) h

first_clean : (number : ℕ) (tables : List TableRows) → list_all (may_stay None) (first_versions number tables) ≡ true
first_clean number [] = refl
first_clean number (table ∷ tables) =
    all_both (may_stay None) (begun_versions number 0 table.table table.rows.rows) (first_versions (number + length table.rows.rows) tables) (begun_clean number table.table table.rows.rows) (first_clean (number + length table.rows.rows) tables)

-- ---- without rows the catalogue is formed and passes its check still

none_all : {X : Type 0} (P : X → Type 0) → All P []
none_all P k d within = absurd (omega (arith, within))

formed_bare : (catalog : Catalog) (rows : List OpeningRow) → IsFormed catalog rows → IsFormed catalog []
formed_bare catalog rows formed = record {
  countable = formed.countable;
  named = formed.named;
  model_known = formed.model_known;
  tables_known = formed.tables_known;
  rows_known = none_all _;
  distinct_tables = formed.distinct_tables;
  distinct_columns = formed.distinct_columns;
  fitting = none_all _;
}

passes_bare : (catalog : Catalog) (rows : List OpeningRow) → Passes catalog rows → Passes catalog []
passes_bare catalog rows passes = record { variant = passes.variant; no_gaps = record { columns = passes.no_gaps.columns; values = λ c admitted. refl } }

some_is : {X : Type 0} (a b : X) → Some a ≡ Some b → a ≡ b
some_is a b h = search rules

module _ (opening : Opening) (formed : IsFormed opening.catalog opening.rows) (passes : Passes opening.catalog opening.rows) where
  abbrev first : List TableRows
  first = opened_tables opening.catalog.model opening.catalog.tables opening.rows

  counted : AreCounted 0 first
  counted = opened_counted opening.catalog.model opening.catalog.tables opening.rows

  columns : (opened first).columns ≡ map stored_columns opening.catalog.tables
  columns = opened_columns opening.catalog.model opening.catalog.tables opening.rows

  placed : AllByRecursion (IsPlaced 0) (opened first).versions
  placed = (subst IsKept (opened_as first) (opened_holding first counted).kept).placed

  newest : first ≡ newest_tables 0 (opened first).columns (opened first).versions
  newest = newest_are [] (first_marks 0 first) first (row_count first) 0 (opened_holding first counted) ∙ ap (λ (s : Versioned). newest_tables 0 (columns_of first) s.versions) (opened_as first)

  newest_held : (number : ℕ) (table : Table) → slice_get opening.catalog.tables number ≡ Some table → newest_rows number (opened first).versions ≡ holding opening.catalog.model table (opening_rows number opening.rows)
  newest_held number table there =
      ap (λ (it : TableRows). it.rows.rows)
      (some_is _ _ (sym (newest_found number opening.catalog.tables table (opened first).columns (opened first).versions first columns newest there) ∙ opened_found opening.catalog.model number opening.catalog.tables table opening.rows there))

  pub fresh_store : (kept : Kept) (loop_no next : ℕ) → IsStore opening (stored kept loop_no next [] opening.catalog (opened first))
  fresh_store kept loop_no next = record {
    catalog = refl;
    views = λ s from to number table there.
        let at : 0 ≡ s = omega (arith, to) in
        subst (λ n. IsStoredView opening (take n kept.seen) [] number table (rows_seen n number (opened first).versions)) at
        (subst (IsStoredView opening [] [] number table) (sym (newest_are_seen 0 number (opened first).versions placed ∙ newest_held number table there))
        (opened_view opening formed passes.no_gaps.values number table there));
  }

  pub fresh_tidy : (kept : Kept) (loop_no : ℕ) → IsTidy (stored kept loop_no (length kept.seen) [] opening.catalog (opened first))
  fresh_tidy kept loop_no = record {
    formed = formed_bare opening.catalog opening.rows formed;
    passes = passes_bare opening.catalog opening.rows passes;
    columns = columns;
    applied = omega arith;
    own = omega arith;
    live = tt;
    clean = first_clean 0 first;
  }

  -- what was made of them, as the code has its parts
  module _ (kept : Kept) (loop_no next : ℕ) (model : Expr) (live : List Seen) (versions : Versioned) (rows : List OpeningRow) (model_is : model ≡ opening.catalog.model) (live_is : live ≡ []) (next_is : next ≡ length kept.seen) (rows_are : rows ≡ opening.rows)
      (versions_are : versions ≡ opened (opened_tables model opening.catalog.tables rows)) where
    versions_is : versions ≡ opened first
    versions_is = versions_are ∙ ap (λ m. opened (opened_tables m opening.catalog.tables rows)) model_is ∙ ap (λ r. opened (opened_tables opening.catalog.model opening.catalog.tables r)) rows_are

    state_is : stored kept loop_no next live opening.catalog versions ≡ stored kept loop_no (length kept.seen) [] opening.catalog (opened first)
    state_is =
        ap (λ n. stored kept loop_no n live opening.catalog versions) next_is
        ∙ ap (λ l. stored kept loop_no (length kept.seen) l opening.catalog versions) live_is
        ∙ ap (stored kept loop_no (length kept.seen) [] opening.catalog) versions_is

    pub fresh_is : IsFresh opening kept loop_no (stored kept loop_no next live opening.catalog versions)
    fresh_is = record { is = state_is; is_store = subst (IsStore opening) (sym state_is) (fresh_store kept loop_no (length kept.seen)) }

    pub fresh_stands : IsStanding model (stored kept loop_no next live opening.catalog versions)
    fresh_stands = record {
      model_is = model_is;
      tidy = subst IsTidy (sym state_is) (fresh_tidy kept loop_no);
      opened = record { opening = opening; is_store = subst (IsStore opening) (sym state_is) (fresh_store kept loop_no (length kept.seen)) };
    }
