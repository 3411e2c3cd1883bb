-- A store that was just opened.
use Rattle.std.proofs.Common.{◌≡◌, ◌∙◌, ◌≤◌, ℕ, List, [], map, length, take, Option, Some, slice_get, refl, sym, ap, subst, subst₂, arith}
use Rattle.commit_log.specs.Kept.{Kept, Lasts, Refreshes}
use Rattle.commit_log.specs.declared.refresh.Refresh.{Refresh}
use Rattle.commit_log.specs.declared.refresh.Refresh.TheVariants as refresh
use Rattle.opened_tables.proofs.OpenedLaws.{opened_columns, opened_counted, opened_found, opened_view}
use Rattle.opened_tables.specs.Opened.{opened_tables}
use Rattle.plan_tables.specs.declared.rows.TableRows.{TableRows}
use Rattle.row_versions.proofs.HoldingLaws.{newest_are}
use Rattle.row_versions.proofs.OpeningLaws.{opened_as, opened_holding}
use Rattle.row_versions.specs.Holdings.{IsKept}
use Rattle.row_versions.specs.Openings.{first_marks}
use Rattle.row_versions.specs.Stored.{Stored as Versioned, newest_tables, opened, row_count}
use Rattle.snapshot_store.specs.Opening.{IsFresh, LeavesKeeper}
use Rattle.snapshot_store.specs.Parts.{Applies}
use Rattle.store_events.specs.Ties.{Moment}
use Rattle.store_states.proofs.StepLaws.{lasts_on}
use Rattle.store_states.specs.Promises.{Leaves, Opens}
use Rattle.store_states.specs.Stored.{Stored, log_of, stored}
use Rattle.store_states.specs.Views.{IsStanding, IsStore, IsTidy}
use Rattle.stored_versions.proofs.NewestLaws.{newest_are_seen}
use Rattle.stored_versions.specs.Openings.{Opening, opening_rows}
use Rattle.stored_versions.specs.StoredViews.{IsStoredView}
use Rattle.version_lists.specs.Versions.{newest_rows, rows_seen}
use Rattle.vschema.specs.declared.catalog.Catalog.{Catalog}
use Rattle.vschema.specs.declared.catalog.Table.{Table}
use Rattle.write_meaning.specs.RowWrites.{holding}

own_same : (old new : Kept) (answer : Refresh) → Refreshes old answer new → new.own ≡ old.own
own_same old new (refresh.Seen n) it = it.1
own_same old new refresh.Failed it = it.1.own
own_same old new refresh.Memory it = it.own

pub keeper_left : (old new : Kept) (answer : Refresh) → Refreshes old answer new → Lasts old new → LeavesKeeper old new
keeper_left old new answer it lasts = record { lasts = lasts; own = own_same old new answer it }

-- what was seen is applied to a fresh store
pub opens : (opening : Opening) (before kept : Kept) (loop_no : ℕ) (answer : Refresh) (fresh new : Stored) → Refreshes before answer kept → Lasts before kept → IsFresh opening kept loop_no fresh → Applies fresh new
    → new.rows.applied ≡ length (log_of new) → Opens opening before loop_no new
opens opening before kept loop_no answer fresh new refreshed lasts it more all =
    let moment : new.moment ≡ record { kept = kept; loop_no = loop_no; next = length kept.seen } = more.moment ∙ ap (λ (s : Stored). s.moment) it.is in
    let same : new.moment.kept ≡ kept = ap (λ (m : Moment). m.kept) moment in
    record {
      lasts = subst (Lasts before) (sym same) lasts;
      own = ap (λ (k : Kept). k.own) same ∙ own_same before kept answer refreshed;
      live = more.live ∙ ap (λ (s : Stored). s.live) it.is;
      loop_is = ap (λ (m : Moment). m.loop_no) moment;
      next = ap (λ (m : Moment). m.next) moment ∙ sym (ap (λ (k : Kept). length k.seen) same);
      applied = all;
      catalog = more.leaves.catalog ∙ ap (λ (s : Stored). s.catalog) it.is;
      is_store = more.leaves.still opening it.is_store;
    }

-- what becomes of the keeper where applying is refused
pub opening_left : (opening : Opening) (before kept after : Kept) (loop_no : ℕ) (answer : Refresh) (fresh new : Stored) → Refreshes before answer kept → Lasts before kept → IsFresh opening kept loop_no fresh → Applies fresh new
    → after ≡ new.moment.kept → LeavesKeeper before after
opening_left opening before kept after loop_no answer fresh new refreshed lasts it more is =
    let same : after ≡ kept = is ∙ ap (λ (m : Moment). m.kept) (more.moment ∙ ap (λ (s : Stored). s.moment) it.is) in
    record { lasts = subst (Lasts before) (sym same) lasts; own = ap (λ (k : Kept). k.own) same ∙ own_same before kept answer refreshed }
