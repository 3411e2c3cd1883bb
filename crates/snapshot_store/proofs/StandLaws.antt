-- A store stands after each step of a call.
use Rattle.std.proofs.Common.{◌≡◌, ◌∙◌, ◌<◌, ◌≤◌, ◌+◌, ℕ, List, [], ◌∷◌, ◌++◌, Option, Some, length, slice_get, Result, Ok, Err, IfOk, IfErr, refl, sym, ap, subst, arith}
use Rattle.commit_log.specs.Kept.{Kept, Lasts}
use Rattle.feature_expr.specs.declared.expr.Expr.{Expr}
use Rattle.live_snapshots.specs.Snapshots.{NoMark, Seen, oldest, without}
use Rattle.row_versions.specs.Holdings.{IsKept}
use Rattle.row_versions.specs.Stored.{Stored as Versioned}
use Rattle.snapshot_store.specs.Parts.{Applies, IsMarked}
use Rattle.store_states.proofs.StepLaws.{IsStep, advanced, begun, leaves_itself, leaves_on, looked, released}
use Rattle.store_states.specs.Promises.{Leaves}
use Rattle.store_states.specs.Steps.{IsAdvanced, IsCleaned}
use Rattle.store_states.specs.Stored.{Stored, stored}
use Rattle.store_states.specs.Views.{IsStanding, IsTidy}
use Rattle.version_lists.specs.Versions.{Version, cleaned}
use Rattle.vschema.specs.declared.catalog.Catalog.{Catalog}

pub stands : (model : Expr) (old new : Stored) → IsStanding model old → IsStep old new → IsStanding model new
stands model old new it step = record {
  model_is = it.model_is ∙ sym (ap (λ (c : Catalog). c.model) step.leaves.catalog);
  tidy = step.tidy;
  opened = record { opening = it.opened.opening; is_store = step.leaves.still it.opened.opening it.opened.is_store };
}

-- ---- a snapshot was released

pub released_by : (kept : Kept) (loop_no next : ℕ) (live now : List Seen) (snap : Seen) (catalog : Catalog) (rows new : Versioned) (o : Option ℕ) → now ≡ without snap live → o ≡ oldest now → IsKept rows
    → new.columns ≡ rows.columns → new.applied ≡ rows.applied → new.versions ≡ cleaned o rows.versions → IsTidy (stored kept loop_no next live catalog rows)
    → IsStep (stored kept loop_no next live catalog rows) (stored kept loop_no next now catalog new)
released_by kept loop_no next live now snap catalog rows new o is old placed columns applied versions tidy =
    let least : o ≡ oldest (without snap live) = old ∙ ap oldest is in
    subst (λ live'. IsStep (stored kept loop_no next live catalog rows) (stored kept loop_no next live' catalog new)) (sym is)
    (released kept loop_no next live snap catalog rows new placed.placed (record { columns = columns; applied = applied; versions = versions ∙ ap (λ o. cleaned o rows.versions) least }) tidy)

-- ---- a snapshot began, or didn't

module _ {E : Type 0} (kept : Kept) (loop_no next number : ℕ) (live : List Seen) (catalog : Catalog) (rows : Versioned) (at : number ≡ rows.applied) (tidy : IsTidy (stored kept loop_no next live catalog rows)) where
  pub marked_step : (result : Result Seen E) (new : List Seen) → IfOk result (λ snap. snap.1 ≡ number) → IfOk result (λ snap. new ≡ live ++ snap ∷ []) → IfErr result (λ why. new ≡ live)
      → IsStep (stored kept loop_no next live catalog rows) (stored kept loop_no next new catalog rows)
  marked_step (Ok snap) new is more left =
      subst (λ live'. IsStep (stored kept loop_no next live catalog rows) (stored kept loop_no next live' catalog rows)) (sym more) (begun kept loop_no next live snap catalog rows (is ∙ at) tidy)
  marked_step (Err why) new is more left =
      subst (λ live'. IsStep (stored kept loop_no next live catalog rows) (stored kept loop_no next live' catalog rows)) (sym left) (record { tidy = tidy; leaves = leaves_itself (stored kept loop_no next live catalog rows) })

  pub marked_is : (result : Result Seen E) (new : List Seen) → IfOk result (λ snap. snap.1 ≡ number) → IfOk result (λ snap. NoMark snap.0 live) → IfOk result (λ snap. new ≡ live ++ snap ∷ []) → IfErr result (λ why. new ≡ live)
      → IfOk result (λ snap. IsMarked (stored kept loop_no next live catalog rows) snap (stored kept loop_no next new catalog rows))
  marked_is (Ok snap) new is fresh more left = record {
    leaves = (marked_step (Ok snap) new is more left).leaves;
    number = is ∙ at;
    fresh = fresh;
    live = more;
    moment = refl;
    rows = refl;
  }
  marked_is (Err why) new is fresh more left = tt

-- ---- a commit was applied

pub advanced_by : (kept : Kept) (loop_no next now : ℕ) (live : List Seen) (catalog : Catalog) (rows mid new : Versioned) (o : Option ℕ) → o ≡ oldest live → IsKept rows → rows.applied < length kept.seen → now ≤ length kept.seen
    → IsAdvanced kept.seen catalog rows mid → new.columns ≡ mid.columns → new.applied ≡ mid.applied → new.versions ≡ cleaned o mid.versions → IsTidy (stored kept loop_no next live catalog rows)
    → IsStep (stored kept loop_no next live catalog rows) (stored kept loop_no now live catalog new)
advanced_by kept loop_no next now live catalog rows mid new o old placed there own more columns applied versions tidy =
    advanced kept loop_no next now live catalog rows mid new placed.placed there own more (record { columns = columns; applied = applied; versions = versions ∙ ap (λ o. cleaned o mid.versions) old }) tidy

pub applies_itself : (store : Stored) → Applies store store
applies_itself store = record { leaves = leaves_itself store; moment = refl; live = refl }

pub applies_on : (old mid new : Stored) → Applies old mid → Applies mid new → Applies old new
applies_on old mid new one two = record { leaves = leaves_on old mid new one.leaves two.leaves; moment = two.moment ∙ one.moment; live = two.live ∙ one.live }
