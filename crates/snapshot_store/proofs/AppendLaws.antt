-- A store stands after a commit was tried.
use Rattle.std.proofs.Common.{◌≡◌, ◌∙◌, ◌<◌, ◌≤◌, ◌+◌, ◌&&◌, ℕ, Bool, true, false, cond, List, [], ◌∷◌, ◌++◌, filter, Option, length, refl, sym, ap, subst, arith, length-append, true≢false}
use Rattle.std.specs.List.{list_all}
use Rattle.commit_log.specs.Kept.{Appends, Kept, Lasts}
use Rattle.commit_log.specs.declared.append.Append.{Append}
use Rattle.commit_log.specs.declared.append.Append.TheVariants as append
use Rattle.commit_log.specs.declared.commit.Commit.{Commit}
use Rattle.live_snapshots.specs.Snapshots.{Seen, oldest}
use Rattle.row_versions.specs.Holdings.{IsKept}
use Rattle.row_versions.specs.Stored.{Stored as Versioned}
use Rattle.snapshot_store.proofs.StandLaws.{advanced_by}
use Rattle.snapshot_store.specs.Commits.{IsBefore, applied_after, next_after}
use Rattle.store_states.proofs.StepLaws.{IsStep, looked, step_on}
use Rattle.store_states.specs.Steps.{AppendsTo}
use Rattle.store_states.specs.Stored.{stored}
use Rattle.store_states.specs.Views.{IsTidy}
use Rattle.version_lists.specs.Versions.{Version, cleaned, may_stay}
use Rattle.vschema.specs.declared.catalog.Catalog.{Catalog}
use Rattle.vtable.specs.declared.table.VColumn.{VColumn}

stay_by : (v : Version) (kept versions : List Version) (b all : Bool) → (all ≡ true → kept ≡ versions) → (b && all) ≡ true → cond b (v ∷ kept) kept ≡ v ∷ versions
stay_by v kept versions true all on h = ap (λ xs. v ∷ xs) (on h)
stay_by v kept versions false all on h = absurd (true≢false (sym h))

-- clean-up leaves versions that are clean
all_stay : (p : Version → Bool) (versions : List Version) → list_all p versions ≡ true → filter p versions ≡ versions
all_stay p [] all = refl
all_stay p (v ∷ versions) all = stay_by v (filter p versions) versions (p v) (list_all p versions) (all_stay p versions) all

made : List (List VColumn) → List Version → ℕ → ℕ → Versioned
made columns versions next applied = record { columns = columns; versions = versions; next = next; applied = applied }

made_is : (it : Versioned) → made it.columns it.versions it.next it.applied ≡ it
unfolding made
made_is it = refl

same_rows : (rows new : Versioned) → new.columns ≡ rows.columns → new.versions ≡ rows.versions → new.next ≡ rows.next → new.applied ≡ rows.applied → new ≡ rows
same_rows rows new columns versions next applied =
    sym (made_is new)
    ∙ ap (λ x. made x new.versions new.next new.applied) columns
    ∙ ap (λ x. made rows.columns x new.next new.applied) versions
    ∙ ap (λ x. made rows.columns rows.versions x new.applied) next
    ∙ ap (made rows.columns rows.versions rows.next) applied
    ∙ made_is rows

longer_by : (before after : List Commit) (commit : Commit) → after ≡ before ++ commit ∷ [] → length after ≡ length before + 1
longer_by before after commit is = ap length is ∙ length-append before (commit ∷ [])

module _ (before after : Kept) (loop_no next now : ℕ) (live : List Seen) (catalog : Catalog) (rows mid new : Versioned) (o : Option ℕ) (commit : Commit) (old : o ≡ oldest live) (placed : IsKept rows) (at : rows.applied ≡ length before.seen)
    (lasts : Lasts before after) (columns : new.columns ≡ mid.columns) (numbered : new.next ≡ mid.next) (applied : new.applied ≡ mid.applied) (versions : new.versions ≡ cleaned o mid.versions) (tidy : IsTidy (stored before loop_no next live catalog rows)) where
  stays_step : mid ≡ rows → now ≡ next → IsStep (stored before loop_no next live catalog rows) (stored after loop_no now live catalog new)
  stays_step same again =
      let clean : new.versions ≡ rows.versions = versions ∙ ap (λ o. cleaned o mid.versions) old ∙ ap (λ (it : Versioned). cleaned (oldest live) it.versions) same ∙ all_stay (may_stay (oldest live)) rows.versions tidy.clean in
      let is : new ≡ rows = same_rows rows new (columns ∙ ap (λ (it : Versioned). it.columns) same) clean (numbered ∙ ap (λ (it : Versioned). it.next) same) (applied ∙ ap (λ (it : Versioned). it.applied) same) in
      subst (λ it. IsStep (stored before loop_no next live catalog rows) (stored after loop_no now live catalog it)) (sym is)
      (subst (λ n. IsStep (stored before loop_no next live catalog rows) (stored after loop_no n live catalog rows)) (sym again) (looked before after loop_no next live catalog rows lasts tidy))

  -- it stands whatever came of it
  pub appended_step : (answer : Append) → Appends before commit answer after → AppendsTo after.seen catalog rows answer mid → now ≡ next_after next answer
      → IsStep (stored before loop_no next live catalog rows) (stored after loop_no now live catalog new)
  appended_step (append.At k) added more again =
      let one = longer_by before.seen after.seen commit added.1 in
      let own = tidy.own in
      let mid_step = looked before after loop_no next live catalog rows lasts tidy in
      subst (λ n. IsStep (stored before loop_no next live catalog rows) (stored after loop_no n live catalog new)) (sym again)
      (step_on (stored before loop_no next live catalog rows) (stored after loop_no next live catalog rows) (stored after loop_no (next + 1) live catalog new) mid_step
      (advanced_by after loop_no next (next + 1) live catalog rows mid new o old placed (omega (arith, at, one)) (omega (arith, own, one)) more columns applied versions mid_step.tidy))
  appended_step (append.Behind k back) added same again = stays_step same again
  appended_step (append.Failed back) added same again = stays_step same again
  appended_step (append.Full n back) added same again = stays_step same again
  appended_step (append.Memory back) added same again = stays_step same again

  pub appended_applied : (answer : Append) → Appends before commit answer after → AppendsTo after.seen catalog rows answer mid → new.applied ≡ applied_after rows.applied answer
  appended_applied (append.At k) added more =
      let one = longer_by before.seen after.seen commit added.1 in
      let last = added.2 in
      let step = more.applied in
      omega (arith, applied, step, at, one, last)
  appended_applied (append.Behind k back) added same = applied ∙ ap (λ (it : Versioned). it.applied) same
  appended_applied (append.Failed back) added same = applied ∙ ap (λ (it : Versioned). it.applied) same
  appended_applied (append.Full n back) added same = applied ∙ ap (λ (it : Versioned). it.applied) same
  appended_applied (append.Memory back) added same = applied ∙ ap (λ (it : Versioned). it.applied) same

-- the number of the next commit is below the place of the one that was added
pub is_before : (before after : Kept) (next : ℕ) (commit : Commit) (answer : Append) → Appends before commit answer after → next ≤ length before.seen → IsBefore next answer
is_before before after next commit (append.At k) added own =
    let one = longer_by before.seen after.seen commit added.1 in
    let last = added.2 in
    omega (arith, own, one, last)
is_before before after next commit (append.Behind k back) added own = tt
is_before before after next commit (append.Failed back) added own = tt
is_before before after next commit (append.Full n back) added own = tt
is_before before after next commit (append.Memory back) added own = tt
