-- A snapshot begins: the log is looked at, what was seen is applied, and the snapshot gets its mark.
use Rattle.std.proofs.Common.{◌≡◌, ◌∙◌, ℕ, [], ◌∷◌, ◌++◌, length, sym, ap, subst, refl}
use Rattle.commit_log.specs.Kept.{Refreshes}
use Rattle.commit_log.specs.declared.refresh.Refresh.{Refresh}
use Rattle.commit_log.specs.declared.refresh.Refresh.TheVariants as refresh
use Rattle.live_snapshots.specs.Snapshots.{NoMark, Seen}
use Rattle.snapshot_store.specs.Parts.{Applies, IsLooked, IsMarked}
use Rattle.store_events.specs.Ties.{Moment}
use Rattle.store_states.proofs.StepLaws.{leaves_on}
use Rattle.store_states.specs.Promises.{Begins, Leaves, Refused}
use Rattle.store_states.specs.Stored.{Stored, log_of}

own_same : (old new : Stored) (answer : Refresh) → IsLooked old answer new → new.moment.kept.own ≡ old.moment.kept.own
own_same old new (refresh.Seen n) it = it.answered.1
own_same old new refresh.Failed it = it.answered.1.own
own_same old new refresh.Memory it = it.answered.own

-- what a look leaves
pub looked_refused : (old new : Stored) (answer : Refresh) → IsLooked old answer new → Refused old new
looked_refused old new answer it = record { live = it.live; own = own_same old new answer it; next = it.next }

-- and what is applied after it
pub applied_refused : (old mid new : Stored) (answer : Refresh) → IsLooked old answer mid → Applies mid new → Refused old new
applied_refused old mid new answer it more = record {
  live = more.live ∙ it.live;
  own = ap (λ (m : Moment). m.kept.own) more.moment ∙ own_same old mid answer it;
  next = ap (λ (m : Moment). m.next) more.moment ∙ it.next;
}

pub applied_leaves : (old mid new : Stored) (answer : Refresh) → IsLooked old answer mid → Applies mid new → Leaves old new
applied_leaves old mid new answer it more = leaves_on old mid new it.leaves more.leaves

pub begins : (old mid later new : Stored) (answer : Refresh) (snap : Seen) → IsLooked old answer mid → Applies mid later → later.rows.applied ≡ length (log_of later) → IsMarked later snap new → Begins old snap new
begins old mid later new answer snap it more all marked = record {
  number = marked.number ∙ all ∙ sym (ap (λ (m : Moment). length m.kept.seen) marked.moment);
  applied = ap (λ rows. rows.applied) marked.rows ∙ all ∙ sym (ap (λ (m : Moment). length m.kept.seen) marked.moment);
  live = marked.live ∙ ap (λ live. live ++ snap ∷ []) (more.live ∙ it.live);
  fresh = subst (NoMark snap.0) (more.live ∙ it.live) marked.fresh;
  own = ap (λ (m : Moment). m.kept.own) (marked.moment ∙ more.moment) ∙ own_same old mid answer it;
  next = ap (λ (m : Moment). m.next) (marked.moment ∙ more.moment) ∙ it.next;
}

pub begin_leaves : (old mid later new : Stored) (answer : Refresh) (snap : Seen) → IsLooked old answer mid → Applies mid later → IsMarked later snap new → Leaves old new
begin_leaves old mid later new answer snap it more marked = leaves_on old later new (applied_leaves old mid later answer it more) marked.leaves
