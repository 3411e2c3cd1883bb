-- What a store answers to a commit, part by part.
use Rattle.std.proofs.Common.{◌≡◌, ◌≢◌, ◌∙◌, ◌+◌, ℕ, List, [], ◌∷◌, ◌++◌, length, Option, Some, None, refl, sym, ap, ap₂, subst}
use Rattle.commit_log.specs.Kept.{Appends, Came, Kept, Stays}
use Rattle.commit_log.specs.declared.append.Append.{Append}
use Rattle.commit_log.specs.declared.append.Append.TheVariants as append
use Rattle.commit_log.specs.declared.commit.Commit.{Commit}
use Rattle.live_snapshots.specs.Snapshots.{Seen, without}
use Rattle.snapshot_store.specs.Commits.{Adds, Answers, Commits, Conflicts, IsAlone, IsAppended, commit_of, told}
use Rattle.snapshot_store.specs.Parts.{Applies}
use Rattle.snapshot_store.specs.declared.answers.CommitAnswer.{CommitAnswer}
use Rattle.snapshot_store.specs.declared.answers.CommitAnswer.TheVariants as answer
use Rattle.store_events.specs.Ties.{Moment}
use Rattle.store_states.proofs.StepLaws.{leaves_on}
use Rattle.store_states.specs.Promises.{Leaves, Releases}
use Rattle.store_states.specs.Stored.{Stored, log_of}
use Rattle.stored_versions.specs.Conflicts.{conflict_of}
use Rattle.vra_syntax.specs.declared.write.Write.{Write}

commit_at : Seen → List Write → Moment → Commit
commit_at snap writes m = record { base = snap.1; loop_no = m.loop_no; sequence = m.next; writes = writes }

-- What is applied first leaves the log.
module _ (old mid : Stored) (snap : Seen) (writes : List Write) (more : Applies old mid) where
  -- what came of adding the commit
  added_to : (answer : Append) (new : Stored) → IsAppended mid (commit_of mid snap writes) answer new → Appends old.moment.kept (commit_of old snap writes) answer new.moment.kept
  unfolding commit_at
  added_to answer new it = subst (λ (m : Moment). Appends m.kept (commit_at snap writes m) answer new.moment.kept) more.moment it.added

  -- the commit was added, and the snapshot released
  pub adds_at : (added new : Stored) (k : ℕ) → IsAppended mid (commit_of mid snap writes) (append.At k) added → Releases added snap new → Commits old snap writes k new
  adds_at added new k it released =
      let is = added_to (append.At k) added it in
      let kept : new.moment.kept ≡ added.moment.kept = ap (λ (m : Moment). m.kept) released.moment in
      record {
        room = is.0;
        seen = ap (λ (kept : Kept). kept.seen) kept ∙ is.1;
        place = is.2 ∙ sym (ap (λ (kept : Kept). length kept.seen) kept);
        own = ap (λ (kept : Kept). kept.own) kept ∙ is.3;
        applied = released.applied ∙ it.applied;
        next = ap (λ (m : Moment). m.next) released.moment ∙ it.next ∙ ap (λ (m : Moment). m.next + 1) more.moment;
        live = released.live ∙ ap (without snap) (it.live ∙ more.live);
      }

  pub adds_at_leaves : (added new : Stored) (answer : Append) → IsAppended mid (commit_of mid snap writes) answer added → Leaves added new → Leaves old new
  adds_at_leaves added new answer it last = leaves_on old added new (leaves_on old mid added more.leaves it.leaves) last

  pub adds_leaves : (new : Stored) (answer : Append) → IsAppended mid (commit_of mid snap writes) answer new → Leaves old new
  adds_leaves new answer it = leaves_on old mid new more.leaves it.leaves

  -- it wasn't: the snapshot and the writes come back
  pub adds_behind : (new : Stored) (k : ℕ) (back : Commit) → IsAppended mid (commit_of mid snap writes) (append.Behind k back) new → Adds old snap writes (answer.Behind k snap back.writes) new
  adds_behind new k back it =
      let is = added_to (append.Behind k back) new it in
      (is.0, record { live = it.live ∙ more.live; next = it.next ∙ ap (λ (m : Moment). m.next) more.moment; same_snap = refl; same_writes = ap (λ (c : Commit). c.writes) is.1 }, is.2, is.3)

  pub adds_failed : (new : Stored) (back : Commit) → IsAppended mid (commit_of mid snap writes) (append.Failed back) new → Adds old snap writes (answer.KeeperFault snap back.writes) new
  adds_failed new back it =
      let is = added_to (append.Failed back) new it in
      (is.0, record { live = it.live ∙ more.live; next = it.next ∙ ap (λ (m : Moment). m.next) more.moment; same_snap = refl; same_writes = ap (λ (c : Commit). c.writes) is.1 }, is.2, is.3)

  pub adds_full : (new : Stored) (n : ℕ) (back : Commit) → IsAppended mid (commit_of mid snap writes) (append.Full n back) new → Adds old snap writes (answer.LogFull n snap back.writes) new
  adds_full new n back it =
      let is = added_to (append.Full n back) new it in
      (is.0, record { live = it.live ∙ more.live; next = it.next ∙ ap (λ (m : Moment). m.next) more.moment; same_snap = refl; same_writes = ap (λ (c : Commit). c.writes) is.1 }, is.2, is.3)

  pub adds_memory : (new : Stored) (back : Commit) → IsAppended mid (commit_of mid snap writes) (append.Memory back) new → Adds old snap writes (answer.Memory snap back.writes) new
  adds_memory new back it =
      let is = added_to (append.Memory back) new it in
      (record { live = it.live ∙ more.live; next = it.next ∙ ap (λ (m : Moment). m.next) more.moment; same_snap = refl; same_writes = ap (λ (c : Commit). c.writes) is.0 }, is.1)

  -- applying what was seen was refused
  pub adds_nothing : Adds old snap writes (answer.Memory snap writes) mid
  adds_nothing = (
    record { live = more.live; next = ap (λ (m : Moment). m.next) more.moment; same_snap = refl; same_writes = refl },
    record { seen = ap (λ (m : Moment). m.kept.seen) more.moment; own = ap (λ (m : Moment). m.kept.own) more.moment },
  )

-- where there is no conflict the answer is that of adding the commit
pub answers_alone : (old new : Stored) (snap : Seen) (writes : List Write) (it : CommitAnswer) → IsAlone old snap writes → Adds old snap writes it new → Answers old snap writes it new
answers_alone old new snap writes (answer.At k) none adds = (none, adds)
answers_alone old new snap writes (answer.Conflict table k) none adds = absurd adds
answers_alone old new snap writes (answer.Behind k given back) none adds = (none, adds)
answers_alone old new snap writes (answer.KeeperFault given back) none adds = (none, adds)
answers_alone old new snap writes (answer.LogFull n given back) none adds = (none, adds)
answers_alone old new snap writes (answer.Memory given back) none adds = adds

-- where there is one it is told
pub answers_conflict : (old new : Stored) (snap : Seen) (writes : List Write) (table : List ℕ) (k : ℕ) → told (Some (table, k)) ≡ conflict_of (log_of old) snap.1 writes → Releases old snap new → Conflicts old snap writes table k new
answers_conflict old new snap writes table k found released = record { found = sym found; moment = released.moment; live = released.live }

pub answers_nothing : (old : Stored) (snap : Seen) (writes : List Write) → Answers old snap writes (answer.Memory snap writes) old
answers_nothing old snap writes = (record { live = refl; next = refl; same_snap = refl; same_writes = refl }, record { seen = refl; own = refl })
