-- What a store answers to a commit.
use Rattle.std.specs.Prelude.{ℕ, ◌+◌, ◌≡◌, ◌≢◌, ◌<◌, List, [], ◌∷◌, ◌++◌, length, Option, Some, None}
use Rattle.causes.specs.Faults.{Rose}
use Rattle.commit_log.specs.Kept.{Appends, Came, IsFull, Stays}
use Rattle.commit_log.specs.declared.append.Append.{Append}
use Rattle.commit_log.specs.declared.append.Append.TheVariants as append
use Rattle.commit_log.specs.declared.commit.Commit.{Commit}
use Rattle.live_snapshots.specs.Snapshots.{Seen, without}
use Rattle.snapshot_store.specs.declared.answers.CommitAnswer.{CommitAnswer}
use Rattle.snapshot_store.specs.declared.answers.CommitAnswer.TheVariants as answer
use Rattle.store_states.specs.Promises.{Leaves}
use Rattle.store_states.specs.Stored.{Stored, log_of}
use Rattle.stored_versions.specs.Conflicts.{Conflict, conflict_of}
use Rattle.vra_syntax.specs.declared.write.Write.{Write}

-- the commit that a store makes of the writes of a transaction
abbrev pub commit_of : Stored → Seen → List Write → Commit
commit_of store snap writes = record { base = snap.1; loop_no = store.moment.loop_no; sequence = store.moment.next; writes = writes }

-- the snapshot and the writes come back, and the live snapshots stay
pub record Back (old new : Stored) (snap given : Seen) (writes back : List Write) : Type 0 where
  pub live : new.live ≡ old.live
  pub next : new.moment.next ≡ old.moment.next
  pub same_snap : given ≡ snap
  pub same_writes : back ≡ writes

-- no commit past the snapshot wrote a table that these write
abbrev pub IsAlone : Stored → Seen → List Write → Type 0
IsAlone old snap writes = conflict_of (log_of old) snap.1 writes ≡ None

-- the log holds this commit, and the snapshot is spent
pub record Commits (old : Stored) (snap : Seen) (writes : List Write) (k : ℕ) (new : Stored) : Type 0 where
  pub room : length (log_of old) ≢ old.moment.kept.most
  pub seen : log_of new ≡ log_of old ++ commit_of old snap writes ∷ []
  pub place : k ≡ length (log_of new)
  pub own : new.moment.kept.own ≡ old.moment.kept.own ++ k ∷ []
  pub applied : new.rows.applied ≡ k
  pub next : new.moment.next ≡ old.moment.next + 1
  pub live : new.live ≡ without snap old.live

-- another commit of the log wrote a table that the writes write, and the snapshot is spent
pub record Conflicts (old : Stored) (snap : Seen) (writes : List Write) (table : List ℕ) (k : ℕ) (new : Stored) : Type 0 where
  pub found : conflict_of (log_of old) snap.1 writes ≡ Some (record { table = table; place = k })
  pub moment : new.moment ≡ old.moment
  pub live : new.live ≡ without snap old.live

-- What comes of adding a commit; want of memory is free.
abbrev pub Adds : Stored → Seen → List Write → CommitAnswer → Stored → Type 0
Adds old snap writes (answer.At k) new = Commits old snap writes k new
Adds old snap writes (answer.Conflict table k) new = ⊥
Adds old snap writes (answer.Behind k given back) new = (length (log_of old) ≢ old.moment.kept.most) × Back old new snap given writes back × (k ≡ length (log_of new)) × Came old.moment.kept (commit_of old snap writes) new.moment.kept
Adds old snap writes (answer.KeeperFault given back) new = (length (log_of old) ≢ old.moment.kept.most) × Back old new snap given writes back × Rose old.moment.kept.faults new.moment.kept.faults × Stays old.moment.kept new.moment.kept
Adds old snap writes (answer.LogFull n given back) new = IsFull old.moment.kept × Back old new snap given writes back × (n ≡ old.moment.kept.most) × Stays old.moment.kept new.moment.kept
Adds old snap writes (answer.Memory given back) new = Back old new snap given writes back × Stays old.moment.kept new.moment.kept

-- What a commit answers. A conflict comes first, where there is one.
abbrev pub Answers : Stored → Seen → List Write → CommitAnswer → Stored → Type 0
Answers old snap writes (answer.Conflict table k) new = Conflicts old snap writes table k new
Answers old snap writes (answer.Memory given back) new = Adds old snap writes (answer.Memory given back) new
Answers old snap writes it new = IsAlone old snap writes × Adds old snap writes it new

-- a conflict as it is told
abbrev pub told : Option (List ℕ × ℕ) → Option Conflict
told None = None
told (Some it) = Some (record { table = it.0; place = it.1 })

-- the number of the next commit, after an answer
abbrev pub next_after : ℕ → Append → ℕ
next_after next (append.At k) = next + 1
next_after next answer = next

-- how many commits are applied, after an answer
abbrev pub applied_after : ℕ → Append → ℕ
applied_after applied (append.At k) = k
applied_after applied answer = applied

-- what a store of which all is applied makes of a commit
pub record IsAppended (old : Stored) (commit : Commit) (answer : Append) (new : Stored) : Type 0 where
  pub leaves : Leaves old new
  pub added : Appends old.moment.kept commit answer new.moment.kept
  pub next : new.moment.next ≡ next_after old.moment.next answer
  pub live : new.live ≡ old.live
  pub applied : new.rows.applied ≡ applied_after old.rows.applied answer

-- the number is below the place at which a commit was added
abbrev pub IsBefore : ℕ → Append → Type 0
IsBefore next (append.At k) = next < k
IsBefore next answer = Unit {0}
