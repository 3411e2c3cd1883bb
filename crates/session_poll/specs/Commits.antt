-- The commit step. Whatever comes of it, no transaction is open afterwards.
use Rattle.std.specs.Prelude.{◌≡◌, ℕ, List, [], ◌∷◌, ◌⊎◌}
use Rattle.session_poll.specs.Courses.{Course, goes, stops}
use Rattle.session_poll.specs.State.{State, between}
use Rattle.session_replies.specs.Replies.{commit_told}
use Rattle.session_replies.specs.declared.refusal.Refusal.TheVariants as refusal
use Rattle.session_transactions.specs.Transactions.{Transaction, Transaction as transactions}
use Rattle.store_events.specs.Events.{Event as event}
use Rattle.stored_versions.specs.Openings.{Opening}
use Rattle.vra_syntax.specs.declared.write.Write.{Write}

-- the writes became the commit at a place
pub record Places (snapshot : ℕ) (writes : List Write) (done : State) (c : Course) : Type 0 where
  pub place : ℕ
  pub loop_no : ℕ
  pub sequence : ℕ
  pub course : c ≡ goes (event.Committed snapshot writes place loop_no sequence ∷ []) (commit_told place ∷ []) done

-- a commit past the snapshot wrote a table that they write
pub record MeetsConflict (snapshot : ℕ) (writes : List Write) (done : State) (c : Course) : Type 0 where
  pub table : List ℕ
  pub place : ℕ
  pub course : c ≡ stops (event.Conflicted snapshot writes table place ∷ []) (refusal.Conflict table place) done

-- another's commit came first
pub record IsBehind (done : State) (c : Course) : Type 0 where
  pub place : ℕ
  pub course : c ≡ stops (event.CameFirst place ∷ []) (refusal.CameFirst place) done

pub record MeetsFullLog (done : State) (c : Course) : Type 0 where
  pub number : ℕ
  pub course : c ≡ stops (event.LogFull number ∷ []) (refusal.LogFull number) done

-- Without own writes nothing is asked of the store but to let go of the snapshot, which takes no memory.
abbrev pub Tries : ℕ → List Write → State → Course → Type 0
Tries snapshot [] done c = c ≡ goes [] [] done
Tries snapshot (w ∷ writes) done c =
    Places snapshot (w ∷ writes) done c
    ⊎ MeetsConflict snapshot (w ∷ writes) done c
    ⊎ IsBehind done c
    ⊎ (c ≡ stops (event.KeeperFailed ∷ []) refusal.KeeperFault done)
    ⊎ MeetsFullLog done c
    ⊎ (c ≡ stops [] refusal.OutOfMemory done)

-- at COMMIT, which in a failed transaction only ends it
abbrev pub CommitsIn : Transaction → State → Course → Type 0
CommitsIn transactions.Idle old c = c ≡ goes [] [] (between old)
CommitsIn (transactions.Implicit snapshot writes) old c = Tries snapshot writes (between old) c
CommitsIn (transactions.Block snapshot writes) old c = Tries snapshot writes (between old) c
CommitsIn transactions.Failed old c = c ≡ goes [] [] (between old)

abbrev pub Commits : Opening → State → Course → Type 0
Commits opening old c = CommitsIn old.transaction old c

-- at a Query's end, which ends a transaction that no BEGIN began
abbrev pub EndsIn : Transaction → State → Course → Type 0
EndsIn transactions.Idle old c = c ≡ goes [] [] old
EndsIn (transactions.Implicit snapshot writes) old c = Tries snapshot writes (between old) c
EndsIn (transactions.Block snapshot writes) old c = c ≡ goes [] [] old
EndsIn transactions.Failed old c = c ≡ goes [] [] old

abbrev pub Ends : Opening → State → Course → Type 0
Ends opening old c = EndsIn old.transaction old c
