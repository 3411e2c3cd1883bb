-- Events that fit a log of commits, and the one line of numbers in which they stand.
use Rattle.std.specs.Prelude.{◌≡◌, ℕ, ◌+◌, ◌<◌, ◌≤◌, false, List, [], ◌∷◌, ◌++◌, length, take, drop}
use Rattle.std.specs.List.{list_any}
use Rattle.causes.specs.Faults.{Rose}
use Rattle.commit_log.specs.Kept.{Kept, Lasts, IsNotIn}
use Rattle.commit_log.specs.declared.commit.Commit.{Commit}
use Rattle.store_events.specs.Events.{Event, Event as event, places}
use Rattle.stored_versions.specs.Conflicts.{IsConflict, conflicts}

-- What a store shows of its log at one moment: what its keeper has kept, the number of its loop of sessions, and that of
-- the next commit among the loop's own.
pub record Moment : Type 0 where
  pub kept : Kept
  pub loop_no : ℕ
  pub next : ℕ

-- the log has this commit at this place, and none between the snapshot and it wrote a table that it writes
pub record IsCommitted (seen : List Commit) (commit : Commit) (place : ℕ) : Type 0 where
  pub before : List Commit
  pub behind : List Commit
  pub log_is : seen ≡ before ++ commit ∷ behind
  pub place_is : place ≡ length before + 1
  pub alone : list_any (conflicts commit.writes) (drop commit.base before) ≡ false

-- what was answered between two moments of a keeper fits its log
abbrev pub Fits : Kept → Kept → Event → Type 0
Fits old new (event.Begun snapshot) = snapshot ≤ length new.seen
Fits old new (event.Viewed commits) = (length commits ≤ length new.seen) × (commits ≡ take (length commits) new.seen)
Fits old new (event.Committed base writes place loop_no sequence) =
    IsCommitted new.seen (record { base = base; loop_no = loop_no; sequence = sequence; writes = writes }) place
Fits old new (event.Conflicted base writes table place) = IsConflict new.seen base writes table place
Fits old new (event.CameFirst place) = (0 < place) × (place ≤ length new.seen) × IsNotIn place new.own
Fits old new event.KeeperFailed = Rose old.faults new.faults
Fits old new (event.LogFull number) = (number ≡ new.most) × (number ≡ length new.seen)

abbrev pub AllFit : Kept → Kept → List Event → Type 0
AllFit old new [] = Unit {0}
AllFit old new (it ∷ events) = Fits old new it × AllFit old new events

-- the numbers that events tell rise, in one line from one length of the log to another
abbrev pub Rising : ℕ → List Event → ℕ → Type 0
Rising low [] high = low ≤ high
Rising low (event.Begun snapshot ∷ events) high = (low ≤ snapshot) × Rising snapshot events high
Rising low (event.Committed base writes place loop_no sequence ∷ events) high = (low < place) × Rising place events high
Rising low (event.CameFirst place ∷ events) high = (low < place) × Rising place events high
Rising low (it ∷ events) high = Rising low events high

-- each commit has the loop's number, and their own numbers go up by one
abbrev pub Numbered : ℕ → ℕ → List Event → ℕ → Type 0
Numbered loop_no next [] last = last ≡ next
Numbered loop_no next (event.Committed base writes place loop sequence ∷ events) last =
    (loop ≡ loop_no) × (sequence ≡ next) × Numbered loop_no (next + 1) events last
Numbered loop_no next (it ∷ events) last = Numbered loop_no next events last

-- these events are all that the store answered from one moment to another
pub record Ties (old : Moment) (events : List Event) (new : Moment) : Type 0 where
  pub lasts : Lasts old.kept new.kept
  pub fit : AllFit old.kept new.kept events
  pub rising : Rising (length old.kept.seen) events (length new.kept.seen)
  pub own : new.kept.own ≡ old.kept.own ++ places events
  pub loop_is : new.loop_no ≡ old.loop_no
  pub numbered : Numbered old.loop_no old.next events new.next
