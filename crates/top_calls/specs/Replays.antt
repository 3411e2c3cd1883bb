-- How a replay ends, and what it has put out.
use Rattle.std.specs.Prelude.{◌≡◌, ℕ, ◌<◌, ◌≤◌, Bool, true, false, List, [], ◌++◌, length, take, Option}
use Rattle.std.specs.Io.KnownBytes.{Appends}
use Rattle.causes.specs.Faults.{Rose}
use Rattle.commit_log.specs.Places.{own_kept}
use Rattle.session_poll.specs.Runs.{Did, IsRun, end_of, bytes_read, events_of, replied, IsAt}
use Rattle.session_poll.specs.Session.{held_of, is_over, waiting_of}
use Rattle.session_poll.specs.Standing.{works}
use Rattle.session_poll.specs.declared.inbox.TheConstants.{INBOX_SIZE}
use Rattle.session_poll.specs.declared.polled.Polled.{Polled}
use Rattle.session_poll.specs.declared.polled.Polled.TheVariants as polled
use Rattle.session_poll.specs.declared.session.Session.{Session}
use Rattle.store_events.specs.Ties.{Moment, Ties}
use Rattle.stored_versions.specs.Openings.{Opening}
use Rattle.top_calls.specs.Sinks.{Held}
use Rattle.top_calls.specs.declared.exit.Exit.{Exit}
use Rattle.top_calls.specs.declared.exit.Exit.TheVariants as exit

-- the first bytes of a piece are put
pub record PutsFront (piece : List ℕ) (before after : Option (List ℕ)) : Type 0 where
  pub front : List ℕ
  pub back : List ℕ
  pub parts : piece ≡ front ++ back
  pub put : Appends before after front

-- a whole piece is put, or the sink has failed behind its first bytes
abbrev pub PutsAll : List ℕ → Bool → Held → Held → Type 0
PutsAll piece true before after = Appends before.bytes after.bytes piece × (after.faults ≡ before.faults)
PutsAll piece false before after = PutsFront piece before.bytes after.bytes × Rose before.faults after.faults

-- the exits of a replay, with the cause of a fault
abbrev pub IsReplayExit : Exit → Held → Held → Type 0
IsReplayExit exit.Done before after = Unit {0}
IsReplayExit exit.WriteFault before after = Rose before.faults after.faults
IsReplayExit exit.Memory before after = Unit {0}
IsReplayExit _ before after = ⊥

-- the greatest number of commits of a replay's log
abbrev pub log_limit : ℕ
log_limit = 1000000

-- the log of a replay before its first poll is empty
abbrev pub first_moment : Moment
first_moment = record { kept = own_kept [] log_limit 0; loop_no = 0; next = 0 }

-- What was put out begins the reply of a run of the session machine, whose inputs are the first packets of the stream.
-- The log begins empty, and what the store answered ties it to a log in which each commit is one of the run's, in order,
-- and whose keeper has not failed.
pub record Replays (opening : Opening) (stream : List ℕ) (before after : Option (List ℕ)) : Type 0 where
  pub run : List Did
  pub is_run : IsRun opening run
  pub last : Moment
  pub ties : Ties first_moment (events_of run) last
  pub own_alone : last.kept ≡ own_kept last.kept.seen log_limit 0
  pub rest : List ℕ
  pub input : stream ≡ bytes_read run ++ rest
  pub sent : List ℕ
  pub unsent : List ℕ
  pub output : replied run ≡ sent ++ unsent
  pub put : Appends before after sent

-- What was put out is the whole reply. The stream was read to the packet that ended the session, or to its end: what is
-- left of it is no packet, whole or bad.
pub record IsWhole {opening : Opening} {stream : List ℕ} {before after : Option (List ℕ)} (replays : Replays opening stream before after) : Type 0 where
  pub sent_all : replays.unsent ≡ []
  pub read_out : works (end_of replays.run).phase replays.rest ≡ false

pub record ReplaysAll (opening : Opening) (stream : List ℕ) (before after : Option (List ℕ)) : Type 0 where
  pub begun : Replays opening stream before after
  pub whole : IsWhole begun

-- The same from one moment of a store to another, whatever its log.
pub record ReplaysFrom (opening : Opening) (stream : List ℕ) (first last : Moment) (before after : Option (List ℕ)) : Type 0 where
  pub run : List Did
  pub is_run : IsRun opening run
  pub ties : Ties first (events_of run) last
  pub rest : List ℕ
  pub input : stream ≡ bytes_read run ++ rest
  pub sent : List ℕ
  pub unsent : List ℕ
  pub output : replied run ≡ sent ++ unsent
  pub put : Appends before after sent

pub record ReplaysAllFrom (opening : Opening) (stream : List ℕ) (first last : Moment) (before after : Option (List ℕ)) : Type 0 where
  pub begun : ReplaysFrom opening stream first last before after
  pub sent_all : begun.unsent ≡ []
  pub read_out : works (end_of begun.run).phase begun.rest ≡ false

-- A session was fed so many bytes of the stream, what was taken of its output was put out, and what the store answered
-- since the first moment is in its run.
pub record InReplay (opening : Opening) (stream : List ℕ) (fed : ℕ) (first now : Moment) (before after : Option (List ℕ)) (session : Session) : Type 0 where
  pub run : List Did
  pub taken : List ℕ
  pub at : IsAt opening (take fed stream) taken run session
  pub ties : Ties first (events_of run) now
  pub put : Appends before after taken
  pub over : is_over session ≡ true → fed ≡ length stream

-- whatever was put out before, the replay goes on
pub record GoesOn (stream : List ℕ) (fed : ℕ) (before : Option (List ℕ)) (old : Session) (next : ℕ) (after : Option (List ℕ)) (new : Session) : Type 0 where
  pub on : (opening : Opening) (first now : Moment) (start : Option (List ℕ)) → InReplay opening stream fed first now start before old → InReplay opening stream next first now start after new
  pub transaction : new.transaction ≡ old.transaction

-- or it stops in the midst of what was to be put out
pub record Stops (stream : List ℕ) (fed : ℕ) (before : Option (List ℕ)) (old : Session) (after : Option (List ℕ)) (new : Session) : Type 0 where
  pub on : (opening : Opening) (first now : Moment) (start : Option (List ℕ)) → InReplay opening stream fed first now start before old → ReplaysFrom opening stream first now start after
  pub transaction : new.transaction ≡ old.transaction

-- The stream is fed on, where the session has room, and at its end the session is told so.
pub record FeedsOn (stream : List ℕ) (fed : ℕ) (old : Session) (next : ℕ) (new : Session) : Type 0 where
  pub more : fed < length stream → length (held_of old) < INBOX_SIZE → fed < next
  pub ended : fed ≡ length stream → is_over new ≡ true

-- how many bytes may wait before they are put out, though the session could go on
abbrev pub waiting_limit : ℕ
waiting_limit = 65536

-- Behind a poll a replay does what was asked for: what waits is put out, or the stream is fed on. So little waits behind
-- each step.
abbrev pub Moves : List ℕ → Polled → ℕ → Session → ℕ → Session → Type 0
Moves stream polled.NeedOutput fed old next new = waiting_of new ≡ []
Moves stream polled.NeedInput fed old next new = FeedsOn stream fed old next new
Moves stream polled.Again fed old next new = length (waiting_of new) < waiting_limit
Moves stream polled.Closed fed old next new = Unit {0}
