-- The run of a session: its steps, from the state before the first packet.
use Rattle.std.specs.Prelude.{◌≡◌, ℕ, List, [], ◌∷◌, ◌++◌}
use Rattle.session_poll.specs.Courses.{Course, Input}
use Rattle.session_poll.specs.Packets.{IsReadAs}
use Rattle.session_poll.specs.Session.{state_of, held_of, owed_of}
use Rattle.session_poll.specs.State.{State, opening_state}
use Rattle.session_poll.specs.Steps.{Step}
use Rattle.session_poll.specs.declared.session.Session.{Session}
use Rattle.session_replies.specs.Replies.{spelled}
use Rattle.store_events.specs.Events.{Event}
use Rattle.stored_versions.specs.Openings.{Opening}

-- a step that was taken: its input, the bytes of that, and its course
pub record Did : Type 0 where
  pub input : Input
  pub bytes : List ℕ
  pub course : Course

abbrev pub IsRunFrom : Opening → State → List Did → Type 0
IsRunFrom opening old [] = Unit {0}
IsRunFrom opening old (did ∷ dids) =
    Step old.phase did.input opening old did.course × IsReadAs old.phase did.input did.bytes × IsRunFrom opening did.course.after dids

abbrev pub end_from : State → List Did → State
end_from old [] = old
end_from old (did ∷ dids) = end_from did.course.after dids

-- the bytes that the steps took, in order
abbrev pub bytes_read : List Did → List ℕ
bytes_read [] = []
bytes_read (did ∷ dids) = did.bytes ++ bytes_read dids

-- the bytes of their replies, in order
abbrev pub replied : List Did → List ℕ
replied [] = []
replied (did ∷ dids) = spelled did.course.replies ++ replied dids

-- what the store answered in them, in order
abbrev pub events_of : List Did → List Event
events_of [] = []
events_of (did ∷ dids) = did.course.events ++ events_of dids

abbrev pub IsRun : Opening → List Did → Type 0
IsRun opening run = IsRunFrom opening opening_state run

abbrev pub end_of : List Did → State
end_of run = end_from opening_state run

-- A session that was fed these bytes, and of whose output these were taken, stands at the end of this run: what the run
-- took and what is held make up what was fed, and its replies are what was taken and what is owed.
pub record IsAt (opening : Opening) (fed taken : List ℕ) (run : List Did) (session : Session) : Type 0 where
  pub is_run : IsRun opening run
  pub state : state_of session ≡ end_of run
  pub input : fed ≡ bytes_read run ++ held_of session
  pub output : replied run ≡ taken ++ owed_of session
