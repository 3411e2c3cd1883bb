-- What the parts of a step leave of a session and of the store.
use Rattle.std.specs.Prelude.{◌≡◌, ℕ, ◌≤◌, Bool, true, false, List, [], ◌∷◌, ◌++◌, take, drop, length, Option, Some, None}
use Rattle.pg_messages.specs.declared.back.Back.{Back}
use Rattle.session_poll.specs.Courses.{Course}
use Rattle.session_poll.specs.Packets.{IsStartupMessage, IsQuery, IsReadAs}
use Rattle.session_poll.specs.Queries.{completed, phase_behind}
use Rattle.session_poll.specs.Rooms.{HasStepRoom}
use Rattle.session_poll.specs.Runs.{Did}
use Rattle.session_poll.specs.Session.{state_of, held_of, owed_of, is_over}
use Rattle.session_poll.specs.Standing.{works, IsFull}
use Rattle.session_poll.specs.State.{State, after_error, ended, in_phase, status_of}
use Rattle.session_poll.specs.Steps.{Step}
use Rattle.session_poll.specs.declared.session.Session.{Session}
use Rattle.session_poll.specs.declared.state.Phase.TheVariants as phases
use Rattle.session_replies.specs.Errors.{Tells}
use Rattle.session_replies.specs.Replies.{spelled, ready_for_query}
use Rattle.session_replies.specs.declared.refusal.Refusal.{Refusal}
use Rattle.session_replies.specs.declared.tag.Tag.{Tag}
use Rattle.session_transactions.specs.Goings.{Goes}
use Rattle.store_states.specs.Stored.{Stored}
use Rattle.store_states.specs.Views.{IsStore}
use Rattle.stored_versions.specs.Openings.{Opening}
use Rattle.vra_syntax.specs.declared.statement.Statement.{Statement}

-- the input stays
pub record Keeps (old new : Session) : Type 0 where
  pub held : held_of new ≡ held_of old
  pub over : is_over new ≡ is_over old

-- all stays but the output
pub record KeepsState (old new : Session) : Type 0 where
  pub phase : new.phase ≡ old.phase
  pub transaction : new.transaction ≡ old.transaction
  pub input : Keeps old new

-- all stays but the transaction
pub record KeepsPhase (old new : Session) : Type 0 where
  pub phase : new.phase ≡ old.phase
  pub output : new.output ≡ old.output
  pub input : Keeps old new

-- nothing that a client sees has changed
pub record Same (old new : Session) : Type 0 where
  pub phase : new.phase ≡ old.phase
  pub transaction : new.transaction ≡ old.transaction
  pub waiting : owed_of new ≡ owed_of old
  pub input : Keeps old new

-- the first bytes that are held are dropped
pub record Drops (count : ℕ) (old new : Session) : Type 0 where
  pub phase : new.phase ≡ old.phase
  pub transaction : new.transaction ≡ old.transaction
  pub output : new.output ≡ old.output
  pub held : held_of new ≡ drop count (held_of old)
  pub over : is_over new ≡ is_over old

-- a StartupMessage, or a Query, of so many bytes begins those that are held
abbrev pub BeginsStartup : Option ℕ → List ℕ → Type 0
BeginsStartup None held = ⊥
BeginsStartup (Some count) held = IsStartupMessage (take count held)

abbrev pub BeginsQuery : Option ℕ → List ℕ → Type 0
BeginsQuery None held = ⊥
BeginsQuery (Some count) held = IsQuery (take count held)

-- so many bytes are dropped, where there is such a number
abbrev pub Skips : Option ℕ → Session → Session → Type 0
Skips None old new = ⊥
Skips (Some count) old new = (count ≤ length (held_of old)) × Drops count old new

-- the phase was taken out of the session
pub record IsTaken (old new : Session) : Type 0 where
  pub phase : new.phase ≡ phases.Ready
  pub transaction : new.transaction ≡ old.transaction
  pub output : new.output ≡ old.output
  pub input : Keeps old new

-- A part of a rule was run, with this course, over whatever the store was opened over.
pub record Done (part : Opening → State → Course → Type 0) (old : Session) (before : Stored) (refused : Option Refusal) (new : Session) (after : Stored) : Type 0 where
  pub course : Course
  pub part_is : (opening : Opening) → IsStore opening before → part opening (state_of old) course
  pub refused_is : course.refused ≡ refused
  pub state : state_of new ≡ course.after
  pub put : owed_of new ≡ owed_of old ++ spelled course.replies
  pub keeps : Keeps old new
  pub goes : Goes old.transaction before course.events new.transaction after

-- a whole rule was followed, with this course
pub record Takes (rule : Opening → State → Course → Type 0) (old : Session) (before : Stored) (new : Session) (after : Stored) : Type 0 where
  pub course : Course
  pub rule_is : (opening : Opening) → IsStore opening before → rule opening (state_of old) course
  pub state : state_of new ≡ course.after
  pub put : owed_of new ≡ owed_of old ++ spelled course.replies
  pub keeps : Keeps old new
  pub goes : Goes old.transaction before course.events new.transaction after

-- a part that has a tag to be sent at its end stopped before
pub record Stopped (rule : Tag → Opening → State → Course → Type 0) (old : Session) (before : Stored) (why : Refusal) (new : Session) (after : Stored) : Type 0 where
  pub tag_is : Tag
  pub done : Done (rule tag_is) old before (Some why) new after

-- the tag of a statement was sent, or kept to be sent
pub record GoesPast (tag_is : Tag) (left : List Statement) (old new : Session) : Type 0 where
  pub phase : new.phase ≡ phase_behind tag_is left
  pub transaction : new.transaction ≡ old.transaction
  pub put : owed_of new ≡ owed_of old ++ spelled (completed tag_is left)
  pub keeps : Keeps old new

-- these were sent, and that a message may come
pub record IsReady (last : Back) (old new : Session) : Type 0 where
  pub phase : new.phase ≡ phases.Ready
  pub transaction : new.transaction ≡ old.transaction
  pub put : owed_of new ≡ owed_of old ++ spelled (last ∷ ready_for_query (status_of (state_of old).transaction) ∷ [])
  pub keeps : Keeps old new

-- the state after an error, to which a message may come
abbrev pub readied : State → State
readied state = in_phase phases.Ready (after_error state)

-- an error was told, and that the Query ended
pub record Failed (why : Refusal) (old : Session) (before : Stored) (new : Session) (after : Stored) : Type 0 where
  pub message : Back
  pub told : Tells before.catalog.features why message
  pub state : state_of new ≡ readied (state_of old)
  pub put : owed_of new ≡ owed_of old ++ spelled (message ∷ ready_for_query (status_of (readied (state_of old)).transaction) ∷ [])
  pub keeps : Keeps old new
  pub goes : Goes old.transaction before [] new.transaction after

-- the transaction was dropped, and nothing is taken any more
pub record IsEnded (old : Session) (before : Stored) (new : Session) (after : Stored) : Type 0 where
  pub state : state_of new ≡ ended (state_of old)
  pub output : new.output ≡ old.output
  pub input : Keeps old new
  pub goes : Goes old.transaction before [] new.transaction after

-- no room was there for the replies of a step, no memory was found for it, and nothing was done
pub record WantsMemory (old : Session) (before : Stored) (new : Session) (after : Stored) : Type 0 where
  pub same : Same old new
  pub store : after ≡ before
  pub before_it : HasStepRoom old → ⊥
  pub full : IsFull new

-- a step of the session machine was taken, since work waited
pub record Moved (old : Session) (before : Stored) (new : Session) (after : Stored) : Type 0 where
  pub did : Did
  pub step : (opening : Opening) → IsStore opening before → Step old.phase did.input opening (state_of old) did.course
  pub read_as : IsReadAs old.phase did.input did.bytes
  pub held : held_of old ≡ did.bytes ++ held_of new
  pub state : state_of new ≡ did.course.after
  pub put : owed_of new ≡ owed_of old ++ spelled did.course.replies
  pub over : is_over new ≡ is_over old
  pub goes : Goes old.transaction before did.course.events new.transaction after
  pub worked : works old.phase (held_of old) ≡ true

pub record Idles (old : Session) (before : Stored) (new : Session) (after : Stored) : Type 0 where
  pub same : Same old new
  pub store : after ≡ before
  pub idle : works old.phase (held_of old) ≡ false

-- a step was taken, or no work waited
abbrev pub Moves : Session → Stored → Bool → Session → Stored → Type 0
Moves old before true new after = Moved old before new after
Moves old before false new after = Idles old before new after
