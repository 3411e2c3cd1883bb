-- What a step takes and what it does. A rule is a relation between what the store was opened over, the state before, and
-- the course of its step.
use Rattle.std.specs.Prelude.{◌≡◌, List, [], ◌++◌, Option, Some, None, ◌⊎◌}
use Rattle.pg_messages.specs.declared.back.Back.{Back}
use Rattle.pg_messages.specs.declared.front.Front.{Front}
use Rattle.pg_messages.specs.declared.startup.Startup.{Startup}
use Rattle.session_poll.specs.State.{State}
use Rattle.session_replies.specs.declared.refusal.Refusal.{Refusal}
use Rattle.session_replies.specs.declared.refusal.Refusal.TheVariants as refusal
use Rattle.store_events.specs.Events.{Event}
use Rattle.stored_versions.specs.Openings.{Opening}

-- what a step begins with: a packet, a bad one, one that is all there and for which no memory was found, or the next
-- step of a Query that isn't finished
pub data Input : Type 0 where
  StartUp : (packet : Startup) → Input
  Message : (message : Front) → Input
  Bad : Input
  Unread : Input
  Next : Input

-- the store's answers, the replies, the refusal with which it stopped, and the state after it
pub record Course : Type 0 where
  pub events : List Event
  pub replies : List Back
  pub refused : Option Refusal
  pub after : State

abbrev pub goes : List Event → List Back → State → Course
goes events replies after = record { events = events; replies = replies; refused = None; after = after }

abbrev pub stops : List Event → Refusal → State → Course
stops events why after = record { events = events; replies = []; refused = Some why; after = after }

abbrev pub both : Course → Course → Course
both one two = record { events = one.events ++ two.events; replies = one.replies ++ two.replies; refused = two.refused; after = two.after }

abbrev pub Follows : Option Refusal → Course → (Opening → State → Course → Type 0) → Opening → Course → Type 0
Follows (Some why) one second opening all = all ≡ one
Follows None one second opening all = (two : Course) × second opening one.after two × (all ≡ both one two)

-- one rule, and the other behind it where the first wasn't refused
pub record Then (first second : Opening → State → Course → Type 0) (opening : Opening) (old : State) (all : Course) : Type 0 where
  pub one : Course
  pub first_is : first opening old one
  pub rest : Follows one.refused one second opening all

-- refused exactly where there is a refusal
abbrev pub Checked : Option Refusal → Opening → State → Course → Type 0
Checked None opening old c = c ≡ goes [] [] old
Checked (Some why) opening old c = c ≡ stops [] why old

-- the state changes, and these replies are sent
abbrev pub Does : (State → State) → List Back → Opening → State → Course → Type 0
Does change replies opening old c = c ≡ goes [] replies (change old)

-- want of memory may stand in the place of a rule
abbrev pub OrMemory : (Opening → State → Course → Type 0) → Opening → State → Course → Type 0
OrMemory rule opening old c = rule opening old c ⊎ (c ≡ stops [] refusal.OutOfMemory old)
