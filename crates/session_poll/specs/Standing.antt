-- How a session stands between two polls.
use Rattle.std.specs.Prelude.{◌≡◌, ℕ, Bool, true, false, not, ◌&&◌, ◌||◌, List, ◌⊎◌}
use Rattle.pg_messages.specs.Front.{front_of}
use Rattle.pg_messages.specs.Packet.{is_more}
use Rattle.pg_messages.specs.Startup.{startup_of}
use Rattle.session_poll.specs.declared.polled.Polled.{Polled}
use Rattle.session_poll.specs.declared.polled.Polled.TheVariants as polled
use Rattle.session_poll.specs.declared.session.Session.{Session}
use Rattle.session_poll.specs.declared.state.Phase.{Phase}
use Rattle.session_poll.specs.declared.state.Phase.TheVariants as phases
use Rattle.session_poll.specs.Rooms.{HasStepRoom}
use Rattle.session_replies.specs.Output.{is_empty}
use Rattle.session_poll.specs.Session.{state_of, held_of, owed_of, waiting_of, is_over}

-- whether work waits: a whole packet or a bad one, or a Query that isn't finished
abbrev pub works : Phase → List ℕ → Bool
works phases.Start held = not (is_more (startup_of held))
works phases.Ready held = not (is_more (front_of held))
works (phases.Statements first left) held = true
works (phases.Query tag) held = true
works phases.Ended held = false

abbrev pub is_ended : Phase → Bool
is_ended phases.Ended = true
is_ended _ = false

abbrev pub polled_as : Bool → Bool → Bool → Polled
polled_as true ended quiet = polled.Again
polled_as false ended false = polled.NeedOutput
polled_as false true true = polled.Closed
polled_as false false true = polled.NeedInput

-- A session has ended after a Terminate and after a fatal error, and where nothing more comes and no work is left.
abbrev pub standing_of : Session → Polled
standing_of session =
    let work = works (state_of session).phase (held_of session) in
    polled_as work (is_ended (state_of session).phase || is_over session && not work) (is_empty (owed_of session))

-- behind what waits there is no room for the replies of a step that take no memory
abbrev pub IsFull : Session → Type 0
IsFull session = (HasStepRoom session → ⊥) × (is_empty (waiting_of session) ≡ false)

-- A poll says how the session stands, or, where it did nothing, that output has to be taken: it found no memory for a
-- reply of fixed bytes behind what waits.
abbrev pub Says : Bool → Polled → Session → Type 0
Says true result session = result ≡ standing_of session
Says false result session = (result ≡ standing_of session) ⊎ ((result ≡ polled.NeedOutput) × IsFull session)
