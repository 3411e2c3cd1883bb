-- The session machine: which rule each input has in each phase.
use Rattle.std.specs.Prelude.{◌≡◌, [], ◌∷◌}
use Rattle.pg_messages.specs.declared.front.Front.{Front}
use Rattle.pg_messages.specs.declared.front.Front.TheVariants as front
use Rattle.session_poll.specs.Courses.{Course, Input, StartUp, Message, Bad, Unread, Next, goes}
use Rattle.session_poll.specs.Errors.{Rejects}
use Rattle.session_poll.specs.Queries.{Queries, RunsStatement, EndsQuery, RunsOut}
use Rattle.session_poll.specs.StartUps.{StartsUp}
use Rattle.session_poll.specs.State.{State, in_phase, ended}
use Rattle.session_poll.specs.declared.state.Phase.{Phase}
use Rattle.session_poll.specs.declared.state.Phase.TheVariants as phases
use Rattle.session_replies.specs.Replies.{out_of_memory}
use Rattle.stored_versions.specs.Openings.{Opening}

-- the client says that it ends
abbrev pub Terminates : Opening → State → Course → Type 0
Terminates opening old c = c ≡ goes [] [] (ended old)

-- which rule a message has
abbrev pub Handles : Front → Opening → State → Course → Type 0
Handles (front.Query text) opening old c = Queries text opening old c
Handles front.Terminate opening old c = Terminates opening old c

-- a start-up packet was taken unread
abbrev pub RefusesStart : Opening → State → Course → Type 0
RefusesStart opening old c = c ≡ goes [] (out_of_memory ∷ []) old

-- A packet that is taken unread is answered `out of memory`. What isn't built yet is refused, and ends the session. The
-- next statement of a Query leaves its phase to be run. Nothing else comes.
abbrev pub Step : Phase → Input → Opening → State → Course → Type 0
Step phases.Start (StartUp packet) opening old c = StartsUp packet opening old c
Step phases.Start Unread opening old c = RefusesStart opening old c
Step phases.Start Bad opening old c = Rejects opening old c
Step phases.Ready (Message message) opening old c = Handles message opening old c
Step phases.Ready Unread opening old c = RunsOut opening old c
Step phases.Ready Bad opening old c = Rejects opening old c
Step (phases.Statements first left) Next opening old c = RunsStatement first left opening (in_phase phases.Ready old) c
Step (phases.Query tag_is) Next opening old c = EndsQuery tag_is opening old c
Step phase input opening old c = ⊥
