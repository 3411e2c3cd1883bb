-- The error rule in a Query.
use Rattle.std.specs.Prelude.{◌≡◌, ℕ, List, false, [], ◌∷◌, ◌++◌, Option, Some, None, ◌⊎◌}
use Rattle.pg_messages.specs.declared.back.Back.{Back}
use Rattle.session_poll.specs.Courses.{Course, goes}
use Rattle.session_poll.specs.State.{State, in_phase, after_error, ended, status_of}
use Rattle.session_poll.specs.declared.state.Phase.TheVariants as phases
use Rattle.session_replies.specs.Errors.{Tells}
use Rattle.session_replies.specs.Replies.{error_of, ready_for_query}
use Rattle.session_replies.specs.declared.refusal.Refusal.{Refusal}
use Rattle.session_replies.specs.declared.refusal.Refusal.TheVariants as refusal
use Rattle.stored_versions.specs.Openings.{Opening}

-- The error is told, an open transaction is broken, and a message may come. The statements that are left aren't run.
abbrev pub failed : Course → Back → Course
failed one message =
    let after = in_phase phases.Ready (after_error one.after) in
    goes one.events (one.replies ++ message ∷ ready_for_query (status_of after.transaction) ∷ []) after

pub record Fails (why : Refusal) (opening : Opening) (one c : Course) : Type 0 where
  pub message : Back
  pub told : Tells opening.catalog.features why message
  pub course : c ≡ failed one message

abbrev pub Closes : Option Refusal → Opening → Course → Course → Type 0
Closes None opening one c = c ≡ one
Closes (Some why) opening one c = Fails why opening one c

-- the part that a Query runs, and its end where that was refused
pub record Runs (part : Opening → State → Course → Type 0) (opening : Opening) (old : State) (c : Course) : Type 0 where
  pub one : Course
  pub part_is : part opening old one
  pub closes : Closes one.refused opening one c

-- what isn't built yet ends the session
abbrev pub Rejects : Opening → State → Course → Type 0
Rejects opening old c = c ≡ goes [] (error_of [] refusal.NotBuilt ∷ []) (ended old)
