-- What a poll does: none or one step of the session machine.
use Rattle.std.specs.Prelude.{◌≡◌, ℕ, ◌≤◌, Bool, true, false, List, [], ◌∷◌, ◌++◌, length}
use Rattle.session_poll.specs.Runs.{Did, IsAt, events_of}
use Rattle.session_poll.specs.Session.{held_of, is_over}
use Rattle.session_poll.specs.Rooms.{HasStepRoom}
use Rattle.session_poll.specs.Standing.{works, standing_of, Says}
use Rattle.session_poll.specs.declared.polled.Polled.{Polled}
use Rattle.session_poll.specs.declared.polled.Polled.TheVariants as polled
use Rattle.session_poll.specs.declared.session.Session.{Session}
use Rattle.session_transactions.specs.Goings.{Goes}
use Rattle.store_states.specs.Stored.{Stored}
use Rattle.store_states.specs.Views.{IsStore}
use Rattle.stored_versions.specs.Openings.{Opening}

abbrev pub has_moved : List Did → Bool
has_moved [] = false
has_moved (did ∷ dids) = true

-- Every run that the session was at the end of goes on by the steps of the poll, whatever the store was opened over, and
-- their events are all that the store answered. Where there is room for the replies of a step, one is taken exactly where
-- work waits, and nothing keeps the poll from saying how the session stands.
pub record Polls (old : Session) (before : Stored) (result : Polled) (new : Session) (after : Stored) : Type 0 where
  pub did : List Did
  pub one : length did ≤ 1
  pub on : (opening : Opening) → IsStore opening before → (fed taken : List ℕ) (run : List Did) → IsAt opening fed taken run old → IsAt opening fed taken (run ++ did) new
  pub goes : Goes old.transaction before (events_of did) new.transaction after
  pub says : Says (has_moved did) result new
  pub looks : HasStepRoom old → (has_moved did ≡ works old.phase (held_of old)) × (result ≡ standing_of new)
  pub busy : result ≡ polled.Again → length did ≡ 1
  pub over : is_over new ≡ is_over old
