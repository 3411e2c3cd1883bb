-- The commit step, by what came of it.
use Rattle.std.proofs.Common.{◌≡◌, ◌≢◌, ◌∙◌, ℕ, [], ◌∷◌, ◌++◌, List, inl, inr, Option, Some, None, refl, sym, ap, subst}
use Rattle.pg_messages.specs.Back.{back_bytes}
use Rattle.session_poll.proofs.CourseLaws.{checked, done_as, keeps_itself, put_nothing, put_one, state_in}
use Rattle.session_poll.specs.Commits.{Commits, CommitsIn, Ends, EndsIn, Tries}
use Rattle.session_poll.specs.Courses.{Course, goes, stops}
use Rattle.session_poll.specs.Parts.{Done, Keeps, KeepsPhase}
use Rattle.session_poll.specs.Session.{state_of, waiting_of}
use Rattle.session_poll.specs.State.{State, between}
use Rattle.session_poll.specs.declared.session.Session.{Session}
use Rattle.session_replies.specs.Replies.{commit_told, spelled}
use Rattle.session_replies.specs.declared.refusal.Refusal.{Refusal}
use Rattle.session_replies.specs.declared.refusal.Refusal.TheVariants as refusal
use Rattle.live_snapshots.specs.Snapshots.{Seen}
use Rattle.session_transactions.specs.Goings.{Goes}
use Rattle.session_transactions.specs.Outcomes.{EndsAs, IsEndOf, answered, end_events}
use Rattle.session_transactions.specs.Transactions.{Transaction, Transaction as transactions, transaction_of, writes_of}
use Rattle.session_transactions.specs.declared.ending.Ending.{Ending}
use Rattle.session_transactions.specs.declared.ending.Ending.TheVariants as ending
use Rattle.session_transactions.specs.declared.transaction.Transaction.TheVariants as held
use Rattle.store_events.specs.Events.{Event}
use Rattle.store_events.specs.Ties.{Moment}
use Rattle.store_states.specs.Stored.{Stored}
use Rattle.vra_syntax.specs.declared.write.Write.{Write}

-- the course of an end
abbrev ended_as : Ending → List Event → State → Course
ended_as ending.Nothing events done = goes events [] done
ended_as (ending.At place) events done = goes events (commit_told place ∷ []) done
ended_as (ending.Conflict table place) events done = stops events (refusal.Conflict table place) done
ended_as (ending.Behind place) events done = stops events (refusal.CameFirst place) done
ended_as ending.KeeperFault events done = stops events refusal.KeeperFault done
ended_as (ending.LogFull number) events done = stops events (refusal.LogFull number) done
ended_as ending.Memory events done = stops events refusal.OutOfMemory done

tried : (snapshot : ℕ) (writes : List Write) (m : Moment) (it : Ending) (done : State) → IsEndOf writes it → Tries snapshot writes done (ended_as it (answered snapshot writes m it) done)
tried snapshot [] m ending.Nothing done is = refl
tried snapshot [] m (ending.At place) done is = absurd (is refl)
tried snapshot [] m (ending.Conflict table place) done is = absurd (is refl)
tried snapshot [] m (ending.Behind place) done is = absurd (is refl)
tried snapshot [] m ending.KeeperFault done is = absurd (is refl)
tried snapshot [] m (ending.LogFull number) done is = absurd (is refl)
tried snapshot [] m ending.Memory done is = absurd (is refl)
tried snapshot (w ∷ writes) m ending.Nothing done is = absurd (cc is)
tried snapshot (w ∷ writes) m (ending.At place) done is = inl (record { place = place; loop_no = m.loop_no; sequence = m.next; course = refl })
tried snapshot (w ∷ writes) m (ending.Conflict table place) done is = inr (inl (record { table = table; place = place; course = refl }))
tried snapshot (w ∷ writes) m (ending.Behind place) done is = inr (inr (inl (record { place = place; course = refl })))
tried snapshot (w ∷ writes) m ending.KeeperFault done is = inr (inr (inr (inl refl)))
tried snapshot (w ∷ writes) m (ending.LogFull number) done is = inr (inr (inr (inr (inl (record { number = number; course = refl })))))
tried snapshot (w ∷ writes) m ending.Memory done is = inr (inr (inr (inr (inr refl))))

nothing_open : (it : Ending) (done : State) (events : List Event) → events ≡ [] → IsEndOf [] it → ended_as it events done ≡ goes [] [] done
nothing_open ending.Nothing done events none is = ap (λ (e : List Event). goes e [] done) none
nothing_open (ending.At place) done events none is = absurd (is refl)
nothing_open (ending.Conflict table place) done events none is = absurd (is refl)
nothing_open (ending.Behind place) done events none is = absurd (is refl)
nothing_open ending.KeeperFault done events none is = absurd (is refl)
nothing_open (ending.LogFull number) done events none is = absurd (is refl)
nothing_open ending.Memory done events none is = absurd (is refl)

commits_in : (t : Transaction) (m : Moment) (it : Ending) (s : State) → IsEndOf (writes_of t) it → CommitsIn t s (ended_as it (end_events t m it) (between s))
commits_in transactions.Idle m it s is = nothing_open it (between s) [] refl is
commits_in (transactions.Implicit snapshot writes) m it s is = tried snapshot writes m it (between s) is
commits_in (transactions.Block snapshot writes) m it s is = tried snapshot writes m it (between s) is
commits_in transactions.Failed m it s is = nothing_open it (between s) [] refl is

events_are : (it : Ending) (events : List Event) (done : State) → (ended_as it events done).events ≡ events
events_are ending.Nothing events done = refl
events_are (ending.At place) events done = refl
events_are (ending.Conflict table place) events done = refl
events_are (ending.Behind place) events done = refl
events_are ending.KeeperFault events done = refl
events_are (ending.LogFull number) events done = refl
events_are ending.Memory events done = refl

after_is : (it : Ending) (events : List Event) (done : State) → (ended_as it events done).after ≡ done
after_is ending.Nothing events done = refl
after_is (ending.At place) events done = refl
after_is (ending.Conflict table place) events done = refl
after_is (ending.Behind place) events done = refl
after_is ending.KeeperFault events done = refl
after_is (ending.LogFull number) events done = refl
after_is ending.Memory events done = refl

committed_as : (it : Ending) (why : Option Refusal) (old new : Session) (before after : Stored) → EndsAs old.transaction before it new.transaction after → (ended_as it (end_events (transaction_of old.transaction) before.moment it) (between (state_of old))).refused ≡ why → waiting_of new ≡ waiting_of old ++ spelled (ended_as it (end_events (transaction_of old.transaction) before.moment it) (between (state_of old))).replies → new.phase ≡ old.phase → Keeps old new → Done Commits old before why new after
committed_as it why old new before after is refused put phase keeps =
    let events = end_events (transaction_of old.transaction) before.moment it in
    record {
      course = ended_as it events (between (state_of old));
      part_is = λ opening of. commits_in (transaction_of old.transaction) before.moment it (state_of old) is.which;
      refused_is = refused;
      state = state_in old new transactions.Idle phase is.idle ∙ sym (after_is it events (between (state_of old)));
      put = put;
      keeps = keeps;
      goes = subst (λ (e : List Event). Goes old.transaction before e new.transaction after) (sym (events_are it events (between (state_of old)))) is.goes;
    }

quiet : (old new : Session) → waiting_of new ≡ waiting_of old → waiting_of new ≡ waiting_of old ++ spelled []
quiet old new is = put_nothing (waiting_of old) (waiting_of new) is

pub nothing : (old new : Session) (before after : Stored) → EndsAs old.transaction before ending.Nothing new.transaction after → waiting_of new ≡ waiting_of old → new.phase ≡ old.phase → Keeps old new → Done Commits old before None new after
nothing old new before after is put phase keeps = committed_as ending.Nothing None old new before after is refl (quiet old new put) phase keeps

pub placed : (place : ℕ) (old new : Session) (before after : Stored) → EndsAs old.transaction before (ending.At place) new.transaction after → waiting_of new ≡ waiting_of old ++ back_bytes (commit_told place) → new.phase ≡ old.phase → Keeps old new → Done Commits old before None new after
placed place old new before after is put phase keeps = committed_as (ending.At place) None old new before after is refl (put_one (waiting_of old) (waiting_of new) (commit_told place) put) phase keeps

pub conflict : (table : List ℕ) (place : ℕ) (old new : Session) (before after : Stored) → EndsAs old.transaction before (ending.Conflict table place) new.transaction after → waiting_of new ≡ waiting_of old → new.phase ≡ old.phase → Keeps old new → Done Commits old before (Some (refusal.Conflict table place)) new after
conflict table place old new before after is put phase keeps = committed_as (ending.Conflict table place) (Some (refusal.Conflict table place)) old new before after is refl (quiet old new put) phase keeps

pub behind : (place : ℕ) (old new : Session) (before after : Stored) → EndsAs old.transaction before (ending.Behind place) new.transaction after → waiting_of new ≡ waiting_of old → new.phase ≡ old.phase → Keeps old new → Done Commits old before (Some (refusal.CameFirst place)) new after
behind place old new before after is put phase keeps = committed_as (ending.Behind place) (Some (refusal.CameFirst place)) old new before after is refl (quiet old new put) phase keeps

pub keeper_failed : (old new : Session) (before after : Stored) → EndsAs old.transaction before ending.KeeperFault new.transaction after → waiting_of new ≡ waiting_of old → new.phase ≡ old.phase → Keeps old new → Done Commits old before (Some refusal.KeeperFault) new after
keeper_failed old new before after is put phase keeps = committed_as ending.KeeperFault (Some refusal.KeeperFault) old new before after is refl (quiet old new put) phase keeps

pub log_full : (number : ℕ) (old new : Session) (before after : Stored) → EndsAs old.transaction before (ending.LogFull number) new.transaction after → waiting_of new ≡ waiting_of old → new.phase ≡ old.phase → Keeps old new → Done Commits old before (Some (refusal.LogFull number)) new after
log_full number old new before after is put phase keeps = committed_as (ending.LogFull number) (Some (refusal.LogFull number)) old new before after is refl (quiet old new put) phase keeps

pub no_memory : (old new : Session) (before after : Stored) → EndsAs old.transaction before ending.Memory new.transaction after → waiting_of new ≡ waiting_of old → new.phase ≡ old.phase → Keeps old new → Done Commits old before (Some refusal.OutOfMemory) new after
no_memory old new before after is put phase keeps = committed_as ending.Memory (Some refusal.OutOfMemory) old new before after is refl (quiet old new put) phase keeps

-- at the end of a Query

pub ended : (snap : Seen) (writes : List Write) (why : Option Refusal) (old new : Session) (before after : Stored) → old.transaction ≡ held.Implicit snap writes → Done Commits old before why new after → Done Ends old before why new after
ended snap writes why old new before after is d =
    done_as Commits Ends old before why new after (λ opening c. subst (λ t. CommitsIn (transaction_of t) (state_of old) c → EndsIn (transaction_of t) (state_of old) c) (sym is) (λ r. r)) d

stays : (old : Session) (store : Stored) → EndsIn (transaction_of old.transaction) (state_of old) (goes [] [] (state_of old)) → Done Ends old store None old store
stays old store is = checked Ends old old store (λ opening of. is) (keeps_itself old) refl

pub idle_stays : (old : Session) (store : Stored) → old.transaction ≡ held.Idle → Done Ends old store None old store
idle_stays old store is = stays old store (subst (λ t. EndsIn (transaction_of t) (state_of old) (goes [] [] (state_of old))) (sym is) refl)

pub block_stays : (snap : Seen) (writes : List Write) (old : Session) (store : Stored) → old.transaction ≡ held.Block snap writes → Done Ends old store None old store
block_stays snap writes old store is = stays old store (subst (λ t. EndsIn (transaction_of t) (state_of old) (goes [] [] (state_of old))) (sym is) refl)

pub failed_stays : (old : Session) (store : Stored) → old.transaction ≡ held.Failed → Done Ends old store None old store
failed_stays old store is = stays old store (subst (λ t. EndsIn (transaction_of t) (state_of old) (goes [] [] (state_of old))) (sym is) refl)
