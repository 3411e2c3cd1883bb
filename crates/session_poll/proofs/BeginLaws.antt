-- How a transaction begins.
use Rattle.std.proofs.Common.{◌≡◌, ◌≢◌, ◌∙◌, ℕ, [], ◌∷◌, ◌++◌, List, inl, inr, Some, None, refl, sym, ap, subst}
use Rattle.pg_messages.specs.Back.{back_bytes}
use Rattle.session_poll.proofs.CourseLaws.{goes_same, put_nothing, put_one, state_in, state_same}
use Rattle.session_poll.specs.Begins.{Begins, BeginsIn}
use Rattle.session_poll.specs.Courses.{Course, goes, stops}
use Rattle.session_poll.specs.Parts.{Done, Keeps}
use Rattle.session_poll.specs.Session.{state_of, waiting_of}
use Rattle.session_poll.specs.State.{State, in_transaction}
use Rattle.session_poll.specs.declared.session.Session.{Session}
use Rattle.session_replies.specs.Replies.{snapshot_told, spelled}
use Rattle.session_replies.specs.declared.refusal.Refusal.{Refusal}
use Rattle.session_replies.specs.declared.refusal.Refusal.TheVariants as refusal
use Rattle.session_transactions.specs.Goings.{Goes}
use Rattle.session_transactions.specs.Outcomes.{IsBegun, IsLeft, IsRefused}
use Rattle.session_transactions.specs.Transactions.{Transaction, Transaction as transactions, transaction_of}
use Rattle.snapshot_store.specs.declared.answers.BeginRefused.TheVariants as refused
use Rattle.store_events.specs.Events.{Event, Event as event}
use Rattle.store_states.specs.Stored.{Stored}

pub begun : (snapshot : ℕ) (old new : Session) (before after : Stored) → IsBegun old.transaction before snapshot new.transaction after → waiting_of new ≡ waiting_of old ++ back_bytes (snapshot_told snapshot) → new.phase ≡ old.phase → Keeps old new → Done Begins old before None new after
begun snapshot old new before after is put phase keeps =
    let c : Course = goes (event.Begun snapshot ∷ []) (snapshot_told snapshot ∷ []) (in_transaction (transactions.Implicit snapshot []) (state_of old)) in
    record {
      course = c;
      part_is = λ opening of. subst (λ t. BeginsIn t (state_of old) c) (sym is.was_idle) (inl (record { snapshot = snapshot; course = refl }));
      refused_is = refl;
      state = state_in old new (transactions.Implicit snapshot []) phase is.begun;
      put = put_one (waiting_of old) (waiting_of new) (snapshot_told snapshot) put;
      keeps = keeps;
      goes = is.goes;
    }

left_in : (t : Transaction) (s : State) → t ≢ transactions.Idle → BeginsIn t s (goes [] [] s)
left_in transactions.Idle s not_idle = absurd (not_idle refl)
left_in (transactions.Implicit snapshot writes) s not_idle = refl
left_in (transactions.Block snapshot writes) s not_idle = refl
left_in transactions.Failed s not_idle = refl

-- one is open already, or has failed
pub goes_on : (old new : Session) (before after : Stored) → IsLeft old.transaction before new.transaction after → waiting_of new ≡ waiting_of old → new.phase ≡ old.phase → Keeps old new → Done Begins old before None new after
goes_on old new before after is put phase keeps = record {
  course = goes [] [] (state_of old);
  part_is = λ opening of. left_in (transaction_of old.transaction) (state_of old) is.not_idle;
  refused_is = refl;
  state = state_same old new phase is.same;
  put = put_nothing (waiting_of old) (waiting_of new) put;
  keeps = keeps;
  goes = subst (λ s. Goes old.transaction before [] new.transaction s) (sym is.same_store) (goes_same old new before is.same);
}

-- the store refused it
refused_by : (events : List Event) (why : Refusal) (old new : Session) (before after : Stored) → transaction_of old.transaction ≡ transactions.Idle → transaction_of new.transaction ≡ transactions.Idle → Goes old.transaction before events new.transaction after → BeginsIn transactions.Idle (state_of old) (stops events why (state_of old)) → waiting_of new ≡ waiting_of old → new.phase ≡ old.phase → Keeps old new → Done Begins old before (Some why) new after
refused_by events why old new before after was idle all is put phase keeps = record {
  course = stops events why (state_of old);
  part_is = λ opening of. subst (λ t. BeginsIn t (state_of old) (stops events why (state_of old))) (sym was) is;
  refused_is = refl;
  state = state_in old new (transaction_of old.transaction) phase (idle ∙ sym was);
  put = put_nothing (waiting_of old) (waiting_of new) put;
  keeps = keeps;
  goes = all;
}

pub keeper_failed : (old new : Session) (before after : Stored) → IsRefused old.transaction before refused.KeeperFault new.transaction after → waiting_of new ≡ waiting_of old → new.phase ≡ old.phase → Keeps old new → Done Begins old before (Some refusal.KeeperFault) new after
keeper_failed old new before after is put phase keeps =
    refused_by (event.KeeperFailed ∷ []) refusal.KeeperFault old new before after is.was_idle is.idle is.goes (inr (inl refl)) put phase keeps

pub no_memory : (old new : Session) (before after : Stored) → IsRefused old.transaction before refused.Memory new.transaction after → waiting_of new ≡ waiting_of old → new.phase ≡ old.phase → Keeps old new → Done Begins old before (Some refusal.OutOfMemory) new after
no_memory old new before after is put phase keeps =
    refused_by [] refusal.OutOfMemory old new before after is.was_idle is.idle is.goes (inr (inr refl)) put phase keeps
