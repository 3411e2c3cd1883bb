-- A poll, by whether a step was taken.
use Rattle.std.proofs.Common.{◌<◌, ◌≡◌, ◌∙◌, ℕ, Bool, true, false, List, [], ◌∷◌, ◌++◌, inl, inr, refl, sym, ap, subst, append-nil, true≢false, arith}
use Rattle.session_poll.proofs.CourseLaws.{goes_same, state_same}
use Rattle.session_poll.proofs.RunLaws.{at_same, at_moved}
use Rattle.session_poll.specs.Packets.{IsReadAs}
use Rattle.session_poll.specs.Parts.{Idles, KeepsState, Moved, Moves, Same, WantsMemory}
use Rattle.session_poll.specs.Polls.{Polls}
use Rattle.session_poll.specs.Runs.{Did, IsAt, events_of}
use Rattle.session_poll.specs.Session.{held_of, state_of, waiting_of}
use Rattle.session_poll.specs.Rooms.{HasStepRoom}
use Rattle.session_poll.specs.Standing.{polled_as, standing_of, works}
use Rattle.session_poll.specs.Steps.{Step}
use Rattle.session_poll.specs.declared.polled.Polled.{Polled}
use Rattle.session_poll.specs.declared.polled.Polled.TheVariants as polled
use Rattle.session_poll.specs.declared.session.Session.{Session}
use Rattle.session_replies.specs.Output.{is_empty}
use Rattle.session_replies.specs.Replies.{spelled}
use Rattle.session_transactions.specs.Goings.{Goes}
use Rattle.store_events.specs.Events.{Event}
use Rattle.store_states.specs.Stored.{Stored}
use Rattle.store_states.specs.Views.{IsStore}
use Rattle.stored_versions.specs.Openings.{Opening}

abbrev is_again : Polled → Bool
is_again polled.NeedInput = false
is_again polled.NeedOutput = false
is_again polled.Closed = false
is_again polled.Again = true

stands_idle : (ended quiet : Bool) → is_again (polled_as false ended quiet) ≡ false
stands_idle true true = refl
stands_idle true false = refl
stands_idle false true = refl
stands_idle false false = refl

not_again : (result : Polled) → is_again result ≡ false → result ≡ polled.Again → ⊥
not_again result other is = true≢false (ap is_again (sym is) ∙ other)

idle_stands : (session : Session) → works session.phase (held_of session) ≡ false → is_again (standing_of session) ≡ false
idle_stands session idle = rw idle (stands_idle _ _)

on_nothing : (opening : Opening) (old new : Session) → Same old new → (fed taken : List ℕ) (run : List Did) → IsAt opening fed taken run old → IsAt opening fed taken (run ++ []) new
on_nothing opening old new same fed taken run is = subst (λ r. IsAt opening fed taken r new) (sym (append-nil run)) (at_same opening fed taken run old new same is)

goes_there : (old new : Session) (before after : Stored) → new.transaction ≡ old.transaction → after ≡ before → Goes old.transaction before [] new.transaction after
goes_there old new before after is there = subst (λ s. Goes old.transaction before [] new.transaction s) (sym there) (goes_same old new before is)

-- there was no room
pub polls_full : (old new : Session) (before after : Stored) → WantsMemory old before new after → Polls old before polled.NeedOutput new after
polls_full old new before after wants = record {
  did = [];
  one = omega arith;
  on = λ opening of. on_nothing opening old new wants.same;
  goes = goes_there old new before after wants.same.transaction wants.store;
  says = inr (refl, wants.full);
  looks = λ is. absurd (wants.before_it is);
  busy = λ is. absurd (not_again polled.NeedOutput refl is);
  over = wants.same.input.over;
}

pub wants_memory : (old new : Session) (store : Stored) → KeepsState old new → new.output ≡ old.output → (old.output.spare < 256) × (is_empty (waiting_of old) ≡ false) → WantsMemory old store new store
wants_memory old new store keeps output full = record {
  same = record { phase = keeps.phase; transaction = keeps.transaction; waiting = ap (λ o. o.bytes) output; input = keeps.input };
  store = refl;
  before_it = λ room. omega (arith, room, full.0);
  full = (λ room. let same : new.output.spare ≡ old.output.spare = ap (λ o. o.spare) output in omega (arith, room, full.0, same), ap (λ o. is_empty o.bytes) output ∙ full.1);
}

-- room was made, and then a step was taken or none
pub moves_from : (old mid new : Session) (before after : Stored) (moved : Bool) → Same old mid → Moves mid before moved new after → Moves old before moved new after
moves_from old mid new before after true same m = record {
  did = m.did;
  step = λ opening of. subst (λ s. Step s.phase m.did.input opening s m.did.course) (state_same old mid same.phase same.transaction) (m.step opening of);
  read_as = subst (λ p. IsReadAs p m.did.input m.did.bytes) same.phase m.read_as;
  held = sym same.input.held ∙ m.held;
  state = m.state;
  put = m.put ∙ ap (λ (w : List ℕ). w ++ spelled m.did.course.replies) same.waiting;
  over = m.over ∙ same.input.over;
  goes = subst (λ x. Goes x before m.did.course.events new.transaction after) same.transaction m.goes;
  worked = subst (λ h. works old.phase h ≡ true) same.input.held (subst (λ p. works p (held_of mid) ≡ true) same.phase m.worked);
}
moves_from old mid new before after false same m = record {
  same = record {
    phase = m.same.phase ∙ same.phase;
    transaction = m.same.transaction ∙ same.transaction;
    waiting = m.same.waiting ∙ same.waiting;
    input = record { held = m.same.input.held ∙ same.input.held; over = m.same.input.over ∙ same.input.over };
  };
  store = m.store;
  idle = subst (λ h. works old.phase h ≡ false) same.input.held (subst (λ p. works p (held_of mid) ≡ false) same.phase m.idle);
}

polls_by : (old new : Session) (before after : Stored) (moved : Bool) → Moves old before moved new after → Polls old before (standing_of new) new after
polls_by old new before after true m = record {
  did = m.did ∷ [];
  one = omega arith;
  on = λ opening of fed taken run is. at_moved opening fed taken run old new before after m of is;
  goes = subst (λ (e : List Event). Goes old.transaction before e new.transaction after) (sym (append-nil m.did.course.events)) m.goes;
  says = refl;
  looks = λ room. (sym m.worked, refl);
  busy = λ is. refl;
  over = m.over;
}
polls_by old new before after false m = record {
  did = [];
  one = omega arith;
  on = λ opening of. on_nothing opening old new m.same;
  goes = goes_there old new before after m.same.transaction m.store;
  says = inl refl;
  looks = λ room. (sym m.idle, refl);
  busy = λ is. absurd (not_again (standing_of new) (idle_stands new (subst (λ p. works p (held_of new) ≡ false) (sym m.same.phase) (subst (λ h. works old.phase h ≡ false) (sym m.same.input.held) m.idle))) is);
  over = m.same.input.over;
}

pub polls_moved : (old new : Session) (before after : Stored) (moved : Bool) (result : Polled) → Moves old before moved new after → result ≡ standing_of new → Polls old before result new after
polls_moved old new before after moved result m is = subst (λ r. Polls old before r new after) (sym is) (polls_by old new before after moved m)
