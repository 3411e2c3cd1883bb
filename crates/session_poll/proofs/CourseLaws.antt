-- Sums of replies, parts of a rule one behind another, and what stays.
use Rattle.std.proofs.Common.{◌≡◌, ◌∙◌, ℕ, List, [], ◌∷◌, ◌++◌, Option, Some, None, refl, sym, ap, subst, append_assoc, append-nil}
use Rattle.std.proofs.lemmas.Grind.{flat_map-append}
use Rattle.pg_messages.specs.Back.{back_bytes}
use Rattle.pg_messages.specs.declared.back.Back.{Back}
use Rattle.session_poll.specs.Courses.{Course, Follows, Then, both, goes, stops}
use Rattle.session_poll.specs.Parts.{Done, Keeps, KeepsState, Stopped, Takes}
use Rattle.session_poll.specs.Session.{state_of, waiting_of}
use Rattle.session_poll.specs.State.{State, in_transaction}
use Rattle.session_poll.specs.declared.session.Session.{Session}
use Rattle.session_replies.specs.Replies.{spelled}
use Rattle.session_replies.specs.declared.refusal.Refusal.{Refusal}
use Rattle.session_replies.specs.declared.tag.Tag.{Tag}
use Rattle.session_transactions.proofs.GoingLaws.{goes_itself, goes_on}
use Rattle.session_transactions.specs.Goings.{FitsStore, Goes}
use Rattle.session_transactions.specs.Transactions.{Transaction, snap_of, transaction_of}
use Rattle.session_transactions.specs.declared.transaction.Transaction as code
use Rattle.store_events.specs.Events.{Event}
use Rattle.store_states.specs.Stored.{Stored}
use Rattle.store_states.specs.Views.{IsStore}
use Rattle.stored_versions.specs.Openings.{Opening}

-- what is put behind the replies of one part
pub put_behind : (old mid new : List ℕ) (one two : List Back) → mid ≡ old ++ spelled one → new ≡ mid ++ spelled two → new ≡ old ++ spelled (one ++ two)
put_behind old mid new one two m n =
    n ∙ ap (λ (b : List ℕ). b ++ spelled two) m ∙ append_assoc old (spelled one) (spelled two) ∙ ap (λ (b : List ℕ). old ++ b) (sym (flat_map-append back_bytes one two))

pub put_nothing : (old new : List ℕ) → new ≡ old → new ≡ old ++ spelled []
put_nothing old new is = is ∙ sym (append-nil old)

-- one message
pub put_one : (old new : List ℕ) (message : Back) → new ≡ old ++ back_bytes message → new ≡ old ++ spelled (message ∷ [])
put_one old new message is = is ∙ ap (λ (b : List ℕ). old ++ b) (sym (append-nil (back_bytes message)))

-- and another behind it
pub put_two : (old mid new : List ℕ) (one two : Back) → mid ≡ old ++ spelled (one ∷ []) → new ≡ mid ++ back_bytes two → new ≡ old ++ spelled (one ∷ two ∷ [])
put_two old mid new one two m n = put_behind old mid new (one ∷ []) (two ∷ []) m (put_one mid new two n)

pub keeps_same : (old : Session) → Keeps old old
keeps_same old = record { held = refl; over = refl }

pub keeps_on : (old mid new : Session) → Keeps old mid → Keeps mid new → Keeps old new
keeps_on old mid new k l = record { held = l.held ∙ k.held; over = l.over ∙ k.over }

pub state_same : (old new : Session) → new.phase ≡ old.phase → new.transaction ≡ old.transaction → state_of new ≡ state_of old
state_same old new p t = ap (λ phase. record { phase = phase; transaction = transaction_of new.transaction }) p ∙ ap (λ (it : code.Transaction). record { phase = old.phase; transaction = transaction_of it }) t

pub state_in : (old new : Session) (t : Transaction) → new.phase ≡ old.phase → transaction_of new.transaction ≡ t → state_of new ≡ in_transaction t (state_of old)
state_in old new t p is = ap (λ phase. record { phase = phase; transaction = transaction_of new.transaction }) p ∙ ap (λ (x : Transaction). record { phase = old.phase; transaction = x }) is

pub state_kept : (old new : Session) → KeepsState old new → state_of new ≡ state_of old
state_kept old new k = state_same old new k.phase k.transaction

-- the transaction stays, and nothing was asked of the store
pub goes_same : (old new : Session) (store : Stored) → new.transaction ≡ old.transaction → Goes old.transaction store [] new.transaction store
goes_same old new store is =
    subst (λ t. Goes old.transaction store [] t store) (sym is) (goes_itself old.transaction store)

pub done_as : (part part' : Opening → State → Course → Type 0) (old : Session) (before : Stored) (refused : Option Refusal) (new : Session) (after : Stored) →
    ((opening : Opening) (c : Course) → part opening (state_of old) c → part' opening (state_of old) c) → Done part old before refused new after → Done part' old before refused new after
done_as part part' old before refused new after is d = record {
  course = d.course;
  part_is = λ opening of. is opening d.course (d.part_is opening of);
  refused_is = d.refused_is;
  state = d.state;
  put = d.put;
  keeps = d.keeps;
  goes = d.goes;
}

pub takes_as : (rule rule' : Opening → State → Course → Type 0) (old : Session) (before : Stored) (new : Session) (after : Stored) →
    ((opening : Opening) (c : Course) → rule opening (state_of old) c → rule' opening (state_of old) c) → Takes rule old before new after → Takes rule' old before new after
takes_as rule rule' old before new after is t = record {
  course = t.course;
  rule_is = λ opening of. is opening t.course (t.rule_is opening of);
  state = t.state;
  put = t.put;
  keeps = t.keeps;
  goes = t.goes;
}

pub then_goes : (first second : Opening → State → Course → Type 0) (old mid new : Session) (before middle after : Stored) (refused : Option Refusal) →
    Done first old before None mid middle → Done second mid middle refused new after → Done (Then first second) old before refused new after
then_goes first second old mid new before middle after refused d e = record {
  course = both d.course e.course;
  part_is = λ opening is. record {
    one = d.course;
    first_is = d.part_is opening is;
    rest = subst (λ r. Follows r d.course second opening (both d.course e.course)) (sym d.refused_is)
        (e.course, subst (λ s. second opening s e.course) d.state (e.part_is opening (d.goes.leaves.still opening is)), refl);
  };
  refused_is = e.refused_is;
  state = e.state;
  put = put_behind (waiting_of old) (waiting_of mid) (waiting_of new) d.course.replies e.course.replies d.put e.put;
  keeps = keeps_on old mid new d.keeps e.keeps;
  goes = goes_on old.transaction mid.transaction new.transaction before middle after d.course.events e.course.events d.goes e.goes;
}

pub then_stops : (first second : Opening → State → Course → Type 0) (old new : Session) (before after : Stored) (why : Refusal) →
    Done first old before (Some why) new after → Done (Then first second) old before (Some why) new after
then_stops first second old new before after why d = record {
  course = d.course;
  part_is = λ opening is. record {
    one = d.course;
    first_is = d.part_is opening is;
    rest = subst (λ r. Follows r d.course second opening d.course) (sym d.refused_is) refl;
  };
  refused_is = d.refused_is;
  state = d.state;
  put = d.put;
  keeps = d.keeps;
  goes = d.goes;
}

-- nothing was asked and sent, and all stays
pub checked : (part : Opening → State → Course → Type 0) (old new : Session) (store : Stored) → ((opening : Opening) → IsStore opening store → part opening (state_of old) (goes [] [] (state_of old))) →
    KeepsState old new → waiting_of new ≡ waiting_of old → Done part old store None new store
checked part old new store is keeps put = record {
  course = goes [] [] (state_of old);
  part_is = is;
  refused_is = refl;
  state = state_kept old new keeps;
  put = put_nothing (waiting_of old) (waiting_of new) put;
  keeps = keeps.input;
  goes = goes_same old new store keeps.transaction;
}

-- a part was refused, with what the store had answered, and sent nothing
pub stopped : (part : Opening → State → Course → Type 0) (events : List Event) (why : Refusal) (old new : Session) (before after : Stored) →
    ((opening : Opening) → IsStore opening before → part opening (state_of old) (stops events why (state_of old))) →
    KeepsState old new → waiting_of new ≡ waiting_of old → Goes old.transaction before events new.transaction after → Done part old before (Some why) new after
stopped part events why old new before after is keeps put all = record {
  course = stops events why (state_of old);
  part_is = is;
  refused_is = refl;
  state = state_kept old new keeps;
  put = put_nothing (waiting_of old) (waiting_of new) put;
  keeps = keeps.input;
  goes = all;
}

pub keeps_itself : (old : Session) → KeepsState old old
keeps_itself old = record { phase = refl; transaction = refl; input = keeps_same old }

-- nothing was asked of the store either
pub stopped_there : (part : Opening → State → Course → Type 0) (why : Refusal) (old new : Session) (store : Stored) →
    ((opening : Opening) → IsStore opening store → part opening (state_of old) (stops [] why (state_of old))) →
    KeepsState old new → waiting_of new ≡ waiting_of old → Done part old store (Some why) new store
stopped_there part why old new store is keeps put = stopped part [] why old new store store is keeps put (goes_same old new store keeps.transaction)

-- for each tag
pub then_stops_at : (first : Tag → Opening → State → Course → Type 0) (second : Tag → Opening → State → Course → Type 0) (old new : Session) (before after : Stored) (why : Refusal) →
    Stopped first old before why new after → Stopped (λ tag_is. Then (first tag_is) (second tag_is)) old before why new after
then_stops_at first second old new before after why s = record { tag_is = s.tag_is; done = then_stops (first s.tag_is) (second s.tag_is) old new before after why s.done }
