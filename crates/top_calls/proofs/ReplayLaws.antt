-- A replay, step by step.
use Rattle.std.proofs.Common.{◌≡◌, ◌∙◌, ℕ, zero, suc, ◌+◌, ◌<◌, ◌≤◌, Bool, true, false, not, ◌&&◌, ◌||◌, List, [], ◌∷◌, ◌++◌, length, take, drop, Option, Some, None, inl, inr, ◌⊎◌, refl, sym, ap, subst, append_assoc, append-nil, take-append-drop, take_all, take-add, le_of_eq, drop_of_length-le, true≢false, arith}
use Rattle.std.specs.Io.KnownBytes.{Appends, Keeps}
use Rattle.std.proofs.KnownBytes.{Appends-trans, Appends-nil}
use Rattle.session_replies.specs.Output.{is_empty}
use Rattle.session_poll.proofs.RunLaws.{events_on}
use Rattle.session_transactions.proofs.GoingLaws.{ties_itself}
use Rattle.store_events.proofs.TieLaws.{ties_on}
use Rattle.store_events.specs.Events.{Event}
use Rattle.store_events.specs.Ties.{Moment, Ties}
use Rattle.store_states.specs.Stored.{Stored}
use Rattle.store_states.specs.Views.{IsStore}
use Rattle.stored_versions.specs.Openings.{Opening}
use Rattle.session_poll.specs.Polls.{Polls}
use Rattle.session_poll.specs.Runs.{Did, bytes_read, events_of, IsAt}
use Rattle.session_poll.specs.Session.{held_of, waiting_of, is_over}
use Rattle.session_poll.specs.Standing.{works, is_ended, polled_as, standing_of, Says}
use Rattle.session_poll.specs.State.{State}
use Rattle.session_poll.specs.declared.polled.Polled.{Polled}
use Rattle.session_poll.specs.declared.polled.Polled.TheVariants as polled
use Rattle.session_poll.specs.declared.session.Session.{Session}
use Rattle.session_poll.specs.declared.state.Phase.{Phase}
use Rattle.session_poll.specs.declared.state.Phase.TheVariants as phases
use Rattle.top_calls.specs.Replays.{PutsFront, ReplaysFrom, ReplaysAllFrom, InReplay, GoesOn, Stops}

appends_none : (before after : Option (List ℕ)) → Keeps before after → Appends before after []
appends_none None after keeps = tt
appends_none (Some xs) None keeps = absurd keeps
appends_none (Some xs) (Some ys) keeps = keeps ∙ sym (append-nil xs)

-- nothing was put
pub front_none : (piece : List ℕ) (before after : Option (List ℕ)) → Keeps before after → PutsFront piece before after
front_none piece before after keeps = record { front = []; back = piece; parts = refl; put = appends_none before after keeps }

-- the first bytes of a piece, and then those of the rest
pub front_rest : (before mid after : Option (List ℕ)) (count : ℕ) (piece : List ℕ) → Appends before mid (take count piece) → PutsFront (drop count piece) mid after → PutsFront piece before after
front_rest before mid after count piece first rest = record {
  front = take count piece ++ rest.front;
  back = rest.back;
  parts = sym (take-append-drop count piece) ∙ ap (λ (b : List ℕ). take count piece ++ b) rest.parts ∙ sym (append_assoc (take count piece) rest.front rest.back);
  put = Appends-trans before mid after (take count piece) rest.front first rest.put;
}

-- all that a session was fed, and the rest of the stream
input_of : (opening : Opening) (stream : List ℕ) (fed : ℕ) (taken : List ℕ) (run : List Did) (session : Session) → IsAt opening (take fed stream) taken run session → stream ≡ bytes_read run ++ (held_of session ++ drop fed stream)
input_of opening stream fed taken run session is =
    sym (take-append-drop fed stream) ∙ ap (λ (f : List ℕ). f ++ drop fed stream) is.input ∙ append_assoc (bytes_read run) (held_of session) (drop fed stream)

pub replays_so_far : (opening : Opening) (stream : List ℕ) (fed : ℕ) (first last : Moment) (start now : Option (List ℕ)) (session : Session) → InReplay opening stream fed first last start now session → ReplaysFrom opening stream first last start now
replays_so_far opening stream fed first last start now session is = record {
  run = is.run;
  is_run = is.at.is_run;
  ties = is.ties;
  rest = held_of session ++ drop fed stream;
  input = input_of opening stream fed is.taken is.run session is.at;
  sent = is.taken;
  unsent = waiting_of session;
  output = is.at.output;
  put = is.put;
}

pub replays_front : (opening : Opening) (stream : List ℕ) (fed : ℕ) (first last : Moment) (start before after : Option (List ℕ)) (session : Session) → InReplay opening stream fed first last start before session → PutsFront (waiting_of session) before after → ReplaysFrom opening stream first last start after
replays_front opening stream fed first last start before after session is front = record {
  run = is.run;
  is_run = is.at.is_run;
  ties = is.ties;
  rest = held_of session ++ drop fed stream;
  input = input_of opening stream fed is.taken is.run session is.at;
  sent = is.taken ++ front.front;
  unsent = front.back;
  output = is.at.output ∙ ap (λ (w : List ℕ). is.taken ++ w) front.parts ∙ sym (append_assoc is.taken front.front front.back);
  put = Appends-trans start before after is.taken front.front is.put front.put;
}

pub stops_in : (stream : List ℕ) (fed : ℕ) (before after : Option (List ℕ)) (session : Session) → PutsFront (waiting_of session) before after → Stops stream fed before session after session
stops_in stream fed before after session front = record {
  on = λ opening first last start is. replays_front opening stream fed first last start before after session is front;
  transaction = refl;
}

-- a poll
pub polled_on : (opening : Opening) (stream : List ℕ) (fed : ℕ) (first : Moment) (start now : Option (List ℕ)) (old new : Session) (before after : Stored) (result : Polled) → IsStore opening before → Polls old before result new after → InReplay opening stream fed first before.moment start now old → InReplay opening stream fed first after.moment start now new
polled_on opening stream fed first start now old new before after result of p is = record {
  run = is.run ++ p.did;
  taken = is.taken;
  at = p.on opening of (take fed stream) is.taken is.run is.at;
  ties = subst (λ (e : List Event). Ties first e after.moment) (sym (events_on is.run p.did)) (ties_on first before.moment after.moment (events_of is.run) (events_of p.did) is.ties p.goes.ties);
  put = is.put;
  over = λ over. is.over (sym p.over ∙ over);
}

pub same_on : (stream : List ℕ) (fed : ℕ) (now : Option (List ℕ)) (session : Session) → GoesOn stream fed now session fed now session
same_on stream fed now session = record { on = λ opening first last start is. is; transaction = refl }

-- all that waited was put, and taken
pub sent_on : (stream : List ℕ) (fed count : ℕ) (before after : Option (List ℕ)) (old new : Session) → ((opening : Opening) (fed' taken : List ℕ) (run : List Did) → IsAt opening fed' taken run old → IsAt opening fed' (taken ++ take count (waiting_of old)) run new) → count ≡ length (waiting_of old) → is_over new ≡ is_over old → new.transaction ≡ old.transaction → Appends before after (waiting_of old) → GoesOn stream fed before old fed after new
sent_on stream fed count before after old new on whole over kept put = record {
  transaction = kept;
  on = λ opening first last start is. record {
    run = is.run;
    taken = is.taken ++ waiting_of old;
    ties = is.ties;
    at = subst (λ w. IsAt opening (take fed stream) (is.taken ++ w) is.run new) (take_all count (waiting_of old) (le_of_eq (sym whole))) (on opening (take fed stream) is.taken is.run is.at);
    put = Appends-trans start before after is.taken (waiting_of old) is.put put;
    over = λ is_over. is.over (sym over ∙ is_over);
  };
}

take_front : (count n : ℕ) (bytes : List ℕ) → count ≤ length (take n bytes) → take count (take n bytes) ≡ take count bytes
take_front zero n bytes within = refl
take_front (suc count) zero bytes within = absurd (omega (arith, within))
take_front (suc count) (suc n) [] within = refl
take_front (suc count) (suc n) (byte ∷ bytes) within = ap (λ (b : List ℕ). byte ∷ b) (take_front count n bytes (omega (arith, within)))

-- a piece of the stream was fed
pub fed_on : (stream piece : List ℕ) (fed most count : ℕ) (now : Option (List ℕ)) (old new : Session) → ((opening : Opening) (fed' taken : List ℕ) (run : List Did) → IsAt opening fed' taken run old → IsAt opening (fed' ++ take count piece) taken run new) → is_over new ≡ is_over old → new.transaction ≡ old.transaction → fed < length stream → piece ≡ take most (drop fed stream) → count ≤ length piece → GoesOn stream fed now old (fed + count) now new
fed_on stream piece fed most count now old new on over kept within is_piece fits =
    let same : take count piece ≡ take count (drop fed stream) = ap (λ (p : List ℕ). take count p) is_piece ∙ take_front count most (drop fed stream) (subst (λ p. count ≤ length p) is_piece fits) in
    record {
      transaction = kept;
      on = λ opening first last start is. record {
        run = is.run;
        taken = is.taken;
        ties = is.ties;
        at = subst (λ f. IsAt opening f is.taken is.run new) (ap (λ (p : List ℕ). take fed stream ++ p) same ∙ sym (take-add fed count stream)) (on opening (take fed stream) is.taken is.run is.at);
        put = is.put;
        over = λ is_over. let whole = is.over (sym over ∙ is_over) in absurd (omega (arith, within, whole));
      };
    }

-- the stream has ended
pub ended_on : (stream : List ℕ) (fed : ℕ) (now : Option (List ℕ)) (old new : Session) → fed ≡ length stream → ((opening : Opening) (fed' taken : List ℕ) (run : List Did) → IsAt opening fed' taken run old → IsAt opening fed' taken run new) → new.transaction ≡ old.transaction → GoesOn stream fed now old fed now new
ended_on stream fed now old new whole on kept = record {
  transaction = kept;
  on = λ opening first last start is. record {
    run = is.run;
    taken = is.taken;
    ties = is.ties;
    at = on opening (take fed stream) is.taken is.run is.at;
    put = is.put;
    over = λ is_over. whole;
  };
}

-- before the first packet
pub at_first : (opening : Opening) (stream : List ℕ) (first : Moment) (now : Option (List ℕ)) (session : Session) → IsAt opening [] [] [] session → is_over session ≡ false → InReplay opening stream 0 first first now now session
at_first opening stream first now session is over = record {
  run = [];
  taken = [];
  at = is;
  ties = ties_itself first;
  put = Appends-nil now;
  over = λ is_over. absurd (true≢false (sym is_over ∙ over));
}

-- nothing was run
pub from_nothing : (opening : Opening) (stream : List ℕ) (first : Moment) (now : Option (List ℕ)) → ReplaysFrom opening stream first first now now
from_nothing opening stream first now = record {
  run = [];
  is_run = tt;
  ties = ties_itself first;
  rest = stream;
  input = refl;
  sent = [];
  unsent = [];
  output = refl;
  put = Appends-nil now;
}

-- A session that is closed has ended, or has nothing left to do at the end of its input, and no output waits.
abbrev is_closed : Polled → Bool
is_closed polled.NeedInput = false
is_closed polled.NeedOutput = false
is_closed polled.Closed = true
is_closed polled.Again = false

not_closed : (result : Polled) → is_closed result ≡ false → result ≡ polled.Closed → ⊥
not_closed result other is = true≢false (ap is_closed (sym is) ∙ other)

stands_closed : (work ended quiet : Bool) → polled_as work ended quiet ≡ polled.Closed → (work ≡ false) × (ended ≡ true) × (quiet ≡ true)
stands_closed true ended quiet is = absurd (not_closed polled.Again refl is)
stands_closed false ended false is = absurd (not_closed polled.NeedOutput refl is)
stands_closed false true true is = (refl, refl, refl)
stands_closed false false true is = absurd (not_closed polled.NeedInput refl is)

ended_works : (phase : Phase) (held : List ℕ) → is_ended phase ≡ true → works phase held ≡ false
ended_works phases.Start held is = absurd (true≢false (sym is))
ended_works phases.Ready held is = absurd (true≢false (sym is))
ended_works (phases.Statements first left) held is = absurd (true≢false (sym is))
ended_works (phases.Query tag) held is = absurd (true≢false (sym is))
ended_works phases.Ended held is = refl

nothing_left : (work ended over : Bool) → work ≡ false → (ended || over && not work) ≡ true → (ended ≡ true) ⊎ (over ≡ true)
nothing_left work true over none is = inl refl
nothing_left work false true none is = inr refl
nothing_left work false false none is = absurd (true≢false (sym is))

nothing_waits : (waiting : List ℕ) → is_empty waiting ≡ true → waiting ≡ []
nothing_waits [] is = refl
nothing_waits (byte ∷ bytes) is = absurd (true≢false (sym is))

says_closed : (moved : Bool) (session : Session) → Says moved polled.Closed session → standing_of session ≡ polled.Closed
says_closed true session is = sym is
says_closed false session (inl is) = sym is
says_closed false session (inr full) = absurd (not_closed polled.NeedOutput refl (sym full.0))

read_out_by : (phase : Phase) (held left : List ℕ) → works phase held ≡ false → (is_ended phase ≡ true) ⊎ (left ≡ []) → works phase (held ++ left) ≡ false
read_out_by phase held left none (inl ended) = ended_works phase (held ++ left) ended
read_out_by phase held left none (inr whole) = rw whole (rw (append-nil held) none)

whole_stream : (ended over : Bool) (stream : List ℕ) (fed : ℕ) → (ended ≡ true) ⊎ (over ≡ true) → (over ≡ true → fed ≡ length stream) → (ended ≡ true) ⊎ (drop fed stream ≡ [])
whole_stream ended over stream fed (inl is) whole = inl is
whole_stream ended over stream fed (inr is) whole = inr (drop_of_length-le stream (le_of_eq (sym (whole is))))

pub closed_all : (opening : Opening) (stream : List ℕ) (fed : ℕ) (first last : Moment) (start now : Option (List ℕ)) (session : Session) → InReplay opening stream fed first last start now session → (moved : Bool) → Says moved polled.Closed session → ReplaysAllFrom opening stream first last start now
closed_all opening stream fed first last start now session is moved says =
    let facts = stands_closed (works session.phase (held_of session)) (is_ended session.phase || is_over session && not (works session.phase (held_of session))) (is_empty (waiting_of session)) (says_closed moved session says) in
    let left = whole_stream (is_ended session.phase) (is_over session) stream fed (nothing_left (works session.phase (held_of session)) (is_ended session.phase) (is_over session) facts.0 facts.1) is.over in
    record {
      begun = record {
        run = is.run;
        is_run = is.at.is_run;
        ties = is.ties;
        rest = held_of session ++ drop fed stream;
        input = input_of opening stream fed is.taken is.run session is.at;
        sent = is.taken;
        unsent = waiting_of session;
        output = is.at.output;
        put = is.put;
      };
      sent_all = nothing_waits (waiting_of session) facts.2;
      read_out = subst (λ (s : State). works s.phase (held_of session ++ drop fed stream) ≡ false) is.at.state (read_out_by session.phase (held_of session) (drop fed stream) facts.0 left);
    }
