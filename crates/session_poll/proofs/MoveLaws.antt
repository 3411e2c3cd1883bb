-- A step of the session machine, by what its rule left.
use Rattle.std.proofs.Common.{◌≡◌, ◌∙◌, ℕ, ◌≤◌, true, not, List, [], ◌++◌, length, take, drop, Option, Some, None, refl, sym, ap, subst, take-append-drop, take_all, le_of_eq}
use Rattle.pg_messages.specs.Front.{front_head, front_of}
use Rattle.pg_messages.specs.Front.{IsFront}
use Rattle.pg_messages.specs.Packet.{length_of, is_more}
use Rattle.pg_messages.specs.Startup.{startup_head, startup_of}
use Rattle.pg_messages.specs.Startup.{IsStartup}
use Rattle.pg_messages.specs.declared.back.Back.{Back}
use Rattle.pg_messages.specs.declared.decoded.Decoded.TheVariants as decoded
use Rattle.pg_messages.specs.declared.decoded.Why.{Why}
use Rattle.pg_messages.specs.declared.front.Front.{Front}
use Rattle.pg_messages.specs.declared.front.Front.TheVariants as front
use Rattle.pg_messages.specs.declared.startup.Startup.{Startup}
use Rattle.pg_messages.specs.declared.startup.Startup.TheVariants as startup
use Rattle.pg_messages.proofs.FrontLaws.{front_again}
use Rattle.pg_messages.proofs.StartupLaws.{startup_again}
use Rattle.session_poll.specs.declared.session.Session.{Session}
use Rattle.session_poll.specs.declared.state.Phase.{Phase}
use Rattle.session_poll.specs.declared.state.Phase.TheVariants as phases
use Rattle.session_poll.specs.Courses.{Course, Input, StartUp, Message, Bad, Unread, Next}
use Rattle.session_poll.specs.Packets.{is_bad, IsStartupMessage, IsQuery, IsReadAs}
use Rattle.session_transactions.specs.Goings.{Goes}
use Rattle.session_poll.specs.Parts.{Same, Drops, BeginsStartup, BeginsQuery, Skips, Takes, Moved, Idles}
use Rattle.session_poll.specs.Queries.{RunsStatement, RunsOut, EndsQuery}
use Rattle.session_replies.specs.Replies.{spelled}
use Rattle.session_replies.specs.declared.tag.Tag.{Tag}
use Rattle.store_states.specs.Stored.{Stored}
use Rattle.stored_versions.specs.Openings.{Opening}
use Rattle.session_poll.proofs.CourseLaws.{state_same}
use Rattle.session_poll.specs.Session.{state_of, held_of}
use Rattle.session_poll.specs.Standing.{works}
use Rattle.session_poll.specs.Errors.{Rejects}
use Rattle.session_poll.specs.StartUps.{StartsUp}
use Rattle.session_poll.specs.State.{State, in_phase}
use Rattle.session_poll.specs.Steps.{Handles, RefusesStart, Step}
use Rattle.vra_syntax.specs.declared.statement.Statement.{Statement}

-- the packet was dropped from what was held, and then its rule was followed
moved_by : (old mid new : Session) (before after : Stored) (phase : Phase) (input : Input) (rule : Opening → State → Course → Type 0) (count : ℕ) → old.phase ≡ phase → ((opening : Opening) (s : State) (c : Course) → rule opening s c → Step phase input opening s c) → Drops count old mid → Takes rule mid before new after → IsReadAs phase input (take count (held_of old)) → works phase (held_of old) ≡ true → Moved old before new after
moved_by old mid new before after phase input rule count is follows d t read_as worked = record {
  did = record { input = input; bytes = take count (held_of old); course = t.course };
  step = λ opening of. subst (λ p. Step p input opening (state_of old) t.course) (sym is) (follows opening (state_of old) t.course (subst (λ s. rule opening s t.course) (state_same old mid d.phase d.transaction) (t.rule_is opening of)));
  read_as = subst (λ p. IsReadAs p input (take count (held_of old))) (sym is) read_as;
  held = sym (ap (λ (h : List ℕ). take count (held_of old) ++ h) (t.keeps.held ∙ d.held) ∙ take-append-drop count (held_of old));
  state = t.state;
  put = t.put ∙ ap (λ o. o.bytes ++ spelled t.course.replies) d.output;
  over = t.keeps.over ∙ d.over;
  goes = subst (λ x. Goes x before t.course.events new.transaction after) d.transaction t.goes;
  worked = subst (λ p. works p (held_of old) ≡ true) (sym is) worked;
}

pub started : (old mid new : Session) (before after : Stored) (packet : Startup) (count : ℕ) → old.phase ≡ phases.Start → Drops count old mid → Takes (StartsUp packet) mid before new after → (count ≤ length (held_of old)) × IsStartup packet (take count (held_of old)) → startup_of (held_of old) ≡ decoded.Whole packet count → Moved old before new after
started old mid new before after packet count is d t whole read =
    moved_by old mid new before after phases.Start (StartUp packet) (StartsUp packet) count is (λ opening s c r. r) d t whole.1 (ap (λ x. not (is_more x)) read)

pub handled : (old mid new : Session) (before after : Stored) (message : Front) (count : ℕ) → old.phase ≡ phases.Ready → Drops count old mid → Takes (Handles message) mid before new after → (count ≤ length (held_of old)) × IsFront message (take count (held_of old)) → front_of (held_of old) ≡ decoded.Whole message count → Moved old before new after
handled old mid new before after message count is d t whole read =
    moved_by old mid new before after phases.Ready (Message message) (Handles message) count is (λ opening s c r. r) d t whole.1 (ap (λ x. not (is_more x)) read)

all_held : (held : List ℕ) → take (length held) held ≡ held
all_held held = take_all (length held) held (le_of_eq refl)

pub start_bad : (old mid new : Session) (before after : Stored) (place : ℕ) (cause : Why) → old.phase ≡ phases.Start → startup_of (held_of old) ≡ decoded.Bad place cause → Drops (length (held_of old)) old mid → Takes Rejects mid before new after → Moved old before new after
start_bad old mid new before after place cause is bad d t =
    moved_by old mid new before after phases.Start Bad Rejects (length (held_of old)) is (λ opening s c r. r) d t (rw (all_held (held_of old)) (ap is_bad bad)) (ap (λ x. not (is_more x)) bad)

pub message_bad : (old mid new : Session) (before after : Stored) (place : ℕ) (cause : Why) → old.phase ≡ phases.Ready → front_of (held_of old) ≡ decoded.Bad place cause → Drops (length (held_of old)) old mid → Takes Rejects mid before new after → Moved old before new after
message_bad old mid new before after place cause is bad d t =
    moved_by old mid new before after phases.Ready Bad Rejects (length (held_of old)) is (λ opening s c r. r) d t (rw (all_held (held_of old)) (ap is_bad bad)) (ap (λ x. not (is_more x)) bad)

-- a packet that wasn't read
worked_startup : (count : ℕ) (held : List ℕ) → IsStartupMessage (take count held) → not (is_more (startup_of held)) ≡ true
worked_startup count held is =
    ap (λ h. not (is_more (startup_of h))) (sym (take-append-drop count held)) ∙ ap (λ x. not (is_more x)) (startup_again (startup.Start is.pairs) (take count held) (drop count held) is.spelled)

worked_query : (count : ℕ) (held : List ℕ) → IsQuery (take count held) → not (is_more (front_of held)) ≡ true
worked_query count held is =
    ap (λ h. not (is_more (front_of h))) (sym (take-append-drop count held)) ∙ ap (λ x. not (is_more x)) (front_again (front.Query is.text) (take count held) (drop count held) is.spelled)

start_skipped : (old mid new : Session) (before after : Stored) (found : Option ℕ) → old.phase ≡ phases.Start → BeginsStartup found (held_of old) → Skips found old mid → Takes RefusesStart mid before new after → Moved old before new after
start_skipped old mid new before after None is unread s t = absurd s
start_skipped old mid new before after (Some count) is unread s t =
    moved_by old mid new before after phases.Start Unread RefusesStart count is (λ opening s c r. r) s.1 t unread (worked_startup count (held_of old) unread)

pub start_unread : (old mid new : Session) (before after : Stored) → old.phase ≡ phases.Start → BeginsStartup (length_of (startup_head (held_of old))) (held_of old) → Skips (length_of (startup_head (held_of old))) old mid → Takes RefusesStart mid before new after → Moved old before new after
start_unread old mid new before after is unread s t = start_skipped old mid new before after (length_of (startup_head (held_of old))) is unread s t

message_skipped : (old mid new : Session) (before after : Stored) (found : Option ℕ) → old.phase ≡ phases.Ready → BeginsQuery found (held_of old) → Skips found old mid → Takes RunsOut mid before new after → Moved old before new after
message_skipped old mid new before after None is unread s t = absurd s
message_skipped old mid new before after (Some count) is unread s t =
    moved_by old mid new before after phases.Ready Unread RunsOut count is (λ opening s c r. r) s.1 t unread (worked_query count (held_of old) unread)

pub message_unread : (old mid new : Session) (before after : Stored) → old.phase ≡ phases.Ready → BeginsQuery (length_of (front_head (held_of old))) (held_of old) → Skips (length_of (front_head (held_of old))) old mid → Takes RunsOut mid before new after → Moved old before new after
message_unread old mid new before after is unread s t = message_skipped old mid new before after (length_of (front_head (held_of old))) is unread s t

-- neither the next statement of a Query nor its end takes bytes
pub gone_on : (old new : Session) (before after : Stored) (first : Statement) (left : List Statement) → old.phase ≡ phases.Statements first left → Takes (λ opening s c. RunsStatement first left opening (in_phase phases.Ready s) c) old before new after → Moved old before new after
gone_on old new before after first left is t = record {
  did = record { input = Next; bytes = []; course = t.course };
  step = λ opening of. subst (λ p. Step p Next opening (state_of old) t.course) (sym is) (t.rule_is opening of);
  read_as = subst (λ p. IsReadAs p Next []) (sym is) refl;
  held = sym t.keeps.held;
  state = t.state;
  put = t.put;
  over = t.keeps.over;
  goes = t.goes;
  worked = rw is refl;
}

pub query_ended : (old new : Session) (before after : Stored) (tag_is : Tag) → old.phase ≡ phases.Query tag_is → Takes (EndsQuery tag_is) old before new after → Moved old before new after
query_ended old new before after tag_is is t = record {
  did = record { input = Next; bytes = []; course = t.course };
  step = λ opening of. subst (λ p. Step p Next opening (state_of old) t.course) (sym is) (t.rule_is opening of);
  read_as = subst (λ p. IsReadAs p Next []) (sym is) refl;
  held = sym t.keeps.held;
  state = t.state;
  put = t.put;
  over = t.keeps.over;
  goes = t.goes;
  worked = rw is refl;
}

same_itself : (old : Session) → Same old old
same_itself old = record { phase = refl; transaction = refl; waiting = refl; input = record { held = refl; over = refl } }

pub start_idle : (old : Session) (store : Stored) → old.phase ≡ phases.Start → startup_of (held_of old) ≡ decoded.More → Idles old store old store
start_idle old store is more = record {
  same = same_itself old;
  store = refl;
  idle = rw is (ap (λ d. not (is_more d)) more);
}

pub message_idle : (old : Session) (store : Stored) → old.phase ≡ phases.Ready → front_of (held_of old) ≡ decoded.More → Idles old store old store
message_idle old store is more = record {
  same = same_itself old;
  store = refl;
  idle = rw is (ap (λ d. not (is_more d)) more);
}

pub idle_ended : (old : Session) (store : Stored) → old.phase ≡ phases.Ended → Idles old store old store
idle_ended old store is = record { same = same_itself old; store = refl; idle = rw is refl }
