-- The query rule, part by part.
use Rattle.std.proofs.Common.{◌≡◌, ◌∙◌, ℕ, true, false, List, [], ◌∷◌, ◌++◌, inl, inr, ◌⊎◌, Option, Some, None, Ok, Err, refl, sym, ap, subst, true≢false, append-nil}
use Rattle.pg_messages.specs.Back.{back_bytes}
use Rattle.pg_messages.specs.declared.back.Back.{Back}
use Rattle.session_poll.proofs.CourseLaws.{done_as, goes_same, keeps_on, keeps_same, put_behind, put_nothing, put_one, put_two, state_same, takes_as, then_goes, then_stops}
use Rattle.session_poll.specs.Commits.{Ends}
use Rattle.session_poll.specs.Courses.{Course, Does, Then, goes}
use Rattle.session_poll.specs.Errors.{Closes, Fails, Rejects, Runs, failed}
use Rattle.session_poll.specs.Parts.{Done, Failed, GoesPast, IsEnded, IsReady, IsTaken, Keeps, KeepsState, Stopped, Takes, readied}
use Rattle.session_poll.specs.Queries.{AnswersStatements, AnswersText, Completes, EndsQuery, EndsWith, GoesOn, IsStatement, IsTextRead, Queries, Readies, RunsOut, RunsStatement, completed, last_of, phase_behind}
use Rattle.session_poll.specs.Session.{state_of, waiting_of}
use Rattle.session_poll.specs.State.{State, after_error, ended, in_phase, status_of}
use Rattle.session_poll.specs.Steps.{Handles, Terminates}
use Rattle.pg_messages.specs.declared.front.Front.{Front}
use Rattle.pg_messages.specs.declared.front.Front.TheVariants as front
use Rattle.session_poll.specs.declared.session.Session.{Session}
use Rattle.session_poll.specs.declared.state.Phase.TheVariants as phases
use Rattle.session_replies.specs.Errors.{Tells, Told, has_name}
use Rattle.session_replies.specs.Replies.{empty_query, error_of, out_of_memory, ready_for_query, spelled}
use Rattle.session_replies.specs.Tags.{complete}
use Rattle.session_replies.specs.declared.refusal.Refusal.{Refusal}
use Rattle.session_replies.specs.declared.refusal.Refusal.TheVariants as refusal
use Rattle.session_replies.specs.declared.tag.Tag.{Tag}
use Rattle.session_transactions.proofs.GoingLaws.{goes_on}
use Rattle.session_transactions.specs.Goings.{Goes}
use Rattle.session_transactions.specs.Transactions.{Transaction, Transaction as transactions, broken, transaction_of}
use Rattle.store_events.specs.Events.{Event}
use Rattle.store_states.specs.Stored.{Stored}
use Rattle.store_states.specs.Views.{IsStore}
use Rattle.stored_versions.specs.Openings.{Opening}
use Rattle.vra_syntax.specs.declared.statement.Statement.{Statement}
use Rattle.vschema.specs.declared.catalog.Catalog.{Catalog}

-- what the store answered, and then nothing more
goes_end : (old mid new : Session) (before middle after : Stored) (events : List Event) → Goes old.transaction before events mid.transaction middle → Goes mid.transaction middle [] new.transaction after → Goes old.transaction before events new.transaction after
goes_end old mid new before middle after events one two =
    subst (λ (e : List Event). Goes old.transaction before e new.transaction after) (append-nil events) (goes_on old.transaction mid.transaction new.transaction before middle after events [] one two)

pub runs_through : (part : Opening → State → Course → Type 0) (old new : Session) (before after : Stored) → Done part old before None new after → Takes (Runs part) old before new after
runs_through part old new before after d = record {
  course = d.course;
  rule_is = λ opening is. record { one = d.course; part_is = d.part_is opening is; closes = subst (λ r. Closes r opening d.course d.course) (sym d.refused_is) refl };
  state = d.state;
  put = d.put;
  keeps = d.keeps;
  goes = d.goes;
}

pub runs_failed : (part : Opening → State → Course → Type 0) (why : Refusal) (old mid new : Session) (before middle after : Stored) → Done part old before (Some why) mid middle → Failed why mid middle new after → Takes (Runs part) old before new after
runs_failed part why old mid new before middle after d f =
    let c : Course = failed d.course f.message in
    let ready : Back = ready_for_query (status_of (readied d.course.after).transaction) in
    record {
      course = c;
      rule_is = λ opening is. record {
        one = d.course;
        part_is = d.part_is opening is;
        closes = subst (λ r. Closes r opening d.course c) (sym d.refused_is) (record {
          message = f.message;
          told = subst (λ (k : Catalog). Tells k.features why f.message) (d.goes.leaves.catalog ∙ is.catalog) f.told;
          course = refl;
        });
      };
      state = f.state ∙ ap readied d.state;
      put = put_behind (waiting_of old) (waiting_of mid) (waiting_of new) d.course.replies (f.message ∷ ready ∷ []) d.put
          (f.put ∙ ap (λ (s : State). waiting_of mid ++ spelled (f.message ∷ ready_for_query (status_of (readied s).transaction) ∷ [])) d.state);
      keeps = keeps_on old mid new d.keeps f.keeps;
      goes = goes_end old mid new before middle after d.course.events d.goes f.goes;
    }

-- the error rule

state_readied : (old new : Session) → new.phase ≡ phases.Ready → transaction_of new.transaction ≡ broken (transaction_of old.transaction) → state_of new ≡ readied (state_of old)
state_readied old new p t = ap (λ phase. record { phase = phase; transaction = transaction_of new.transaction }) p ∙ ap (λ (x : Transaction). record { phase = phases.Ready; transaction = x }) t

pub failed_by : (why : Refusal) (old new : Session) (before after : Stored) (told : List ℕ) → Goes old.transaction before [] new.transaction after → transaction_of new.transaction ≡ broken (transaction_of old.transaction) → (t : Told after.catalog.features why (waiting_of old) told) → waiting_of new ≡ told ++ back_bytes (ready_for_query (status_of (transaction_of new.transaction))) → new.phase ≡ phases.Ready → Keeps old new → Failed why old before new after
failed_by why old new before after told all broke t put phase keeps = record {
  message = t.message;
  told = subst (λ (k : Catalog). Tells k.features why t.message) all.leaves.catalog t.tells;
  state = state_readied old new phase broke;
  put = put_two (waiting_of old) told (waiting_of new) t.message (ready_for_query (status_of (readied (state_of old)).transaction)) (put_one (waiting_of old) told t.message t.put)
      (put ∙ ap (λ (x : Transaction). told ++ back_bytes (ready_for_query (status_of x))) broke);
  keeps = keeps;
  goes = all;
}

told_memory : (names : List (List ℕ)) (message : Back) → Tells names refusal.OutOfMemory message → message ≡ out_of_memory
told_memory names message (inl is) = is
told_memory names message (inr is) = absurd (true≢false (sym is.0))

pub ran_out : (old new : Session) (before after : Stored) → Failed refusal.OutOfMemory old before new after → Takes RunsOut old before new after
ran_out old new before after f = record {
  course = failed (goes [] [] (state_of old)) f.message;
  rule_is = λ opening is. ap (failed (goes [] [] (state_of old))) (told_memory before.catalog.features f.message f.told);
  state = f.state;
  put = f.put;
  keeps = f.keeps;
  goes = f.goes;
}

-- a statement, and the Query goes on behind it

went : (tag_is : Tag) (left : List Statement) (old new : Session) (store : Stored) → GoesPast tag_is left old new → Done (GoesOn tag_is left) old store None new store
went tag_is left old new store g = record {
  course = goes [] (completed tag_is left) (in_phase (phase_behind tag_is left) (state_of old));
  part_is = λ opening is. refl;
  refused_is = refl;
  state = ap (λ phase. record { phase = phase; transaction = transaction_of new.transaction }) g.phase ∙ ap (λ it. record { phase = phase_behind tag_is left; transaction = transaction_of it }) g.transaction;
  put = g.put;
  keeps = g.keeps;
  goes = goes_same old new store g.transaction;
}

pub completes : (it : Statement) (left : List Statement) (tag_is : Tag) (old mid new : Session) (before after : Stored) → Done (IsStatement it tag_is) old before None mid after → GoesPast tag_is left mid new → Done (Completes it left) old before None new after
completes it left tag_is old mid new before after d g =
    done_as (Then (IsStatement it tag_is) (GoesOn tag_is left)) (Completes it left) old before None new after (λ opening c r. record { tag_is = tag_is; is = r })
    (then_goes (IsStatement it tag_is) (GoesOn tag_is left) old mid new before after after None d (went tag_is left mid new after g))

pub completes_not : (it : Statement) (left : List Statement) (why : Refusal) (old new : Session) (before after : Stored) → Stopped (IsStatement it) old before why new after → Done (Completes it left) old before (Some why) new after
completes_not it left why old new before after s =
    done_as (Then (IsStatement it s.tag_is) (GoesOn s.tag_is left)) (Completes it left) old before (Some why) new after (λ opening c r. record { tag_is = s.tag_is; is = r })
    (then_stops (IsStatement it s.tag_is) (GoesOn s.tag_is left) old new before after why s.done)

-- the next statement leaves its phase
pub goes_on_with : (first : Statement) (left : List Statement) (old mid new : Session) (before after : Stored) → IsTaken old mid → Takes (Runs (Completes first left)) mid before new after → Takes (λ opening s c. RunsStatement first left opening (in_phase phases.Ready s) c) old before new after
goes_on_with first left old mid new before after taken t = record {
  course = t.course;
  rule_is = λ opening is. subst (λ s. RunsStatement first left opening s t.course)
      (ap (λ phase. record { phase = phase; transaction = transaction_of mid.transaction }) taken.phase ∙ ap (λ it. record { phase = phases.Ready; transaction = transaction_of it }) taken.transaction)
      (t.rule_is opening is);
  state = t.state;
  put = t.put ∙ ap (λ o. o.bytes ++ spelled t.course.replies) taken.output;
  keeps = keeps_on old mid new taken.input t.keeps;
  goes = subst (λ x. Goes x before t.course.events new.transaction after) taken.transaction t.goes;
}

-- the end of a Query

readies : (last : Back) (old new : Session) (store : Stored) → IsReady last old new → Done (Readies (last ∷ [])) old store None new store
readies last old new store r = record {
  course = goes [] (last ∷ ready_for_query (status_of (state_of old).transaction) ∷ []) (in_phase phases.Ready (state_of old));
  part_is = λ opening is. refl;
  refused_is = refl;
  state = ap (λ phase. record { phase = phase; transaction = transaction_of new.transaction }) r.phase ∙ ap (λ it. record { phase = phases.Ready; transaction = transaction_of it }) r.transaction;
  put = r.put;
  keeps = r.keeps;
  goes = goes_same old new store r.transaction;
}

pub ends_through : (last : Option Tag) (old mid new : Session) (before after : Stored) → Done Ends old before None mid after → IsReady (last_of last) mid new → Takes (Runs (EndsWith (last_of last ∷ []))) old before new after
ends_through last old mid new before after d r =
    runs_through (EndsWith (last_of last ∷ [])) old new before after
    (then_goes Ends (Readies (last_of last ∷ [])) old mid new before after after None d (readies (last_of last) mid new after r))

pub ends_failed : (last : Option Tag) (why : Refusal) (old mid new : Session) (before middle after : Stored) → Done Ends old before (Some why) mid middle → Failed why mid middle new after → Takes (Runs (EndsWith (last_of last ∷ []))) old before new after
ends_failed last why old mid new before middle after d f =
    runs_failed (EndsWith (last_of last ∷ [])) why old mid new before middle after (then_stops Ends (Readies (last_of last ∷ [])) old mid before middle why d) f

pub ends_query : (tag_is : Tag) (old new : Session) (before after : Stored) → Takes (Runs (EndsWith (last_of (Some tag_is) ∷ []))) old before new after → Takes (EndsQuery tag_is) old before new after
ends_query tag_is old new before after t = takes_as (Runs (EndsWith (complete tag_is ∷ []))) (EndsQuery tag_is) old before new after (λ opening c r. r) t

-- the statements of a text

pub leaves : (all : List Statement) (first : Statement) (left : List Statement) (old new : Session) (store : Stored) → all ≡ first ∷ left → new.phase ≡ phases.Statements first left → new.transaction ≡ old.transaction → waiting_of new ≡ waiting_of old → Keeps old new → Takes (AnswersStatements all) old store new store
leaves all first left old new store is phase transaction waiting keeps =
    let after : State = in_phase (phases.Statements first left) (state_of old) in
    record {
      course = goes [] [] after;
      rule_is = λ opening of. subst (λ l. AnswersStatements l opening (state_of old) (goes [] [] after)) (sym is) refl;
      state = ap (λ phase. record { phase = phase; transaction = transaction_of new.transaction }) phase ∙ ap (λ it. record { phase = phases.Statements first left; transaction = transaction_of it }) transaction;
      put = put_nothing (waiting_of old) (waiting_of new) waiting;
      keeps = keeps;
      goes = goes_same old new store transaction;
    }

pub leaves_none : (all : List Statement) (old new : Session) (before after : Stored) → all ≡ [] → Takes (Runs (EndsWith (last_of None ∷ []))) old before new after → Takes (AnswersStatements all) old before new after
leaves_none all old new before after is t =
    takes_as (Runs (EndsWith (empty_query ∷ []))) (AnswersStatements all) old before new after (λ opening c r. subst (λ l. AnswersStatements l opening (state_of old) c) (sym is) r) t

-- a text, by what it is read as

read_over : (catalog other : Catalog) (text : List ℕ) (read : _) → catalog ≡ other → IsTextRead catalog.features text read → IsTextRead other.features text read
read_over catalog other text read is r = subst (λ (k : Catalog). IsTextRead k.features text read) is r

pub query_read : (text : List ℕ) (statements : List Statement) (old new : Session) (before after : Stored) → IsTextRead before.catalog.features text (Ok statements) → Takes (AnswersStatements statements) old before new after → Takes (Queries text) old before new after
query_read text statements old new before after read t = record {
  course = t.course;
  rule_is = λ opening is. record { read = Ok statements; is_read = read_over before.catalog opening.catalog text (Ok statements) is.catalog read; course = t.rule_is opening is };
  state = t.state;
  put = t.put;
  keeps = t.keeps;
  goes = t.goes;
}

pub query_refused : (text : List ℕ) (why : Refusal) (old new : Session) (before after : Stored) → IsTextRead before.catalog.features text (Err why) → Failed why old before new after → Takes (Queries text) old before new after
query_refused text why old new before after read f = record {
  course = failed (goes [] [] (state_of old)) f.message;
  rule_is = λ opening is. record {
    read = Err why;
    is_read = read_over before.catalog opening.catalog text (Err why) is.catalog read;
    course = record { message = f.message; told = subst (λ (k : Catalog). Tells k.features why f.message) is.catalog f.told; course = refl };
  };
  state = f.state;
  put = f.put;
  keeps = f.keeps;
  goes = f.goes;
}

-- the end of a session

pub is_ended : (old new : Session) (before after : Stored) → new.phase ≡ phases.Ended → transaction_of new.transaction ≡ transactions.Idle → new.output ≡ old.output → Keeps old new → Goes old.transaction before [] new.transaction after → IsEnded old before new after
is_ended old new before after phase idle output keeps all = record {
  state = ap (λ p. record { phase = p; transaction = transaction_of new.transaction }) phase ∙ ap (λ (x : Transaction). record { phase = phases.Ended; transaction = x }) idle;
  output = output;
  input = keeps;
  goes = all;
}

pub rejected : (old mid new : Session) (before after : Stored) → IsEnded mid before new after → waiting_of mid ≡ waiting_of old ++ back_bytes (error_of [] refusal.NotBuilt) → KeepsState old mid → Takes Rejects old before new after
rejected old mid new before after e put keeps = record {
  course = goes [] (error_of [] refusal.NotBuilt ∷ []) (ended (state_of old));
  rule_is = λ opening is. refl;
  state = e.state;
  put = ap (λ o. o.bytes) e.output ∙ put_one (waiting_of old) (waiting_of mid) (error_of [] refusal.NotBuilt) put;
  keeps = keeps_on old mid new keeps.input e.input;
  goes = subst (λ x. Goes x before [] new.transaction after) keeps.transaction e.goes;
}

pub terminated : (old new : Session) (before after : Stored) → IsEnded old before new after → Takes Terminates old before new after
terminated old new before after e = record {
  course = goes [] [] (ended (state_of old));
  rule_is = λ opening is. refl;
  state = e.state;
  put = put_nothing (waiting_of old) (waiting_of new) (ap (λ o. o.bytes) e.output);
  keeps = e.input;
  goes = e.goes;
}

-- a message, by what it is

pub handles_query : (message : Front) (text : List ℕ) (old new : Session) (before after : Stored) → message ≡ front.Query text → Takes (Queries text) old before new after → Takes (Handles message) old before new after
handles_query message text old new before after is t =
    subst (λ m. Takes (Handles m) old before new after) (sym is) (takes_as (Queries text) (Handles (front.Query text)) old before new after (λ opening c r. r) t)

pub handles_terminate : (message : Front) (old new : Session) (before after : Stored) → message ≡ front.Terminate → Takes Terminates old before new after → Takes (Handles message) old before new after
handles_terminate message old new before after is t =
    subst (λ m. Takes (Handles m) old before new after) (sym is) (takes_as Terminates (Handles front.Terminate) old before new after (λ opening c r. r) t)
