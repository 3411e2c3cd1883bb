-- A query of a Query: it is typed, answered and shown.
use Rattle.std.proofs.Common.{◌≡◌, ◌∙◌, ℕ, true, List, [], ◌∷◌, ◌++◌, length, take, inl, inr, Option, Some, None, Ok, Err, refl, sym, ap, subst}
use Rattle.commit_log.specs.declared.commit.Commit.{Commit}
use Rattle.live_snapshots.specs.Snapshots.{Seen}
use Rattle.query_meaning.specs.Typing.{Refuses}
use Rattle.query_meaning.specs.declared.ill.TypeRefused.{TypeRefused}
use Rattle.query_meaning.specs.declared.ill.TypeRefused.TheVariants as refused
use Rattle.query_meaning.specs.declared.typed.TypedColumn.{TypedColumn}
use Rattle.query_names.specs.declared.typed.Typed.{Typed}
use Rattle.session_poll.proofs.CourseLaws.{goes_same, keeps_itself, put_nothing, state_kept, stopped, stopped_there}
use Rattle.session_poll.specs.Courses.{Checked, Course, goes, stops}
use Rattle.session_poll.specs.Parts.{Done, KeepsState, Stopped}
use Rattle.session_poll.specs.Queries.{Answers, MayAnswer, Shows}
use Rattle.session_poll.specs.Reads.{IsAnswered}
use Rattle.session_poll.specs.Session.{state_of, waiting_of}
use Rattle.session_poll.specs.State.{State}
use Rattle.session_poll.specs.Statements.{HasSeen}
use Rattle.session_poll.specs.Typings.{HasType, IsUnanswered, Types, refusal_for}
use Rattle.session_poll.specs.declared.session.Session.{Session}
use Rattle.session_replies.specs.AnswerMessages.{answer_messages, answer_too_long}
use Rattle.session_replies.specs.Replies.{spelled}
use Rattle.session_replies.specs.Sends.{Sends}
use Rattle.session_replies.specs.declared.refusal.Refusal.{Refusal}
use Rattle.session_replies.specs.declared.refusal.Refusal.TheVariants as refusal
use Rattle.session_replies.specs.declared.tag.Tag.{Tag}
use Rattle.session_replies.specs.declared.tag.Tag.TheVariants as tag
use Rattle.session_transactions.proofs.GoingLaws.{goes_viewed, sees_all}
use Rattle.session_transactions.specs.Goings.{FitsStore, Goes}
use Rattle.session_transactions.specs.Transactions.{snap_of, transaction_of, writes_of}
use Rattle.session_transactions.specs.declared.transaction.Transaction as code
use Rattle.session_transactions.specs.declared.transaction.Transaction.TheVariants as codes
use Rattle.store_events.specs.Events.{Event, Event as event}
use Rattle.store_states.specs.Stored.{Stored, log_of}
use Rattle.store_states.specs.Views.{IsStore}
use Rattle.stored_versions.specs.Openings.{Opening}
use Rattle.store_states.specs.Views.{IsTidy}
use Rattle.transaction_answers.specs.Answers.{IsAnswer, IsAnswerOf}
use Rattle.vra_syntax.specs.declared.write.Write.{Write}
use Rattle.vra_syntax.specs.declared.query.Query.{Query}
use Rattle.vschema.specs.declared.catalog.Catalog.{Catalog}
use Rattle.vtable.specs.declared.table.VTable.{VTable}

-- as many commits as the snapshot of an open transaction sees
pub has_seen : (t : code.Transaction) (snap : Seen) (commits : List Commit) → snap_of t ≡ Some snap → length commits ≡ snap.1 → HasSeen (transaction_of t) commits
has_seen codes.Idle snap commits is n = absurd (cc is)
has_seen (codes.Implicit own writes) snap commits is n = let same : own ≡ snap = cc is in n ∙ ap (λ (s : Seen). s.1) (sym same)
has_seen (codes.Block own writes) snap commits is n = let same : own ≡ snap = cc is in n ∙ ap (λ (s : Seen). s.1) (sym same)
has_seen codes.Failed snap commits is n = absurd (cc is)

-- memory ran out
ran_out : (query : Query) (old new : Session) (store : Stored) → KeepsState old new → waiting_of new ≡ waiting_of old → Stopped (MayAnswer query) old store refusal.OutOfMemory new store
ran_out query old new store keeps put = record {
  tag_is = tag.Set;
  done = stopped_there (MayAnswer query tag.Set) refusal.OutOfMemory old new store (λ opening is. inr refl) keeps put;
}

pub no_memory : (query : Query) (old : Session) (store : Stored) → Stopped (MayAnswer query) old store refusal.OutOfMemory old store
no_memory query old store = ran_out query old old store (keeps_itself old) refl

-- the query has no type
types_over : (catalog other : Catalog) (query : Query) (why : TypeRefused) → catalog ≡ other → Types catalog query (Err why) → Types other query (Err why)
types_over catalog other query why is t = subst (λ k. Types k query (Err why)) is t

refused_as : (query : Query) (old : Session) (store : Stored) (why : TypeRefused) → Types store.catalog query (Err why) → Stopped (MayAnswer query) old store (refusal.Untyped why) old store
refused_as query old store why types = record {
  tag_is = tag.Set;
  done = stopped_there (MayAnswer query tag.Set) (refusal.Untyped why) old old store
      (λ opening is. inl (record { typing = Err why; is_typing = types_over store.catalog opening.catalog query why is.catalog types; shows = refl }))
      (keeps_itself old) refl;
}

pub untyped : (catalog : Catalog) (query : Query) (why : TypeRefused) → Refuses catalog.model [] catalog.tables query why → IsUnanswered catalog query (refusal_for why)
untyped catalog query refused.Memory is = tt
untyped catalog query (refused.TooWide count) is = is
untyped catalog query (refused.Ill why) is = is

pub unanswered : (query : Query) (old : Session) (store : Stored) (why : Refusal) → IsUnanswered store.catalog query why → Stopped (MayAnswer query) old store why old store
unanswered query old store refusal.OutOfMemory is = no_memory query old store
unanswered query old store (refusal.Untyped why) is = refused_as query old store why is
unanswered query old store refusal.NotBuilt is = absurd is
unanswered query old store refusal.NotUtf8 is = absurd is
unanswered query old store (refusal.Unparsed why) is = absurd is
unanswered query old store (refusal.TooLong n) is = absurd is
unanswered query old store refusal.TransactionFailed is = absurd is
unanswered query old store refusal.KeeperFault is = absurd is
unanswered query old store (refusal.Conflict table place) is = absurd is
unanswered query old store (refusal.CameFirst place) is = absurd is
unanswered query old store (refusal.LogFull number) is = absurd is

-- an answer was made
pub answered_by : (t : code.Transaction) (store : Stored) (query : Query) (snap : Seen) (own : List Write) (typed : Typed) (answer : VTable) → snap_of t ≡ Some snap → writes_of (transaction_of t) ≡ own → IsTidy store → HasType store.catalog query typed.columns typed.plan → IsAnswerOf store snap own typed answer → IsAnswered t store query typed answer
answered_by t store query snap own typed answer has writes tidy has_type is = record {
  snap = snap;
  has_snap = has;
  tidy = tidy;
  has_type = has_type;
  answers = λ opening of. subst (λ (w : List Write). IsAnswer opening (take snap.1 (log_of store)) w query typed.columns answer) (sym writes) (is.answers opening query of has_type);
}

abbrev seen_by : Stored → Seen → List Commit
seen_by store snap = take snap.1 (log_of store)

typed_as : (opening : Opening) (store : Stored) (query : Query) (typed : Typed) → IsStore opening store → HasType store.catalog query typed.columns typed.plan → Types opening.catalog query (Ok typed.columns)
typed_as opening store query typed is has = subst (λ k. Types k query (Ok typed.columns)) is.catalog (record { plan = typed.plan; has_type = has })

goes_seen : (old : Session) (store : Stored) (query : Query) (typed : Typed) (answer : VTable) → FitsStore old.transaction store → (is : IsAnswered old.transaction store query typed answer) → Goes old.transaction store (event.Viewed (seen_by store is.snap) ∷ []) old.transaction store
goes_seen old store query typed answer fits is = goes_viewed old.transaction store is.snap fits is.tidy is.has_snap

seen_enough : (old : Session) (store : Stored) (query : Query) (typed : Typed) (answer : VTable) → FitsStore old.transaction store → (is : IsAnswered old.transaction store query typed answer) → HasSeen (state_of old).transaction (seen_by store is.snap)
seen_enough old store query typed answer fits is = has_seen old.transaction is.snap (seen_by store is.snap) is.has_snap (sees_all old.transaction store is.snap fits is.tidy is.has_snap)

-- and shown
shows : (opening : Opening) (query : Query) (columns : List TypedColumn) (commits : List Commit) (answer : VTable) (old : State) → HasSeen old.transaction commits → IsAnswer opening commits (writes_of old.transaction) query columns answer → answer_too_long opening.catalog.features columns answer ≡ None →
    Shows query columns (tag.Select (length answer.rows)) opening old (goes (event.Viewed commits ∷ []) (answer_messages opening.catalog.features columns answer) old)
shows opening query columns commits answer old seen is short = record {
  commits = commits;
  answer = answer;
  is_answer = is;
  tagged = refl;
  shown = record {
    one = goes (event.Viewed commits ∷ []) [] old;
    first_is = (refl, seen);
    rest = (
      goes [] (answer_messages opening.catalog.features columns answer) old,
      record {
        one = goes [] [] old;
        first_is = subst (λ long. Checked long opening old (goes [] [] old)) (sym short) refl;
        rest = (goes [] (answer_messages opening.catalog.features columns answer) old, refl, refl);
      },
      refl,
    );
  };
}

pub shown : (query : Query) (typed : Typed) (answer : VTable) (old new : Session) (store : Stored) → FitsStore old.transaction store → IsAnswered old.transaction store query typed answer → answer_too_long store.catalog.features typed.columns answer ≡ None → waiting_of new ≡ waiting_of old ++ spelled (answer_messages store.catalog.features typed.columns answer) → KeepsState old new → Done (MayAnswer query (tag.Select (length answer.rows))) old store None new store
shown query typed answer old new store fits is short put keeps = record {
  course = goes (event.Viewed (seen_by store is.snap) ∷ []) (answer_messages store.catalog.features typed.columns answer) (state_of old);
  part_is = λ opening of. inl (record {
    typing = Ok typed.columns;
    is_typing = typed_as opening store query typed of is.has_type;
    shows = subst (λ (k : Catalog). Shows query typed.columns (tag.Select (length answer.rows)) opening (state_of old) (goes (event.Viewed (seen_by store is.snap) ∷ []) (answer_messages k.features typed.columns answer) (state_of old))) (sym of.catalog)
        (shows opening query typed.columns (seen_by store is.snap) answer (state_of old) (seen_enough old store query typed answer fits is) (is.answers opening of)
        (subst (λ (k : Catalog). answer_too_long k.features typed.columns answer ≡ None) of.catalog short));
  });
  refused_is = refl;
  state = state_kept old new keeps;
  put = put;
  keeps = keeps.input;
  goes = subst (λ t. Goes old.transaction store (event.Viewed (seen_by store is.snap) ∷ []) t store) (sym keeps.transaction) (goes_seen old store query typed answer fits is);
}

-- a message is too long
shows_long : (opening : Opening) (query : Query) (columns : List TypedColumn) (commits : List Commit) (answer : VTable) (why : Refusal) (old : State) → HasSeen old.transaction commits → IsAnswer opening commits (writes_of old.transaction) query columns answer → answer_too_long opening.catalog.features columns answer ≡ Some why →
    Shows query columns (tag.Select (length answer.rows)) opening old (stops (event.Viewed commits ∷ []) why old)
shows_long opening query columns commits answer why old seen is long = record {
  commits = commits;
  answer = answer;
  is_answer = is;
  tagged = refl;
  shown = record {
    one = goes (event.Viewed commits ∷ []) [] old;
    first_is = (refl, seen);
    rest = (
      stops [] why old,
      record {
        one = stops [] why old;
        first_is = subst (λ l. Checked l opening old (stops [] why old)) (sym long) refl;
        rest = refl;
      },
      refl,
    );
  };
}

long_shown : (query : Query) (typed : Typed) (answer : VTable) (why : Refusal) (old new : Session) (store : Stored) → FitsStore old.transaction store → IsAnswered old.transaction store query typed answer → answer_too_long store.catalog.features typed.columns answer ≡ Some why → waiting_of new ≡ waiting_of old → KeepsState old new → Stopped (MayAnswer query) old store why new store
long_shown query typed answer why old new store fits is long put keeps = record {
  tag_is = tag.Select (length answer.rows);
  done = stopped (MayAnswer query (tag.Select (length answer.rows))) (event.Viewed (seen_by store is.snap) ∷ []) why old new store store
      (λ opening of. inl (record {
        typing = Ok typed.columns;
        is_typing = typed_as opening store query typed of is.has_type;
        shows = shows_long opening query typed.columns (seen_by store is.snap) answer why (state_of old) (seen_enough old store query typed answer fits is) (is.answers opening of)
            (subst (λ (k : Catalog). answer_too_long k.features typed.columns answer ≡ Some why) of.catalog long);
      }))
      keeps put
      (subst (λ t. Goes old.transaction store (event.Viewed (seen_by store is.snap) ∷ []) t store) (sym keeps.transaction) (goes_seen old store query typed answer fits is));
}

pub too_long_shown : (query : Query) (typed : Typed) (answer : VTable) (why : Refusal) (old new : Session) (store : Stored) → FitsStore old.transaction store → IsAnswered old.transaction store query typed answer → Sends (answer_too_long store.catalog.features typed.columns answer) (Err why) → waiting_of new ≡ waiting_of old → KeepsState old new → Stopped (MayAnswer query) old store why new store
too_long_shown query typed answer refusal.OutOfMemory old new store fits is s put keeps = ran_out query old new store keeps put
too_long_shown query typed answer refusal.NotBuilt old new store fits is s put keeps = long_shown query typed answer refusal.NotBuilt old new store fits is s put keeps
too_long_shown query typed answer refusal.NotUtf8 old new store fits is s put keeps = long_shown query typed answer refusal.NotUtf8 old new store fits is s put keeps
too_long_shown query typed answer (refusal.Unparsed why) old new store fits is s put keeps = long_shown query typed answer (refusal.Unparsed why) old new store fits is s put keeps
too_long_shown query typed answer (refusal.Untyped why) old new store fits is s put keeps = long_shown query typed answer (refusal.Untyped why) old new store fits is s put keeps
too_long_shown query typed answer (refusal.TooLong n) old new store fits is s put keeps = long_shown query typed answer (refusal.TooLong n) old new store fits is s put keeps
too_long_shown query typed answer refusal.TransactionFailed old new store fits is s put keeps = long_shown query typed answer refusal.TransactionFailed old new store fits is s put keeps
too_long_shown query typed answer refusal.KeeperFault old new store fits is s put keeps = long_shown query typed answer refusal.KeeperFault old new store fits is s put keeps
too_long_shown query typed answer (refusal.Conflict table place) old new store fits is s put keeps = long_shown query typed answer (refusal.Conflict table place) old new store fits is s put keeps
too_long_shown query typed answer (refusal.CameFirst place) old new store fits is s put keeps = long_shown query typed answer (refusal.CameFirst place) old new store fits is s put keeps
too_long_shown query typed answer (refusal.LogFull number) old new store fits is s put keeps = long_shown query typed answer (refusal.LogFull number) old new store fits is s put keeps
