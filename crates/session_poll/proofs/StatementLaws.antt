-- A statement, by what it is.
use Rattle.std.proofs.Common.{◌≡◌, ◌∙◌, ℕ, true, [], ◌∷◌, ◌++◌, List, inl, inr, Option, Some, None, Result, Ok, Err, IfOk, IfErr, refl, sym, ap, subst}
use Rattle.session_poll.proofs.CourseLaws.{state_in, checked, done_as, keeps_itself, keeps_same, put_nothing, state_same, stopped_there, then_goes, then_stops}
use Rattle.session_poll.specs.Begins.{Begins}
use Rattle.session_poll.specs.Commits.{Commits}
use Rattle.session_poll.specs.Courses.{Checked, Course, Does, OrMemory, goes, stops}
use Rattle.session_poll.specs.Parts.{Done, Keeps, KeepsPhase, KeepsState, Stopped}
use Rattle.session_poll.specs.Queries.{Acts, IsStatement, MayAnswer, MayWrite, RunsHere}
use Rattle.session_poll.specs.Session.{state_of, waiting_of}
use Rattle.session_poll.specs.State.{State, between, in_transaction}
use Rattle.session_poll.specs.Statements.{BeginsBlock, CommitsBlock, IsAllowed, RollsBack, Sets, refused_in}
use Rattle.session_poll.specs.Tags.{commit_tag}
use Rattle.session_poll.specs.declared.session.Session.{Session}
use Rattle.session_replies.specs.declared.refusal.Refusal.{Refusal}
use Rattle.session_replies.specs.declared.tag.Tag.{Tag}
use Rattle.session_replies.specs.declared.tag.Tag.TheVariants as tag
use Rattle.session_transactions.proofs.GoingLaws.{goes_same as goes_alone}
use Rattle.session_transactions.specs.Goings.{FitsStore, Goes, IsHeld}
use Rattle.session_transactions.specs.Transactions.{Transaction, Transaction as transactions, blocked, snap_of, transaction_of, writes_of}
use Rattle.store_states.specs.Stored.{Stored}
use Rattle.stored_versions.specs.Logs.{all_taken}
use Rattle.stored_versions.specs.Openings.{Opening}
use Rattle.vra_syntax.specs.declared.query.Query.{Query}
use Rattle.vra_syntax.specs.declared.statement.Statement.{Statement}
use Rattle.vra_syntax.specs.declared.statement.Statement.TheVariants as statement
use Rattle.vra_syntax.specs.declared.write.Write.{Write}

-- whether it is allowed

allowed : (it : Statement) (old : Session) (store : Stored) → refused_in (transaction_of old.transaction) it ≡ None → Done (IsAllowed it) old store None old store
allowed it old store none =
    checked (IsAllowed it) old old store (λ opening is. subst (λ r. Checked r opening (state_of old) (goes [] [] (state_of old))) (sym none) refl) (keeps_itself old) refl

pub runs : (it : Statement) (tag_is : Tag) (old new : Session) (before after : Stored) → refused_in (transaction_of old.transaction) it ≡ None → Done (RunsHere it tag_is) old before None new after → Done (IsStatement it tag_is) old before None new after
runs it tag_is old new before after none d = then_goes (IsAllowed it) (RunsHere it tag_is) old old new before before after None (allowed it old before none) d

pub runs_not : (it : Statement) (why : Refusal) (old new : Session) (before after : Stored) → refused_in (transaction_of old.transaction) it ≡ None → Stopped (RunsHere it) old before why new after → Stopped (IsStatement it) old before why new after
runs_not it why old new before after none s = record {
  tag_is = s.tag_is;
  done = then_goes (IsAllowed it) (RunsHere it s.tag_is) old old new before before after (Some why) (allowed it old before none) s.done;
}

pub refused : (it : Statement) (why : Refusal) (old : Session) (store : Stored) → refused_in (transaction_of old.transaction) it ≡ Some why → Stopped (IsStatement it) old store why old store
refused it why old store some = record {
  tag_is = tag.Set;
  done = then_stops (IsAllowed it) (RunsHere it tag.Set) old old store store why
      (stopped_there (IsAllowed it) why old old store (λ opening is. subst (λ r. Checked r opening (state_of old) (stops [] why (state_of old))) (sym some) refl) (keeps_itself old) refl);
}

-- in a transaction

pub acts : (it : Statement) (tag_is : Tag) (old mid new : Session) (before middle after : Stored) → Done Begins old before None mid middle → Done (Acts it tag_is) mid middle None new after → Done (RunsHere it tag_is) old before None new after
acts it tag_is old mid new before middle after d e = then_goes Begins (Acts it tag_is) old mid new before middle after None d e

pub acts_not : (it : Statement) (why : Refusal) (old mid new : Session) (before middle after : Stored) → Done Begins old before None mid middle → Stopped (Acts it) mid middle why new after → Stopped (RunsHere it) old before why new after
acts_not it why old mid new before middle after d s = record {
  tag_is = s.tag_is;
  done = then_goes Begins (Acts it s.tag_is) old mid new before middle after (Some why) d s.done;
}

pub begins_not : (it : Statement) (why : Refusal) (old new : Session) (before after : Stored) → Done Begins old before (Some why) new after → Stopped (RunsHere it) old before why new after
begins_not it why old new before after d = record { tag_is = tag.Set; done = then_stops Begins (Acts it tag.Set) old new before after why d }

-- whatever comes of it

pub acts_ok : (it : Statement) (result : Result Tag Refusal) (old mid new : Session) (before middle after : Stored) → Done Begins old before None mid middle → IfOk result (λ tag_is. Done (Acts it tag_is) mid middle None new after) → IfOk result (λ tag_is. Done (RunsHere it tag_is) old before None new after)
acts_ok it (Ok tag_is) old mid new before middle after d e = acts it tag_is old mid new before middle after d e
acts_ok it (Err why) old mid new before middle after d e = e

pub runs_ok : (it : Statement) (result : Result Tag Refusal) (old new : Session) (before after : Stored) → refused_in (transaction_of old.transaction) it ≡ None → IfOk result (λ tag_is. Done (RunsHere it tag_is) old before None new after) → IfOk result (λ tag_is. Done (IsStatement it tag_is) old before None new after)
runs_ok it (Ok tag_is) old new before after none e = runs it tag_is old new before after none e
runs_ok it (Err why) old new before after none e = e

-- by what it is

acts_as : (it known : Statement) (part : Opening → State → Course → Type 0) (tag_is : Tag) (old new : Session) (before after : Stored) (refused : Option Refusal) → it ≡ known →
    ((opening : Opening) (c : Course) → part opening (state_of old) c → Acts known tag_is opening (state_of old) c) → Done part old before refused new after → Done (Acts it tag_is) old before refused new after
acts_as it known part tag_is old new before after refused is follows d =
    subst (λ s. Done (Acts s tag_is) old before refused new after) (sym is) (done_as part (Acts known tag_is) old before refused new after follows d)

pub shows : (it : Statement) (query : Query) (tag_is : Tag) (old new : Session) (before after : Stored) → it ≡ statement.Query query → Done (MayAnswer query tag_is) old before None new after → Done (Acts it tag_is) old before None new after
shows it query tag_is old new before after is d = acts_as it (statement.Query query) (MayAnswer query tag_is) tag_is old new before after None is (λ opening c r. r) d

pub shows_not : (it : Statement) (query : Query) (why : Refusal) (old new : Session) (before after : Stored) → it ≡ statement.Query query → Stopped (MayAnswer query) old before why new after → Stopped (Acts it) old before why new after
shows_not it query why old new before after is s = record {
  tag_is = s.tag_is;
  done = acts_as it (statement.Query query) (MayAnswer query s.tag_is) s.tag_is old new before after (Some why) is (λ opening c r. r) s.done;
}

pub writes : (it : Statement) (w : Write) (tag_is : Tag) (old new : Session) (before after : Stored) → it ≡ statement.Write w → Done (MayWrite w tag_is) old before None new after → Done (Acts it tag_is) old before None new after
writes it w tag_is old new before after is d = acts_as it (statement.Write w) (MayWrite w tag_is) tag_is old new before after None is (λ opening c r. r) d

pub writes_not : (it : Statement) (w : Write) (why : Refusal) (old new : Session) (before after : Stored) → it ≡ statement.Write w → Stopped (MayWrite w) old before why new after → Stopped (Acts it) old before why new after
writes_not it w why old new before after is s = record {
  tag_is = s.tag_is;
  done = acts_as it (statement.Write w) (MayWrite w s.tag_is) s.tag_is old new before after (Some why) is (λ opening c r. r) s.done;
}

pub blocks : (it : Statement) (tag_is : Tag) (old new : Session) (before after : Stored) → it ≡ statement.Begin → Done (BeginsBlock tag_is) old before None new after → Done (Acts it tag_is) old before None new after
blocks it tag_is old new before after is d = acts_as it statement.Begin (BeginsBlock tag_is) tag_is old new before after None is (λ opening c r. r) d

pub commits : (it : Statement) (tag_is : Tag) (old new : Session) (before after : Stored) → it ≡ statement.Commit → Done (CommitsBlock tag_is) old before None new after → Done (Acts it tag_is) old before None new after
commits it tag_is old new before after is d = acts_as it statement.Commit (CommitsBlock tag_is) tag_is old new before after None is (λ opening c r. r) d

pub commits_not : (it : Statement) (why : Refusal) (old new : Session) (before after : Stored) → it ≡ statement.Commit → Stopped CommitsBlock old before why new after → Stopped (Acts it) old before why new after
commits_not it why old new before after is s = record {
  tag_is = s.tag_is;
  done = acts_as it statement.Commit (CommitsBlock s.tag_is) s.tag_is old new before after (Some why) is (λ opening c r. r) s.done;
}

pub rolls_back : (it : Statement) (tag_is : Tag) (old new : Session) (before after : Stored) → it ≡ statement.Rollback → Done (RollsBack tag_is) old before None new after → Done (Acts it tag_is) old before None new after
rolls_back it tag_is old new before after is d = acts_as it statement.Rollback (RollsBack tag_is) tag_is old new before after None is (λ opening c r. r) d

-- SET does nothing
pub sets : (it : Statement) (old : Session) (store : Stored) → it ≡ statement.Set → Done (Acts it tag.Set) old store None old store
sets it old store is =
    acts_as it statement.Set (Sets tag.Set) tag.Set old old store store None is (λ opening c r. r)
    (checked (Sets tag.Set) old old store (λ opening of. record { tagged = refl; does = inl refl }) (keeps_itself old) refl)

pub writes_err : (it : Statement) (w : Write) (result : Result Tag Refusal) (old new : Session) (before after : Stored) → it ≡ statement.Write w → IfErr result (λ why. Stopped (MayWrite w) old before why new after) → IfErr result (λ why. Stopped (Acts it) old before why new after)
writes_err it w (Ok tag_is) old new before after is e = e
writes_err it w (Err why) old new before after is e = writes_not it w why old new before after is e

-- BEGIN

same_writes : (t : Transaction) → writes_of (blocked t) ≡ writes_of t
same_writes transactions.Idle = refl
same_writes (transactions.Implicit snapshot own) = refl
same_writes (transactions.Block snapshot own) = refl
same_writes transactions.Failed = refl

pub blocked_by : (old new : Session) (store : Stored) → transaction_of new.transaction ≡ blocked (transaction_of old.transaction) → snap_of new.transaction ≡ snap_of old.transaction → KeepsPhase old new → Done (BeginsBlock tag.Begin) old store None new store
blocked_by old new store is snap keeps = record {
  course = goes [] [] (in_transaction (blocked (transaction_of old.transaction)) (state_of old));
  part_is = λ opening of. record { tagged = refl; does = inl refl };
  refused_is = refl;
  state = state_in old new (blocked (transaction_of old.transaction)) keeps.phase is;
  put = put_nothing (waiting_of old) (waiting_of new) (ap (λ o. o.bytes) keeps.output);
  keeps = keeps.input;
  goes = goes_alone old.transaction new.transaction store snap (λ f. record {
    held = subst (λ s. IsHeld s store.live) (sym snap) f.held;
    taken = subst (λ (w : List Write). all_taken store.catalog w ≡ true) (sym (ap writes_of is ∙ same_writes (transaction_of old.transaction))) f.taken;
  });
}

-- COMMIT

pub committed : (tag_is : Tag) (old new : Session) (before after : Stored) → tag_is ≡ commit_tag (transaction_of old.transaction) → Done Commits old before None new after → Done (CommitsBlock tag_is) old before None new after
committed tag_is old new before after is d = done_as Commits (CommitsBlock tag_is) old before None new after (λ opening c r. record { tagged = is; commits = inl r }) d

pub committed_not : (why : Refusal) (old new : Session) (before after : Stored) → Done Commits old before (Some why) new after → Stopped CommitsBlock old before why new after
committed_not why old new before after d =
    let t = commit_tag (transaction_of old.transaction) in
    record { tag_is = t; done = done_as Commits (CommitsBlock t) old before (Some why) new after (λ opening c r. record { tagged = refl; commits = inl r }) d }

-- ROLLBACK
pub rolled_back : (old new : Session) (before after : Stored) → transaction_of new.transaction ≡ transactions.Idle → Goes old.transaction before [] new.transaction after → KeepsPhase old new → Done (RollsBack tag.Rollback) old before None new after
rolled_back old new before after is all keeps = record {
  course = goes [] [] (between (state_of old));
  part_is = λ opening of. record { tagged = refl; does = refl };
  refused_is = refl;
  state = state_in old new transactions.Idle keeps.phase is;
  put = put_nothing (waiting_of old) (waiting_of new) (ap (λ o. o.bytes) keeps.output);
  keeps = keeps.input;
  goes = all;
}
