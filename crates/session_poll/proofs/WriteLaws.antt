-- A write of a Query: it is typed, counted and added.
use Rattle.std.proofs.Common.{◌≡◌, ◌∙◌, ℕ, true, List, [], ◌∷◌, ◌++◌, length, take, slice_get, inl, inr, Option, Some, None, refl, sym, ap, subst}
use Rattle.query_meaning.specs.WriteTyping.{IsWellTypedWrite, RefusesWrite}
use Rattle.query_meaning.specs.declared.ill.TypeRefused.{TypeRefused}
use Rattle.query_meaning.specs.declared.ill.TypeRefused.TheVariants as refused
use Rattle.session_poll.proofs.CourseLaws.{state_in, keeps_itself, put_nothing, stopped_there}
use Rattle.session_poll.proofs.ShowLaws.{has_seen}
use Rattle.session_poll.specs.Courses.{Course, goes, stops}
use Rattle.session_poll.specs.Parts.{Done, Keeps, KeepsPhase, KeepsState, Stopped}
use Rattle.session_poll.specs.Queries.{MayWrite}
use Rattle.session_poll.specs.Reads.{IsWritable}
use Rattle.session_poll.specs.Session.{state_of, waiting_of}
use Rattle.session_poll.specs.State.{State, in_transaction}
use Rattle.session_poll.specs.Tags.{IsCountAfter, write_tag}
use Rattle.session_poll.specs.Typings.{IsUnwritten, TypesWrite, refusal_for}
use Rattle.session_poll.specs.declared.session.Session.{Session}
use Rattle.session_replies.specs.declared.refusal.Refusal.{Refusal}
use Rattle.session_replies.specs.declared.refusal.Refusal.TheVariants as refusal
use Rattle.session_replies.specs.declared.tag.Tag.{Tag}
use Rattle.session_replies.specs.declared.tag.Tag.TheVariants as tag
use Rattle.session_transactions.proofs.GoingLaws.{goes_on, goes_same as goes_alone, goes_viewed, sees_all, wrote_fits}
use Rattle.session_transactions.specs.Goings.{FitsStore, Goes}
use Rattle.live_snapshots.specs.Snapshots.{Seen}
use Rattle.session_transactions.specs.declared.transaction.Transaction as code
use Rattle.snapshot_store.specs.Parts.{IsCounted}
use Rattle.write_meaning.specs.TakenWrites.{is_taken}
use Rattle.session_transactions.specs.Transactions.{Transaction, snap_of, transaction_of, writes_of, wrote}
use Rattle.store_events.specs.Events.{Event, Event as event}
use Rattle.store_states.specs.Stored.{Stored, log_of}
use Rattle.store_states.specs.Views.{IsStore, IsTidy}
use Rattle.stored_versions.specs.Openings.{Opening}
use Rattle.vra_syntax.specs.declared.write.Write.{Write}
use Rattle.stored_versions.specs.Catalogues.{written_number}
use Rattle.stored_versions.specs.Databases.{variant_database}
use Rattle.vschema.specs.declared.catalog.Catalog.{Catalog}
use Rattle.vschema.specs.declared.catalog.Table.{Table}
use Rattle.write_counts.specs.Counts.{IsCount}

ran_out : (it : Write) (old new : Session) (store : Stored) → KeepsState old new → waiting_of new ≡ waiting_of old → Stopped (MayWrite it) old store refusal.OutOfMemory new store
ran_out it old new store keeps put = record {
  tag_is = tag.Set;
  done = stopped_there (MayWrite it tag.Set) refusal.OutOfMemory old new store (λ opening is. inr refl) keeps put;
}

-- the own writes stay where memory ran out
pub not_added : (it : Write) (old new : Session) (store : Stored) → KeepsState old new → waiting_of new ≡ waiting_of old → Stopped (MayWrite it) old store refusal.OutOfMemory new store
not_added it old new store keeps put = ran_out it old new store keeps put

-- the write has no type
types_over : (catalog other : Catalog) (it : Write) (typing : Option TypeRefused) → catalog ≡ other → TypesWrite catalog it typing → TypesWrite other it typing
types_over catalog other it typing is t = subst (λ k. TypesWrite k it typing) is t

refused_as : (it : Write) (old : Session) (store : Stored) (why : TypeRefused) → TypesWrite store.catalog it (Some why) → Stopped (MayWrite it) old store (refusal.Untyped why) old store
refused_as it old store why types = record {
  tag_is = tag.Set;
  done = stopped_there (MayWrite it tag.Set) (refusal.Untyped why) old old store
      (λ opening is. inl (record { typing = Some why; is_typing = types_over store.catalog opening.catalog it (Some why) is.catalog types; writes = refl }))
      (keeps_itself old) refl;
}

pub untyped : (catalog : Catalog) (it : Write) (why : TypeRefused) → RefusesWrite catalog.model [] catalog.tables it why → IsUnwritten catalog it (refusal_for why)
untyped catalog it refused.Memory is = tt
untyped catalog it (refused.TooWide count) is = is
untyped catalog it (refused.Ill why) is = is

pub unwritten : (it : Write) (old : Session) (store : Stored) (why : Refusal) → IsUnwritten store.catalog it why → Stopped (MayWrite it) old store why old store
unwritten it old store refusal.OutOfMemory is = ran_out it old old store (keeps_itself old) refl
unwritten it old store (refusal.Untyped why) is = refused_as it old store why is
unwritten it old store refusal.NotBuilt is = absurd is
unwritten it old store refusal.NotUtf8 is = absurd is
unwritten it old store (refusal.Unparsed why) is = absurd is
unwritten it old store (refusal.TooLong n) is = absurd is
unwritten it old store refusal.TransactionFailed is = absurd is
unwritten it old store refusal.KeeperFault is = absurd is
unwritten it old store (refusal.Conflict table place) is = absurd is
unwritten it old store (refusal.CameFirst place) is = absurd is
unwritten it old store (refusal.LogFull number) is = absurd is

-- it is well typed, and was counted
pub writable_by : (t : code.Transaction) (store : Stored) (it : Write) (snap : Seen) (own : List Write) (count : ℕ) → snap_of t ≡ Some snap → writes_of (transaction_of t) ≡ own → IsTidy store → IsWellTypedWrite store.catalog.model [] store.catalog.tables it → is_taken store.catalog it ≡ true → IsCounted store snap own it count → IsWritable t store it count
writable_by t store it snap own count has writes tidy typed taken is = record {
  snap = snap;
  has_snap = has;
  tidy = tidy;
  typed = typed;
  taken = taken;
  counted = subst (λ (w : List Write). IsCounted store snap w it count) (sym writes) is;
}

-- it is one of the own writes
counted_over : (opening : Opening) (store : Stored) (old : Session) (it : Write) (count : ℕ) (is : IsWritable old.transaction store it count) → IsStore opening store → IsCountAfter opening (take is.snap.1 (log_of store)) (writes_of (transaction_of old.transaction)) it count
counted_over opening store old it count is of = record {
  counted = λ number table found there.
      subst (λ (k : Catalog). IsCount k.model table it (λ c. variant_database c opening (take is.snap.1 (log_of store)) (writes_of (transaction_of old.transaction)) number) count) of.catalog
      (is.counted.counted opening number table of (subst (λ (k : Catalog). written_number k it ≡ Some number) (sym of.catalog) found) (subst (λ (k : Catalog). slice_get k.tables number ≡ Some table) (sym of.catalog) there));
}

pub added : (it : Write) (count : ℕ) (tag_is : Tag) (old new : Session) (store : Stored) → FitsStore old.transaction store → IsWritable old.transaction store it count → tag_is ≡ write_tag it count → transaction_of new.transaction ≡ wrote it (transaction_of old.transaction) → snap_of new.transaction ≡ snap_of old.transaction → KeepsPhase old new → Done (MayWrite it tag_is) old store None new store
added it count tag_is old new store fits is tagged wrote_it snap keeps =
    let commits = take is.snap.1 (log_of store) in
    record {
      course = goes (event.Viewed commits ∷ []) [] (in_transaction (wrote it (transaction_of old.transaction)) (state_of old));
      part_is = λ opening of. inl (record {
        typing = None;
        is_typing = types_over store.catalog opening.catalog it None of.catalog is.typed;
        writes = record {
          commits = commits;
          seen = has_seen old.transaction is.snap commits is.has_snap (sees_all old.transaction store is.snap fits is.tidy is.has_snap);
          count = count;
          counted = counted_over opening store old it count is of;
          tagged = tagged;
          course = refl;
        };
      });
      refused_is = refl;
      state = state_in old new (wrote it (transaction_of old.transaction)) keeps.phase wrote_it;
      put = put_nothing (waiting_of old) (waiting_of new) (ap (λ o. o.bytes) keeps.output);
      keeps = keeps.input;
      goes =
          goes_on old.transaction old.transaction new.transaction store store store (event.Viewed commits ∷ []) []
          (goes_viewed old.transaction store is.snap fits is.tidy is.has_snap)
          (goes_alone old.transaction new.transaction store snap (λ f. wrote_fits old.transaction new.transaction store it f is.taken wrote_it snap));
    }
