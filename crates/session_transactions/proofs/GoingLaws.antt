-- How a transaction goes on.
use Rattle.std.proofs.Common.{◌≡◌, ◌≢◌, ◌∙◌, ◌⊎◌, inl, inr, ℕ, ◌≤◌, ◌==◌, ◌&&◌, Bool, true, false, cond, not, List, [], ◌∷◌, ◌++◌, Option, Some, None, take, length, refl, sym, ap, subst, arith, rules, append-nil, length-append}
use Rattle.std.proofs.lemmas.Bool.Decides.{nat_tests}
use Rattle.std.proofs.lemmas.List.{length-take-le}
use Rattle.commit_log.specs.Kept.{Kept, Lasts}
use Rattle.live_snapshots.proofs.LiveLaws.{others}
use Rattle.live_snapshots.specs.Snapshots.{IsLive, Seen, without}
use Rattle.session_transactions.specs.Goings.{AreApart, FitsStore, Goes, IsApart, IsBeside, IsHeld, IsOwn}
use Rattle.session_transactions.specs.Transactions.{Transaction as transactions, Transaction, snap_of, transaction_of, writes_of, wrote}
use Rattle.session_transactions.specs.declared.transaction.Transaction.{Transaction as Held}
use Rattle.session_transactions.specs.declared.transaction.Transaction.TheVariants as held
use Rattle.store_events.proofs.TieLaws.{ties_on}
use Rattle.store_events.specs.Events.{Event, Event as event}
use Rattle.store_events.specs.Ties.{Moment, Ties}
use Rattle.store_states.proofs.LiveLaws.{live_within}
use Rattle.store_states.proofs.StepLaws.{lasts_itself, leaves_itself, leaves_on}
use Rattle.store_states.specs.Promises.{Leaves, Releases}
use Rattle.store_states.specs.Stored.{Stored, log_of}
use Rattle.store_states.specs.Views.{IsTidy}
use Rattle.stored_versions.specs.Catalogues.{catalog_after}
use Rattle.stored_versions.specs.Logs.{all_taken}
use Rattle.vra_syntax.specs.declared.write.Write.{Write}
use Rattle.vra_syntax.specs.declared.write.Write.TheVariants as write
use Rattle.vschema.specs.declared.catalog.Catalog.{Catalog}
use Rattle.write_meaning.specs.TakenWrites.{is_taken}

pub longer : (old new : Kept) → Lasts old new → length old.seen ≤ length new.seen
longer old new lasts = let e = ap length lasts.grown.1 ∙ length-append old.seen lasts.grown.0 in omega (arith, e)

-- nothing was answered
pub ties_itself : (m : Moment) → Ties m [] m
ties_itself m = record {
  lasts = lasts_itself m.kept;
  fit = tt;
  rising = omega arith;
  own = sym (append-nil m.kept.own);
  loop_is = refl;
  numbered = refl;
}

-- ---- one going and another

apart_own : (snap : Option Seen) (other : Seen) → IsApart snap other → IsOwn snap other → ⊥
apart_own None other apart own = own
apart_own (Some snap) other apart own = apart own

live_by : (old mid new : Held) (before : Stored) (other : Seen) → IsApart (snap_of mid) other → (IsLive before.live other × IsApart (snap_of old) other) ⊎ IsOwn (snap_of mid) other
    → (IsLive before.live other × IsApart (snap_of old) other) ⊎ IsOwn (snap_of new) other
live_by old mid new before other apart (inl h) = inl h
live_by old mid new before other apart (inr own) = absurd (apart_own (snap_of mid) other apart own)

live_on : (old mid new : Held) (before middle after : Stored) (one : List Event) (other : Seen) → Goes old before one mid middle
    → (IsLive middle.live other × IsApart (snap_of mid) other) ⊎ IsOwn (snap_of new) other → (IsLive before.live other × IsApart (snap_of old) other) ⊎ IsOwn (snap_of new) other
live_on old mid new before middle after one other goes (inr own) = inr own
live_on old mid new before middle after one other goes (inl there) = live_by old mid new before other there.1 (goes.live other there.0)

pub goes_on : (old mid new : Held) (before middle after : Stored) (one two : List Event) → Goes old before one mid middle → Goes mid middle two new after → Goes old before (one ++ two) new after
goes_on old mid new before middle after one two a b = record {
  leaves = leaves_on before middle after a.leaves b.leaves;
  ties = ties_on before.moment middle.moment after.moment one two a.ties b.ties;
  fits = λ h. b.fits (a.fits h);
  others = λ other live apart. let mid = a.others other live apart in b.others other mid.0 mid.1;
  live = λ other live. live_on old mid new before middle after one other a (b.live other live);
}

-- ---- without the store

own_by : (snap other : Seen) (live : List Seen) (b : Bool) → (snap.0 == other.0) ≡ b → IsLive live other → (IsLive live other × (snap.0 ≢ other.0)) ⊎ (snap.0 ≡ other.0)
own_by snap other live true is h = inr (grind (arith, nat_tests, is))
own_by snap other live false is h = inl (h, λ same. grind (arith, nat_tests, is, same))

either : (snap : Option Seen) (live : List Seen) (other : Seen) → IsLive live other → (IsLive live other × IsApart snap other) ⊎ IsOwn snap other
either None live other h = inl (h, tt)
either (Some snap) live other h = own_by snap other live (snap.0 == other.0) refl h

-- what it answers leaves the store
pub goes_by : (old new : Held) (store : Stored) (events : List Event) → Ties store.moment events store.moment → snap_of new ≡ snap_of old → (FitsStore old store → FitsStore new store) → Goes old store events new store
goes_by old new store events ties same fits = record {
  leaves = leaves_itself store;
  ties = ties;
  fits = fits;
  others = λ other live apart. (live, subst (λ snap. IsApart snap other) (sym same) apart);
  live = λ other live. subst (λ snap. (IsLive store.live other × IsApart (snap_of old) other) ⊎ IsOwn snap other) (sym same) (either (snap_of old) store.live other live);
}

pub goes_same : (old new : Held) (store : Stored) → snap_of new ≡ snap_of old → (FitsStore old store → FitsStore new store) → Goes old store [] new store
goes_same old new store same fits = goes_by old new store [] (ties_itself store.moment) same fits

-- ---- its snapshot is released

apart_by : (snap one other : Seen) (rest : List Seen) (b : Bool) → (one.0 == snap.0) ≡ b → (IsLive rest other → snap.0 ≢ other.0) → IsLive (cond (not b) (one ∷ rest) rest) other → snap.0 ≢ other.0
apart_by snap one other rest true is on h = on h
apart_by snap one other rest false is on (inr h) = on h
apart_by snap one other rest false is on (inl same) = λ own. let e = ap (λ (s : Seen). s.0) same in grind (arith, nat_tests, is, own, e)

-- what is live without a snapshot has another mark
without_apart : (live : List Seen) (snap other : Seen) → IsLive (without snap live) other → snap.0 ≢ other.0
without_apart [] snap other h = absurd h
without_apart (one ∷ live) snap other h = apart_by snap one other (without snap live) (one.0 == snap.0) refl (without_apart live snap other) h

was_by : (one other : Seen) (rest live : List Seen) (b : Bool) → (IsLive rest other → IsLive live other) → IsLive (cond b (one ∷ rest) rest) other → IsLive (one ∷ live) other
was_by one other rest live true on (inl same) = inl same
was_by one other rest live true on (inr h) = inr (on h)
was_by one other rest live false on h = inr (on h)

-- and was live
without_was : (live : List Seen) (snap other : Seen) → IsLive (without snap live) other → IsLive live other
without_was [] snap other h = h
without_was (one ∷ live) snap other h = was_by one other (without snap live) live (not (one.0 == snap.0)) (without_was live snap other) h

fits_none : (new : Held) (store : Stored) → snap_of new ≡ None → writes_of (transaction_of new) ≡ [] → FitsStore new store
fits_none new store none empty = record {
  held = subst (λ snap. IsHeld snap store.live) (sym none) tt;
  taken = ap (all_taken store.catalog) empty;
}

-- none is held any more
pub goes_without : (old new : Held) (before after : Stored) (events : List Event) (snap : Seen) → snap_of old ≡ Some snap → snap_of new ≡ None → writes_of (transaction_of new) ≡ []
    → Leaves before after → Ties before.moment events after.moment → after.live ≡ without snap before.live → Goes old before events new after
goes_without old new before after events snap is none empty leaves ties live = record {
  leaves = leaves;
  ties = ties;
  fits = λ h. fits_none new after none empty;
  others = λ other there apart. (
    subst (λ live. IsLive live other) (sym live) (others before.live snap other (subst (λ snap. IsApart snap other) is apart) there),
    subst (λ snap. IsApart snap other) (sym none) tt,
  );
  live = λ other there.
      let h = subst (λ live. IsLive live other) live there in
      inl (without_was before.live snap other h, subst (λ snap. IsApart snap other) (sym is) (without_apart before.live snap other h));
}

pub released_ties : (before after : Stored) (snap : Seen) → Releases before snap after → Ties before.moment [] after.moment
released_ties before after snap released = subst (Ties before.moment []) (sym released.moment) (ties_itself before.moment)

module _ (before after : Stored) (snap : Seen) (writes : List Write) (leaves : Leaves before after) (released : Releases before snap after) where
  pub dropped_implicit : Goes (held.Implicit snap writes) before [] held.Idle after
  dropped_implicit = goes_without (held.Implicit snap writes) held.Idle before after [] snap refl refl refl leaves (released_ties before after snap released) released.live

  pub dropped_block : Goes (held.Block snap writes) before [] held.Idle after
  dropped_block = goes_without (held.Block snap writes) held.Idle before after [] snap refl refl refl leaves (released_ties before after snap released) released.live

  pub failed_block : Goes (held.Block snap writes) before [] held.Failed after
  failed_block = goes_without (held.Block snap writes) held.Failed before after [] snap refl refl refl leaves (released_ties before after snap released) released.live

pub goes_itself : (it : Held) (store : Stored) → Goes it store [] it store
goes_itself it store = goes_same it it store refl (λ h. h)

-- none was open, and none is
pub failed_goes_idle : (store : Stored) → Goes held.Failed store [] held.Idle store
failed_goes_idle store = goes_same held.Failed held.Idle store refl (λ h. fits_none held.Idle store refl refl)

-- ---- one more own write

after_same : (catalog : Catalog) (w : Write) → catalog_after catalog w ≡ catalog
after_same catalog (write.Insert table names rows expr) = refl
after_same catalog (write.Delete table cond expr) = refl
after_same catalog (write.Update table items cond expr) = refl

and_first : (a b : Bool) → (a && b) ≡ true → a ≡ true
and_first true b h = refl
and_first false b h = h

and_second : (a b : Bool) → (a && b) ≡ true → b ≡ true
and_second true b h = h
and_second false b h = search rules

both : (a b : Bool) → a ≡ true → b ≡ true → (a && b) ≡ true
both true b h k = k
both false b h k = h

taken_more : (catalog : Catalog) (writes : List Write) (w : Write) → all_taken catalog writes ≡ true → is_taken catalog w ≡ true → all_taken catalog (writes ++ w ∷ []) ≡ true
taken_more catalog [] w all it = both (is_taken catalog w) true it refl
taken_more catalog (one ∷ writes) w all it =
    both (is_taken catalog one) (all_taken (catalog_after catalog one) (writes ++ w ∷ []))
    (and_first (is_taken catalog one) (all_taken (catalog_after catalog one) writes) all)
    (taken_more (catalog_after catalog one) writes w (and_second (is_taken catalog one) (all_taken (catalog_after catalog one) writes) all)
    (ap (λ c. is_taken c w) (after_same catalog one) ∙ it))

wrote_taken : (catalog : Catalog) (w : Write) (it : Transaction) → all_taken catalog (writes_of it) ≡ true → is_taken catalog w ≡ true → all_taken catalog (writes_of (wrote w it)) ≡ true
wrote_taken catalog w transactions.Idle all taken = refl
wrote_taken catalog w (transactions.Implicit snapshot writes) all taken = taken_more catalog writes w all taken
wrote_taken catalog w (transactions.Block snapshot writes) all taken = taken_more catalog writes w all taken
wrote_taken catalog w transactions.Failed all taken = refl

pub wrote_fits : (old new : Held) (store : Stored) (w : Write) → FitsStore old store → is_taken store.catalog w ≡ true → transaction_of new ≡ wrote w (transaction_of old) → snap_of new ≡ snap_of old → FitsStore new store
wrote_fits old new store w fits taken is same = record {
  held = subst (λ snap. IsHeld snap store.live) (sym same) fits.held;
  taken = ap (λ it. all_taken store.catalog (writes_of it)) is ∙ wrote_taken store.catalog w (transaction_of old) fits.taken taken;
}

-- ---- rows are read

pub sees_all : (it : Held) (store : Stored) (snap : Seen) → FitsStore it store → IsTidy store → snap_of it ≡ Some snap → length (take snap.1 (log_of store)) ≡ snap.1
sees_all it store snap fits tidy is =
    let live = subst (λ snap. IsHeld snap store.live) is fits.held in
    let within = live_within store snap tidy live in
    let applied = tidy.applied in
    length-take-le snap.1 (log_of store) (omega (arith, within, applied))

viewed_ties : (m : Moment) (n : ℕ) → length (take n m.kept.seen) ≡ n → n ≤ length m.kept.seen → Ties m (event.Viewed (take n m.kept.seen) ∷ []) m
viewed_ties m n is within = record {
  lasts = lasts_itself m.kept;
  fit = ((omega (arith, is, within), ap (λ k. take k m.kept.seen) (sym is)), tt);
  rising = omega arith;
  own = sym (append-nil m.kept.own);
  loop_is = refl;
  numbered = refl;
}

pub goes_viewed : (it : Held) (store : Stored) (snap : Seen) → FitsStore it store → IsTidy store → snap_of it ≡ Some snap → Goes it store (event.Viewed (take snap.1 (log_of store)) ∷ []) it store
goes_viewed it store snap fits tidy is =
    let live = subst (λ snap. IsHeld snap store.live) is fits.held in
    let within = live_within store snap tidy live in
    let applied = tidy.applied in
    goes_by it it store (event.Viewed (take snap.1 (log_of store)) ∷ [])
    (viewed_ties store.moment snap.1 (sees_all it store snap fits tidy is) (omega (arith, within, applied)))
    refl (λ h. h)

-- ---- another session's transaction

still_held : (old new : Held) (before after : Stored) (events : List Event) (other : Option Seen) → Goes old before events new after → IsHeld other before.live → AreApart (snap_of old) other → IsHeld other after.live × AreApart (snap_of new) other
still_held old new before after events None goes live apart = (tt, tt)
still_held old new before after events (Some snap) goes live apart = goes.others snap live apart

pub goes_beside : (old new other : Held) (before after : Stored) (events : List Event) → Goes old before events new after → IsBeside old other before → IsBeside new other after
goes_beside old new other before after events goes beside =
    let there = still_held old new before after events (snap_of other) goes beside.fits.held beside.apart in
    record {
      fits = record {
        held = there.0;
        taken = ap (λ c. all_taken c (writes_of (transaction_of other))) goes.leaves.catalog ∙ beside.fits.taken;
      };
      apart = there.1;
    }
