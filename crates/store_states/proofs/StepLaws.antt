-- What the steps of calls leave of a store.
use Rattle.std.proofs.Common.{◌≡◌, ◌∙◌, ℕ, ◌+◌, ◌<◌, ◌≤◌, ◌==◌, Bool, true, false, cond, not, List, [], ◌∷◌, ◌++◌, filter, Some, take, length, slice_get, refl, sym, ap, subst, arith, append_assoc, append-nil, length-append}
use Rattle.std.specs.List.{AllByRecursion, list_all}
use Rattle.commit_log.specs.Kept.{Kept, Lasts}
use Rattle.commit_log.specs.declared.commit.Commit.{Commit}
use Rattle.live_snapshots.proofs.OldestLaws.{rises}
use Rattle.live_snapshots.specs.Snapshots.{Seen, oldest, without}
use Rattle.row_versions.specs.Stored.{Stored as Versioned}
use Rattle.store_states.proofs.CleanLaws.{clean_older, clean_seen, cleaned_clean}
use Rattle.store_states.proofs.FromLaws.{all_begun, all_later, begun_oldest, from_begun, from_later, from_rises, from_within}
use Rattle.store_states.proofs.StoreLaws.{advances, stays}
use Rattle.store_states.specs.Promises.{Leaves}
use Rattle.store_states.specs.Steps.{IsAdvanced, IsCleaned}
use Rattle.store_states.specs.Stored.{Stored, log_of, number_or, seen_from, stored}
use Rattle.store_states.specs.Views.{IsStore, IsTidy, SeesAtMost}
use Rattle.stored_versions.specs.Openings.{Opening}
use Rattle.stored_versions.specs.StoredViews.{IsStoredView}
use Rattle.version_lists.specs.Versions.{IsPlaced, Version, cleaned, may_stay, newest_rows, seen_at}
use Rattle.vschema.specs.declared.catalog.Catalog.{Catalog}
use Rattle.vschema.specs.declared.catalog.Table.{Table}

-- what a step leaves
pub record IsStep (old new : Stored) : Type 0 where
  pub tidy : IsTidy new
  pub leaves : Leaves old new

pub lasts_itself : (kept : Kept) → Lasts kept kept
lasts_itself kept = record { grown = ([], sym (append-nil kept.seen)); most = refl; lent = refl; later = omega arith; within = λ h. h }

pub lasts_on : (old mid new : Kept) → Lasts old mid → Lasts mid new → Lasts old new
lasts_on old mid new one two = record {
  grown = (one.grown.0 ++ two.grown.0, two.grown.1 ∙ ap (λ xs. xs ++ two.grown.0) one.grown.1 ∙ append_assoc old.seen one.grown.0 two.grown.0);
  most = two.most ∙ one.most;
  lent = two.lent ∙ one.lent;
  later = let a = one.later in let b = two.later in omega (arith, a, b);
  within = λ h. two.within (one.within h);
}

longer : (old new : Kept) → Lasts old new → length old.seen ≤ length new.seen
longer old new lasts = let e = ap length lasts.grown.1 ∙ length-append old.seen lasts.grown.0 in omega (arith, e)

pub leaves_on : (old mid new : Stored) → Leaves old mid → Leaves mid new → Leaves old new
leaves_on old mid new one two = record {
  lasts = lasts_on old.moment.kept mid.moment.kept new.moment.kept one.lasts two.lasts;
  catalog = two.catalog ∙ one.catalog;
  loop_is = two.loop_is ∙ one.loop_is;
  applied = let a = one.applied in let b = two.applied in omega (arith, a, b);
  later = let a = one.later in let b = two.later in omega (arith, a, b);
  seen = λ s from to.
      let more = one.applied in
      let later = two.later in
      two.seen s from (omega (arith, to, more)) ∙ one.seen s (omega (arith, from, later)) to;
  still = λ opening is. two.still opening (one.still opening is);
}

pub step_on : (old mid new : Stored) → IsStep old mid → IsStep mid new → IsStep old new
step_on old mid new one two = record { tidy = two.tidy; leaves = leaves_on old mid new one.leaves two.leaves }

pub leaves_itself : (store : Stored) → Leaves store store
leaves_itself store = record {
  lasts = lasts_itself store.moment.kept;
  catalog = refl;
  loop_is = refl;
  applied = omega arith;
  later = omega arith;
  seen = λ s from to. refl;
  still = λ opening is. is;
}

-- the log was looked at
pub looked : (kept new : Kept) (loop_no next : ℕ) (live : List Seen) (catalog : Catalog) (rows : Versioned) → Lasts kept new
    → IsTidy (stored kept loop_no next live catalog rows) → IsStep (stored kept loop_no next live catalog rows) (stored new loop_no next live catalog rows)
looked kept new loop_no next live catalog rows lasts tidy =
    let more = longer kept new lasts in
    let within = tidy.applied in
    let own = tidy.own in
    record {
      tidy = record {
        formed = tidy.formed;
        passes = tidy.passes;
        columns = tidy.columns;
        applied = omega (arith, more, within);
        own = omega (arith, more, own);
        live = tidy.live;
        clean = tidy.clean;
      };
      leaves = record {
        lasts = lasts;
        catalog = refl;
        loop_is = refl;
        applied = omega arith;
        later = omega arith;
        seen = λ s from to. refl;
        still = λ opening is. stays opening (stored kept loop_no next live catalog rows) (stored new loop_no next live catalog rows) refl (omega arith) refl lasts tidy.applied (λ s from to. refl) is;
      };
    }

-- a snapshot of all applied commits began
pub begun : (kept : Kept) (loop_no next : ℕ) (live : List Seen) (snap : Seen) (catalog : Catalog) (rows : Versioned) → snap.1 ≡ rows.applied
    → IsTidy (stored kept loop_no next live catalog rows) → IsStep (stored kept loop_no next live catalog rows) (stored kept loop_no next (live ++ snap ∷ []) catalog rows)
begun kept loop_no next live snap catalog rows at tidy =
    let later = from_begun rows.applied live snap at tidy.live in
    record {
      tidy = record {
        formed = tidy.formed;
        passes = tidy.passes;
        columns = tidy.columns;
        applied = tidy.applied;
        own = tidy.own;
        live = all_begun rows.applied live snap at tidy.live;
        clean = clean_older (oldest (live ++ snap ∷ [])) (oldest live) rows.versions (begun_oldest live snap) tidy.clean;
      };
      leaves = record {
        lasts = lasts_itself kept;
        catalog = refl;
        loop_is = refl;
        applied = omega arith;
        later = later;
        seen = λ s from to. refl;
        still = λ opening is. stays opening (stored kept loop_no next live catalog rows) (stored kept loop_no next (live ++ snap ∷ []) catalog rows) refl later refl (lasts_itself kept) tidy.applied (λ s from to. refl) is;
      };
    }

all_without : (p : Seen → Type 0) (mark : Seen → Bool) (live : List Seen) → AllByRecursion p live → AllByRecursion p (filter mark live)
all_without p mark [] all = tt
all_without p mark (one ∷ live) all = by (mark one) (all_without p mark live all.1) where
  by : (b : Bool) → AllByRecursion p (filter mark live) → AllByRecursion p (cond b (one ∷ filter mark live) (filter mark live))
  by true rest = (all.0, rest)
  by false rest = rest

-- a snapshot was released, and versions that nobody sees any more are gone
pub released : (kept : Kept) (loop_no next : ℕ) (live : List Seen) (snap : Seen) (catalog : Catalog) (rows new : Versioned) → AllByRecursion (IsPlaced rows.applied) rows.versions → IsCleaned (without snap live) rows new
    → IsTidy (stored kept loop_no next live catalog rows) → IsStep (stored kept loop_no next live catalog rows) (stored kept loop_no next (without snap live) catalog new)
released kept loop_no next live snap catalog rows new placed clean tidy =
    let older : number_or rows.applied (oldest live) ≤ number_or rows.applied (oldest (without snap live)) = from_rises rows.applied (oldest live) (oldest (without snap live)) (from_within rows.applied live tidy.live) (rises live snap) in
    let same : number_or new.applied (oldest (without snap live)) ≡ number_or rows.applied (oldest (without snap live)) = ap (λ n. number_or n (oldest (without snap live))) clean.applied in
    let later : number_or rows.applied (oldest live) ≤ number_or new.applied (oldest (without snap live)) = omega (arith, older, same) in
    let seen : (s : ℕ) → number_or new.applied (oldest (without snap live)) ≤ s → s ≤ rows.applied → seen_at s new.versions ≡ seen_at s rows.versions =
    λ s from to. ap (seen_at s) clean.versions ∙ clean_seen (oldest (without snap live)) rows.applied s rows.versions placed (omega (arith, from, same)) to
    in
    let at = clean.applied in
    let within = tidy.applied in
    record {
      tidy = record {
        formed = tidy.formed;
        passes = tidy.passes;
        columns = clean.columns ∙ tidy.columns;
        applied = omega (arith, at, within);
        own = tidy.own;
        live = subst (λ n. AllByRecursion (SeesAtMost n) (without snap live)) (sym at) (all_without (SeesAtMost rows.applied) (λ (other : Seen). not (other.0 == snap.0)) live tidy.live);
        clean = ap (list_all (may_stay (oldest (without snap live)))) clean.versions ∙ cleaned_clean (oldest (without snap live)) rows.versions;
      };
      leaves = record {
        lasts = lasts_itself kept;
        catalog = refl;
        loop_is = refl;
        applied = omega (arith, at);
        later = later;
        seen = seen;
        still = λ opening is. stays opening (stored kept loop_no next live catalog rows) (stored kept loop_no next (without snap live) catalog new) refl later at (lasts_itself kept) within seen is;
      };
    }

module _ (kept : Kept) (loop_no next now : ℕ) (live : List Seen) (catalog : Catalog) (rows mid new : Versioned) (placed : AllByRecursion (IsPlaced rows.applied) rows.versions) (there : rows.applied < length kept.seen)
    (own : now ≤ length kept.seen) (more : IsAdvanced kept.seen catalog rows mid) (clean : IsCleaned live mid new) (tidy : IsTidy (stored kept loop_no next live catalog rows)) where
  abbrev before : Stored
  before = stored kept loop_no next live catalog rows

  abbrev between : Stored
  between = stored kept loop_no now live catalog mid

  abbrev after : Stored
  after = stored kept loop_no now live catalog new

  let_on : number_or rows.applied (oldest live) ≤ number_or mid.applied (oldest live)
  let_on = from_later rows.applied mid.applied (oldest live) (let e = more.applied in omega (arith, e))

  same_from : number_or new.applied (oldest live) ≡ number_or mid.applied (oldest live)
  same_from = ap (λ n. number_or n (oldest live)) clean.applied

  clean_at : (s : ℕ) → number_or new.applied (oldest live) ≤ s → s ≤ mid.applied → seen_at s new.versions ≡ seen_at s mid.versions
  clean_at s from to = ap (seen_at s) clean.versions ∙ clean_seen (oldest live) mid.applied s mid.versions more.placed (let e = same_from in omega (arith, from, e)) to

  between_is : (opening : Opening) → IsStore opening before → IsStore opening between
  between_is opening is = advances opening before between refl refl refl more.applied placed more.placed more.seen (λ number table here view. subst (λ n. IsStoredView opening (take n kept.seen) [] number table (newest_rows number mid.versions)) (sym more.applied) (more.carried.view opening number table is.catalog here view)) tidy.live is

  after_is : (opening : Opening) → IsStore opening before → IsStore opening after
  after_is opening is =
      stays opening between after refl (let e = same_from in omega (arith, e)) clean.applied (lasts_itself kept) (let e = more.applied in omega (arith, e, there)) clean_at (between_is opening is)

  -- a commit of the log was applied, and versions that nobody sees any more are gone
  pub advanced : IsStep before after
  advanced =
      let at = clean.applied in
      let one = more.applied in
      let same = same_from in
      let on = let_on in
      record {
        tidy = record {
          formed = tidy.formed;
          passes = tidy.passes;
          columns = clean.columns ∙ more.columns ∙ tidy.columns;
          applied = omega (arith, at, one, there);
          own = own;
          live = all_later rows.applied new.applied live (omega (arith, at, one)) tidy.live;
          clean = ap (list_all (may_stay (oldest live))) clean.versions ∙ cleaned_clean (oldest live) mid.versions;
        };
        leaves = record {
          lasts = lasts_itself kept;
          catalog = refl;
          loop_is = refl;
          applied = omega (arith, at, one);
          later = omega (arith, same, on);
          seen = λ s from to. clean_at s from (omega (arith, to, one)) ∙ more.seen s to;
          still = after_is;
        };
      }
