-- What becomes of a store whose log grows, whose snapshots come and go, and to which commits are applied.
use Rattle.std.proofs.Common.{◌≡◌, ◌∙◌, ◌⊎◌, inl, inr, ℕ, ◌+◌, ◌<◌, ◌≤◌, List, [], ◌∷◌, ◌++◌, Some, take, length, slice_get, refl, sym, ap, subst, subst₂, arith}
use Rattle.std.proofs.lemmas.Bool.{cases_lt}
use Rattle.std.proofs.lemmas.List.{take-append-le}
use Rattle.std.specs.List.{AllByRecursion}
use Rattle.commit_log.specs.Kept.{Lasts}
use Rattle.commit_log.specs.declared.commit.Commit.{Commit}
use Rattle.live_snapshots.specs.Snapshots.{oldest}
use Rattle.store_states.proofs.FromLaws.{from_later, from_within}
use Rattle.store_states.specs.Stored.{Stored, log_of, number_or, seen_from}
use Rattle.store_states.specs.Views.{AreViews, IsStore, SeesAtMost}
use Rattle.stored_versions.proofs.NewestLaws.{newest_are_seen, same_seen}
use Rattle.stored_versions.specs.Openings.{Opening}
use Rattle.stored_versions.specs.StoredViews.{IsStoredView}
use Rattle.version_lists.specs.Versions.{IsPlaced, newest_rows, rows_seen, seen_at}
use Rattle.vschema.specs.declared.catalog.Table.{Table}

-- the first commits of a log that has grown
taken : (s : ℕ) (seen more all : List Commit) → all ≡ seen ++ more → s ≤ length seen → take s all ≡ take s seen
taken s seen more all is within = ap (take s) is ∙ take-append-le s seen more within

module _ (opening : Opening) (old new : Stored) where
  -- the same tables are seen
  same_views : (s : ℕ) → take s (log_of new) ≡ take s (log_of old) → seen_at s new.rows.versions ≡ seen_at s old.rows.versions
      → AreViews opening (take s (log_of old)) s old.rows.versions → AreViews opening (take s (log_of new)) s new.rows.versions
  same_views s commits seen views number table there =
      subst₂ (λ commits rows. IsStoredView opening commits [] number table rows) (sym commits) (sym (same_seen s number new.rows.versions old.rows.versions seen)) (views number table there)

  -- A store of which nothing is seen otherwise from its oldest live snapshot on is one still.
  pub stays : new.catalog ≡ old.catalog → seen_from old ≤ seen_from new → new.rows.applied ≡ old.rows.applied
      → Lasts old.moment.kept new.moment.kept → old.rows.applied ≤ length (log_of old)
      → ((s : ℕ) → seen_from new ≤ s → s ≤ old.rows.applied → seen_at s new.rows.versions ≡ seen_at s old.rows.versions)
      → IsStore opening old → IsStore opening new
  stays same later applied lasts within seen is = record {
    catalog = same ∙ is.catalog;
    views = λ s from to.
        let least : seen_from old ≤ s = omega (arith, later, from) in
        let most : s ≤ old.rows.applied = omega (arith, applied, to) in
        let in_log : s ≤ length (log_of old) = omega (arith, most, within) in
        same_views s (taken s (log_of old) lasts.grown.0 (log_of new) lasts.grown.1 in_log) (seen s from most) (is.views s least most);
  }

  module _ (same : new.catalog ≡ old.catalog) (live : new.live ≡ old.live) (log : log_of new ≡ log_of old) (applied : new.rows.applied ≡ old.rows.applied + 1)
      (placed_old : AllByRecursion (IsPlaced old.rows.applied) old.rows.versions) (placed_new : AllByRecursion (IsPlaced new.rows.applied) new.rows.versions)
      (seen : (s : ℕ) → s ≤ old.rows.applied → seen_at s new.rows.versions ≡ seen_at s old.rows.versions)
      (carried : (number : ℕ) (table : Table) → slice_get opening.catalog.tables number ≡ Some table → IsStoredView opening (take old.rows.applied (log_of old)) [] number table (newest_rows number old.rows.versions)
      → IsStoredView opening (take new.rows.applied (log_of new)) [] number table (newest_rows number new.rows.versions))
      (snapshots : AllByRecursion (SeesAtMost old.rows.applied) old.live) (is : IsStore opening old) where
    from_old : (s : ℕ) → seen_from new ≤ s → seen_from old ≤ s
    from_old s from =
        let le = from_later old.rows.applied new.rows.applied (oldest old.live) (let e = applied in omega (arith, e)) in
        let at_new = subst (λ live. number_or new.rows.applied (oldest live) ≤ s) live from in
        omega (arith, le, at_new)

    -- what the snapshot of all applied commits sees
    newest_views : AreViews opening (take new.rows.applied (log_of new)) new.rows.applied new.rows.versions
    newest_views number table there =
        subst (IsStoredView opening (take new.rows.applied (log_of new)) [] number table) (sym (newest_are_seen new.rows.applied number new.rows.versions placed_new))
        (carried number table there
        (subst (IsStoredView opening (take old.rows.applied (log_of old)) [] number table) (newest_are_seen old.rows.applied number old.rows.versions placed_old)
        (is.views old.rows.applied (from_within old.rows.applied old.live snapshots) (omega arith) number table there)))

    views_at : (s : ℕ) → seen_from new ≤ s → s ≤ new.rows.applied → (old.rows.applied < s) ⊎ (s ≤ old.rows.applied) → AreViews opening (take s (log_of new)) s new.rows.versions
    views_at s from to (inl past) =
        let at : new.rows.applied ≡ s = let e = applied in omega (arith, e, to, past) in
        subst (λ n. AreViews opening (take n (log_of new)) n new.rows.versions) at newest_views
    views_at s from to (inr before) = same_views s (ap (take s) log) (seen s before) (is.views s (from_old s from) before)

    -- A store to which a commit is applied is one still.
    pub advances : IsStore opening new
    advances = record {
      catalog = same ∙ is.catalog;
      views = λ s from to. views_at s from to (cases_lt old.rows.applied s);
    }
