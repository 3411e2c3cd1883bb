-- What live snapshots see, as long as they live.
use Rattle.std.proofs.Common.{◌≡◌, ℕ, ◌≤◌, List, [], ◌∷◌, Option, Some, None, take, slice_get, refl, sym, ◌∙◌, ap, subst, inl, inr, arith}
use Rattle.std.specs.List.{AllByRecursion}
use Rattle.live_snapshots.proofs.OldestLaws.{least_seen}
use Rattle.live_snapshots.specs.Snapshots.{IsLive, IsUpTo, Seen, oldest}
use Rattle.store_states.specs.Promises.{Leaves}
use Rattle.store_states.specs.Stored.{Stored, log_of, number_or, seen_from}
use Rattle.store_states.specs.Views.{IsStore, IsTidy, SeesAtMost}
use Rattle.stored_versions.specs.Openings.{Opening}
use Rattle.stored_versions.specs.StoredViews.{IsStoredView}
use Rattle.version_lists.specs.Versions.{rows_seen, seen_at}
use Rattle.vschema.specs.declared.catalog.Catalog.{Catalog}
use Rattle.vschema.specs.declared.catalog.Table.{Table}

at_most : (applied : ℕ) (live : List Seen) (snap : Seen) → IsLive live snap → AllByRecursion (SeesAtMost applied) live → snap.1 ≤ applied
at_most applied [] snap is all = absurd is
at_most applied (one ∷ live) snap (inl same) all = subst (λ (s : Seen). s.1 ≤ applied) same all.0
at_most applied (one ∷ live) snap (inr later) all = at_most applied live snap later all.1

from_by : (applied s : ℕ) (it : Option ℕ) → s ≤ applied → IsUpTo it (Some s) → number_or applied it ≤ s
from_by applied s None le h = absurd h
from_by applied s (Some n) le h = h

-- it sees no more than what is applied
pub live_within : (store : Stored) (snap : Seen) → IsTidy store → IsLive store.live snap → snap.1 ≤ store.rows.applied
live_within store snap tidy live = at_most store.rows.applied store.live snap live tidy.live

-- and no less than the versions say
pub live_from : (store : Stored) (snap : Seen) → IsTidy store → IsLive store.live snap → seen_from store ≤ snap.1
live_from store snap tidy live = from_by store.rows.applied snap.1 (oldest store.live) (live_within store snap tidy live) (least_seen store.live snap live)

-- so it sees the tables after its commits
pub live_view : (opening : Opening) (store : Stored) (snap : Seen) (number : ℕ) (table : Table) → IsTidy store → IsLive store.live snap → IsStore opening store → slice_get store.catalog.tables number ≡ Some table
    → IsStoredView opening (take snap.1 (log_of store)) [] number table (rows_seen snap.1 number store.rows.versions)
live_view opening store snap number table tidy live is there =
    is.views snap.1 (live_from store snap tidy live) (live_within store snap tidy live) number table (sym (ap (λ (c : Catalog). slice_get c.tables number) is.catalog) ∙ there)

-- and goes on to see the same versions
pub live_sees : (old new : Stored) (snap : Seen) → IsTidy old → IsTidy new → Leaves old new → IsLive old.live snap → IsLive new.live snap → seen_at snap.1 new.rows.versions ≡ seen_at snap.1 old.rows.versions
live_sees old new snap tidy tidy_new leaves before after = leaves.seen snap.1 (live_from new snap tidy_new after) (live_within old snap tidy before)
