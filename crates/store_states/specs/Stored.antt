-- What contracts see of a store: its log, its loop and the number of its next commit at this moment, its live snapshots,
-- the catalogue that it was opened over, and the versions of its rows.
use Rattle.std.specs.Prelude.{ℕ, Option, Some, None, List}
use Rattle.commit_log.specs.Kept.{Kept}
use Rattle.commit_log.specs.declared.commit.Commit.{Commit}
use Rattle.live_snapshots.specs.Snapshots.{Seen, oldest}
use Rattle.row_versions.specs.Stored.{Stored as Versioned}
use Rattle.store_events.specs.Ties.{Moment}
use Rattle.vschema.specs.declared.catalog.Catalog.{Catalog}

pub record Stored : Type 0 where
  pub moment : Moment
  pub live : List Seen
  pub catalog : Catalog
  pub rows : Versioned

abbrev pub stored : Kept → ℕ → ℕ → List Seen → Catalog → Versioned → Stored
stored kept loop_no next live catalog rows =
    record { moment = record { kept = kept; loop_no = loop_no; next = next }; live = live; catalog = catalog; rows = rows }

-- the commits that were seen, the oldest first
abbrev pub log_of : Stored → List Commit
log_of store = store.moment.kept.seen

abbrev pub number_or : ℕ → Option ℕ → ℕ
number_or applied None = applied
number_or applied (Some s) = s

-- From which number on the versions say what a snapshot sees: that of the oldest live one. Where none lives it is that of
-- the next one.
abbrev pub seen_from : Stored → ℕ
seen_from store = number_or store.rows.applied (oldest store.live)
