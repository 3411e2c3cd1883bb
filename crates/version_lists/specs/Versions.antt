-- Versions of rows: each is there for the snapshots from its begin on, and below its end where it has one.
use Rattle.std.specs.Prelude.{ℕ, ◌+◌, ◌==◌, ◌≤◌, ◌<◌, Bool, true, false, not, ◌&&◌, List, [], ◌∷◌, map, filter, Option, Some, None, nat_le, nat_lt}
use Rattle.vtable.specs.declared.table.VRow.{VRow}

-- a version's own number, its table's number, the commits at which it begins and ends, and its row
pub record Version : Type 0 where
  pub number : ℕ
  pub table : ℕ
  pub begins : ℕ
  pub ends : Option ℕ
  pub row : VRow

-- whether it has ended when so many commits are seen
abbrev pub ended_at : ℕ → Option ℕ → Bool
ended_at s None = false
ended_at s (Some k) = nat_le k s

-- whether a snapshot of so many commits sees the version
abbrev pub sees : ℕ → Version → Bool
sees s v = nat_le v.begins s && not (ended_at s v.ends)

abbrev pub without_end : Version → Version
without_end v = record { number = v.number; table = v.table; begins = v.begins; ends = None; row = v.row }

-- What a snapshot sees. When a version that it sees will end is nothing that it sees.
abbrev pub seen_at : ℕ → List Version → List Version
seen_at s versions = map without_end (filter (sees s) versions)

abbrev pub sees_of : ℕ → ℕ → Version → Bool
sees_of s table v = (v.table == table) && sees s v

-- the rows of a table that a snapshot sees, in the order of the versions
abbrev pub rows_seen : ℕ → ℕ → List Version → List VRow
rows_seen s table versions = map (λ (v : Version). v.row) (filter (sees_of s table) versions)

-- a version that no commit has ended
abbrev pub is_open : Option ℕ → Bool
is_open None = true
is_open (Some k) = false

abbrev pub is_newest : ℕ → Version → Bool
is_newest table v = (v.table == table) && is_open v.ends

-- a version that this commit ends
abbrev pub ended_version : ℕ → Version → Version
ended_version k v = record { number = v.number; table = v.table; begins = v.begins; ends = Some k; row = v.row }

-- rows of a table that begin with a commit, as versions numbered from this number on
abbrev pub begun_versions : ℕ → ℕ → ℕ → List VRow → List Version
begun_versions number k table [] = []
begun_versions number k table (row ∷ rows) =
    record { number = number; table = table; begins = k; ends = None; row = row } ∷ begun_versions (number + 1) k table rows

-- the numbers ascend
abbrev pub AreNumbered : ℕ → List Version → Type 0
AreNumbered low [] = Unit {0}
AreNumbered low (v ∷ versions) = (low ≤ v.number) × AreNumbered (v.number + 1) versions

-- Whether a version may be kept: it hasn't ended, or has ended past the oldest live snapshot.
abbrev pub may_stay_by : Option ℕ → Option ℕ → Bool
may_stay_by oldest None = true
may_stay_by None (Some k) = false
may_stay_by (Some s) (Some k) = nat_lt s k

abbrev pub may_stay : Option ℕ → Version → Bool
may_stay oldest v = may_stay_by oldest v.ends

-- what clean-up leaves
abbrev pub cleaned : Option ℕ → List Version → List Version
cleaned oldest versions = filter (may_stay oldest) versions

-- a table's newest rows
abbrev pub newest_rows : ℕ → List Version → List VRow
newest_rows table versions = map (λ (v : Version). v.row) (filter (is_newest table) versions)

-- it begins, and ends if it does, with an applied commit, and ends past where it began
abbrev pub EndsBy : ℕ → ℕ → Option ℕ → Type 0
EndsBy applied begins None = begins ≤ applied
EndsBy applied begins (Some k) = (begins < k) × (k ≤ applied)

abbrev pub IsPlaced : ℕ → Version → Type 0
IsPlaced applied v = EndsBy applied v.begins v.ends
