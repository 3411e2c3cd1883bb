-- What changes of tables make of versions: of the newest rows of each table those at the places that end get this commit as
-- their end, and the rows that begin stand behind all others, under the next numbers.
use Rattle.std.specs.Prelude.{ℕ, ◌+◌, ◌==◌, List, [], ◌∷◌, ◌++◌, length, if◌then◌else◌}
use Rattle.table_changes.specs.declared.change.TableChange.{TableChange}
use Rattle.version_lists.specs.Versions.{Version, begun_versions, ended_version, is_newest}

-- a row at a place, where those at the next of these places end with a commit
abbrev pub ended_here : ℕ → ℕ → List ℕ → Version → Version
ended_here k place [] v = v
ended_here k place (e ∷ ends) v = if e == place then ended_version k v else v

-- the places behind this one
abbrev pub ends_behind : ℕ → List ℕ → List ℕ
ends_behind place [] = []
ends_behind place (e ∷ ends) = if e == place then ends else e ∷ ends

-- The newest rows of a table are counted from a place on, and those at these places end with a commit.
abbrev pub with_ends : ℕ → ℕ → ℕ → List ℕ → List Version → List Version
with_ends table k place ends [] = []
with_ends table k place ends (v ∷ versions) = if is_newest table v then ended_here k place ends v ∷ with_ends table k (place + 1) (ends_behind place ends) versions else v ∷ with_ends table k place ends versions

-- versions after a change of a table by a commit, where this is the next number
abbrev pub with_change : ℕ → ℕ → TableChange → List Version → List Version
with_change k next change versions = with_ends change.table k 0 change.ends versions ++ begun_versions next k change.table change.begun

abbrev pub with_changes : ℕ → ℕ → List TableChange → List Version → List Version
with_changes k next [] versions = versions
with_changes k next (change ∷ changes) versions = with_changes k (next + length change.begun) changes (with_change k next change versions)

-- how many rows begin
abbrev pub begun_count : List TableChange → ℕ
begun_count [] = 0
begun_count (change ∷ changes) = length change.begun + begun_count changes
