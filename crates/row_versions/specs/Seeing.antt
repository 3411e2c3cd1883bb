-- What a snapshot sees of a table, from what is held: its newest rows that had begun by then, and among them, at the places
-- of their numbers, its ended rows that had begun and not ended.
use Rattle.std.specs.Prelude.{ℕ, suc, List, [], ◌∷◌, ◌++◌, Option, Some, None, nat_le, if◌then◌else◌}
use Rattle.plan_tables.specs.declared.rows.TableRows.{TableRows}
use Rattle.row_versions.specs.Holdings.{ended_row}
use Rattle.row_versions.specs.declared.ended.EndedRow.{EndedRow}
use Rattle.row_versions.specs.declared.mark.Mark.{Mark}
use Rattle.row_versions.specs.declared.seen.SeenRow.{SeenRow}
use Rattle.version_lists.specs.Versions.{sees_of}
use Rattle.vtable.specs.declared.table.VRow.{VRow}

abbrev pub row_of : SeenRow → VRow
row_of it = it.row

abbrev pub newest_by : ℕ → Mark → VRow → List SeenRow
newest_by s mark row = if nat_le mark.begins s then record { number = mark.number; row = row } ∷ [] else []

abbrev pub seen_newest : ℕ → List Mark → List VRow → List SeenRow
seen_newest s [] rows = []
seen_newest s (mark ∷ marks) [] = []
seen_newest s (mark ∷ marks) (row ∷ rows) = newest_by s mark row ++ seen_newest s marks rows

abbrev pub seen_table : ℕ → Option (List Mark) → Option TableRows → List SeenRow
seen_table s None rows = []
seen_table s (Some marks) None = []
seen_table s (Some marks) (Some table) = seen_newest s marks table.rows.rows

-- a row, put before the first one with no lower number
abbrev pub put_row : SeenRow → List SeenRow → List SeenRow
put_row it [] = it ∷ []
put_row it (other ∷ rows) = if nat_le it.number other.number then it ∷ other ∷ rows else other ∷ put_row it rows

-- how many rows stand in front of that one
abbrev pub place_in : ℕ → List SeenRow → ℕ
place_in number [] = 0
place_in number (other ∷ rows) = if nat_le number other.number then 0 else suc (place_in number rows)

abbrev pub put_ended : ℕ → ℕ → EndedRow → List SeenRow → List SeenRow
put_ended s table e rows = if sees_of s table (ended_row e) then put_row (record { number = e.number; row = e.row }) rows else rows

abbrev pub put_all : ℕ → ℕ → List EndedRow → List SeenRow → List SeenRow
put_all s table [] rows = rows
put_all s table (e ∷ ended) rows = put_ended s table e (put_all s table ended rows)
