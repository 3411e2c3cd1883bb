-- The marks of a table's rows after its change, and the rows that a change ends.
use Rattle.std.specs.Prelude.{ℕ, ◌+◌, ◌==◌, Bool, false, List, [], ◌∷◌, if◌then◌else◌}
use Rattle.row_versions.specs.declared.ended.EndedRow.{EndedRow}
use Rattle.row_versions.specs.declared.mark.Mark.{Mark}
use Rattle.version_changes.specs.Changes.{ends_behind}
use Rattle.vtable.specs.declared.table.VRow.{VRow}

abbrev pub begun_marks : ℕ → ℕ → List VRow → List Mark
begun_marks number k [] = []
begun_marks number k (row ∷ rows) = record { number = number; begins = k } ∷ begun_marks (number + 1) k rows

-- whether the row at this place ends
abbrev pub is_end : ℕ → List ℕ → Bool
is_end place [] = false
is_end place (e ∷ ends) = e == place

abbrev pub marks_without : ℕ → List ℕ → List Mark → List Mark
marks_without place ends [] = []
marks_without place ends (mark ∷ marks) =
    if is_end place ends then marks_without (place + 1) (ends_behind place ends) marks else mark ∷ marks_without (place + 1) (ends_behind place ends) marks

abbrev pub end_row : ℕ → ℕ → Mark → VRow → EndedRow
end_row k table mark row = record { number = mark.number; table = table; begins = mark.begins; ends = k; row = row }

-- the rows at these places, as rows that this commit ends
abbrev pub rows_ended : ℕ → ℕ → ℕ → List ℕ → List Mark → List VRow → List EndedRow
rows_ended k table place ends [] rows = []
rows_ended k table place ends (mark ∷ marks) [] = []
rows_ended k table place ends (mark ∷ marks) (row ∷ rows) =
    if is_end place ends then end_row k table mark row ∷ rows_ended k table (place + 1) (ends_behind place ends) marks rows else rows_ended k table (place + 1) (ends_behind place ends) marks rows
