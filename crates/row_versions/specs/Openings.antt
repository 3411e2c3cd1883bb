-- Tables before any commit: their numbers, and the marks of their rows.
use Rattle.std.specs.Prelude.{ℕ, ◌+◌, ◌≡◌, List, [], ◌∷◌, length}
use Rattle.plan_tables.specs.declared.rows.TableRows.{TableRows}
use Rattle.row_versions.specs.declared.mark.Mark.{Mark}
use Rattle.vtable.specs.declared.table.VRow.{VRow}

-- the tables have the numbers from this one on
abbrev pub AreCounted : ℕ → List TableRows → Type 0
AreCounted number [] = Unit {0}
AreCounted number (table ∷ tables) = (table.table ≡ number) × AreCounted (number + 1) tables

abbrev pub marks_from : ℕ → List VRow → List Mark
marks_from number [] = []
marks_from number (row ∷ rows) = record { number = number; begins = 0 } ∷ marks_from (number + 1) rows

abbrev pub first_marks : ℕ → List TableRows → List (List Mark)
first_marks number [] = []
first_marks number (table ∷ tables) = marks_from number table.rows.rows ∷ first_marks (number + length table.rows.rows) tables
