-- The rows of tables before any commit are held as their first versions.
use Rattle.std.proofs.Common.{◌≡◌, ℕ, ◌+◌, ◌≤◌, suc, List, [], ◌∷◌, ◌++◌, length, refl, sym, ◌∙◌, ap, ap₂, subst, arith}
use Rattle.std.specs.List.{AllByRecursion}
use Rattle.plan_tables.specs.declared.rows.TableRows.{TableRows}
use Rattle.row_versions.specs.Holdings.{AreMarked, AreTables, IsHolding, IsKept, all_newest, newest_of, newest_row, stored}
use Rattle.row_versions.specs.Openings.{AreCounted, first_marks, marks_from}
use Rattle.row_versions.specs.declared.mark.Mark.{Mark}
use Rattle.row_versions.specs.Stored.{Stored, columns_of, first_versions, opened, row_count}
use Rattle.version_lists.proofs.BlockLaws.{already}
use Rattle.version_lists.specs.Orders.{AreLower, in_order}
use Rattle.version_lists.specs.Versions.{AreNumbered, IsPlaced, Version, begun_versions}
use Rattle.vtable.specs.declared.table.VRow.{VRow}

marked : (number table : ℕ) (rows : List VRow) → newest_of table (marks_from number rows) rows ≡ begun_versions number 0 table rows
marked number table [] = refl
marked number table (row ∷ rows) = ap (λ xs. newest_row table (record { number = number; begins = 0 }) row ∷ xs) (marked (number + 1) table rows)

all_marked : (number : ℕ) (tables : List TableRows) → all_newest (first_marks number tables) tables ≡ first_versions number tables
all_marked number [] = refl
all_marked number (table ∷ tables) = ap₂ (λ xs ys. xs ++ ys) (marked number table.table table.rows.rows) (all_marked (number + length table.rows.rows) tables)

numbered_with : (low number table : ℕ) (rows : List VRow) (behind : List Version) → low ≤ number → AreNumbered (number + length rows) behind → AreNumbered low (begun_versions number 0 table rows ++ behind)
numbered_with low number table [] behind h k = lower low number behind h (subst (λ n. AreNumbered n behind) (plus_none number) k) where
  plus_none : (n : ℕ) → n + 0 ≡ n
  plus_none n = omega arith

  lower : (least low : ℕ) (versions : List Version) → least ≤ low → AreNumbered low versions → AreNumbered least versions
  lower least low [] h k = tt
  lower least low (v ∷ versions) h k = (let a = k.0 in omega (arith, a, h), k.1)
numbered_with low number table (row ∷ rows) behind h k =
    (h, numbered_with (number + 1) (number + 1) table rows behind (omega arith) (subst (λ n. AreNumbered n behind) (moved number (length rows)) k)) where
      moved : (m n : ℕ) → m + suc n ≡ m + 1 + n
      moved m n = omega arith

numbered : (number : ℕ) (tables : List TableRows) → AreNumbered number (first_versions number tables)
numbered number [] = tt
numbered number (table ∷ tables) =
    numbered_with number number table.table table.rows.rows (first_versions (number + length table.rows.rows) tables) (omega arith) (numbered (number + length table.rows.rows) tables)

lower_with : (high number table : ℕ) (rows : List VRow) (behind : List Version) → number + length rows ≤ high → AreLower high behind → AreLower high (begun_versions number 0 table rows ++ behind)
lower_with high number table [] behind h k = k
lower_with high number table (row ∷ rows) behind h k = (omega (arith, h), lower_with high (number + 1) table rows behind (omega (arith, h)) k)

lower_all : (high number : ℕ) (tables : List TableRows) → number + row_count tables ≤ high → AreLower high (first_versions number tables)
lower_all high number [] h = tt
lower_all high number (table ∷ tables) h =
    lower_with high number table.table table.rows.rows (first_versions (number + length table.rows.rows) tables) (omega (arith, h)) (lower_all high (number + length table.rows.rows) tables (omega (arith, h)))

placed_with : (number table : ℕ) (rows : List VRow) (behind : List Version) → AllByRecursion (IsPlaced 0) behind → AllByRecursion (IsPlaced 0) (begun_versions number 0 table rows ++ behind)
placed_with number table [] behind h = h
placed_with number table (row ∷ rows) behind h = (omega arith, placed_with (number + 1) table rows behind h)

placed : (number : ℕ) (tables : List TableRows) → AllByRecursion (IsPlaced 0) (first_versions number tables)
placed number [] = tt
placed number (table ∷ tables) = placed_with number table.table table.rows.rows (first_versions (number + length table.rows.rows) tables) (placed (number + length table.rows.rows) tables)

are_marked : (low number : ℕ) (rows : List VRow) → low ≤ number → AreMarked low (marks_from number rows) rows
are_marked low number [] h = tt
are_marked low number (row ∷ rows) h = (h, are_marked (number + 1) (number + 1) rows (omega arith))

are_tables : (first number : ℕ) (tables : List TableRows) → AreCounted first tables → AreTables first (first_marks number tables) tables
are_tables first number [] h = tt
are_tables first number (table ∷ tables) h = (h.0, are_marked 0 number table.rows.rows (omega arith), are_tables (first + 1) (number + length table.rows.rows) tables h.1)

versions_are : (tables : List TableRows) → in_order (all_newest (first_marks 0 tables) tables) ≡ first_versions 0 tables
versions_are tables = ap in_order (all_marked 0 tables) ∙ already 0 (first_versions 0 tables) (numbered 0 tables)

pub opened_as : (tables : List TableRows) → stored [] (first_marks 0 tables) tables (row_count tables) 0 ≡ opened tables
opened_as tables = ap (λ (versions : List Version). record_of versions) (versions_are tables) where
  record_of : List Version → Stored
  record_of versions = record { columns = columns_of tables; versions = versions; next = row_count tables; applied = 0 }

kept : (tables : List TableRows) → IsKept (opened tables)
kept tables = record { numbered = numbered 0 tables; lower = lower_all (row_count tables) 0 tables (omega arith); placed = placed 0 tables }

pub opened_holding : (tables : List TableRows) → AreCounted 0 tables → IsHolding [] (first_marks 0 tables) tables (row_count tables) 0
opened_holding tables h = record { kept = subst IsKept (sym (opened_as tables)) (kept tables); in_turn = tt; marked = are_tables 0 0 tables h }

pub opening_stored : (marks : List (List Mark)) (tables : List TableRows) (next : ℕ) → marks ≡ first_marks 0 tables → next ≡ row_count tables → stored [] marks tables next 0 ≡ opened tables
opening_stored marks tables next are is = ap₂ (λ ms n. stored [] ms tables n 0) are is ∙ opened_as tables

pub opening_holding : (marks : List (List Mark)) (tables : List TableRows) (next : ℕ) → AreCounted 0 tables → marks ≡ first_marks 0 tables → next ≡ row_count tables → IsHolding [] marks tables next 0
opening_holding marks tables next h are is =
    subst (λ ms. IsHolding [] ms tables next 0) (sym are) (subst (λ n. IsHolding [] (first_marks 0 tables) tables n 0) (sym is) (opened_holding tables h))
