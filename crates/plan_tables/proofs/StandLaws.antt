-- The rows that stand in a variant, and the answer that they make.
use Rattle.std.proofs.Common.{◌≡◌, ◌∙◌, ℕ, ◌==◌, Bool, true, false, ◌&&◌, List, [], ◌∷◌, ◌++◌, map, filter, length, if◌then◌else◌, refl, sym, ap, true≢false}
use Rattle.std.specs.List.{list_all}
use Rattle.feature_expr.specs.Satisfaction.{satisfies}
use Rattle.plain_relation.specs.Relations.{Cell, relation_with, row_of}
use Rattle.row_conditions.proofs.BoolLaws.{and_first, and_second}
use Rattle.plan_tables.specs.Tables.{columns_at, heading}
use Rattle.vtable.specs.Answers.{IsAnswerAt, answer_at, column_at, fits, is_whole, names_are_distinct}
use Rattle.vtable.specs.declared.table.VColumn.{VColumn}
use Rattle.vtable.specs.declared.table.VRow.{VRow}
use Rattle.vtable.specs.declared.table.VTable.{VTable}

-- the rows that are there, cut to the columns that are
abbrev pub standing : List ℕ → List VColumn → List VRow → List (List Cell)
standing c columns [] = []
standing c columns (row ∷ rows) = if satisfies c row.cond then row_of (map (column_at c) columns) row.cells ∷ standing c columns rows else standing c columns rows

-- whether each of them has a cell of the column's kind in each column that is there
abbrev pub are_filled : List ℕ → List VColumn → List VRow → Bool
are_filled c columns [] = true
are_filled c columns (row ∷ rows) = if satisfies c row.cond then (fits (map (column_at c) columns) row.cells && are_filled c columns rows) else are_filled c columns rows

abbrev pub are_whole : ℕ → List VRow → Bool
are_whole width [] = true
are_whole width (row ∷ rows) = (length row.cells == width) && are_whole width rows

there_step : (c : List ℕ) (columns : List VColumn) (row : VRow) (rows : List VRow) (there : Bool) → satisfies c row.cond ≡ there → map (row_of (map (column_at c) columns)) (map (λ (r : VRow). r.cells) (filter (λ (r : VRow). satisfies c r.cond) rows)) ≡ standing c columns rows → map (row_of (map (column_at c) columns)) (map (λ (r : VRow). r.cells) (filter (λ (r : VRow). satisfies c r.cond) (row ∷ rows))) ≡ standing c columns (row ∷ rows)
there_step c columns row rows true is rest = rw is (ap (λ xs. row_of (map (column_at c) columns) row.cells ∷ xs) rest)
there_step c columns row rows false is rest = rw is rest

rows_there : (c : List ℕ) (columns : List VColumn) (rows : List VRow) → map (row_of (map (column_at c) columns)) (map (λ (r : VRow). r.cells) (filter (λ (r : VRow). satisfies c r.cond) rows)) ≡ standing c columns rows
rows_there c columns [] = refl
rows_there c columns (row ∷ rows) = there_step c columns row rows (satisfies c row.cond) refl (rows_there c columns rows)

-- what a table is in a variant
pub answer_is : (c : List ℕ) (columns : List VColumn) (rows : List VRow) → answer_at c (record { columns = columns; rows = rows }) ≡ relation_with (columns_at c columns) (standing c columns rows)
answer_is c columns rows = ap (relation_with (columns_at c columns)) (rows_there c columns rows)

pub answer_of : (c : List ℕ) (table : VTable) → answer_at c table ≡ relation_with (columns_at c table.columns) (standing c table.columns table.rows)
answer_of c table = answer_is c table.columns table.rows

filled_step : (c : List ℕ) (columns : List VColumn) (row : VRow) (rows : List VRow) (there : Bool) → satisfies c row.cond ≡ there → list_all (fits (map (column_at c) columns)) (map (λ (r : VRow). r.cells) (filter (λ (r : VRow). satisfies c r.cond) rows)) ≡ are_filled c columns rows → list_all (fits (map (column_at c) columns)) (map (λ (r : VRow). r.cells) (filter (λ (r : VRow). satisfies c r.cond) (row ∷ rows))) ≡ are_filled c columns (row ∷ rows)
filled_step c columns row rows true is rest = rw is (ap (λ b. fits (map (column_at c) columns) row.cells && b) rest)
filled_step c columns row rows false is rest = rw is rest

filled_is : (c : List ℕ) (columns : List VColumn) (rows : List VRow) → list_all (fits (map (column_at c) columns)) (map (λ (r : VRow). r.cells) (filter (λ (r : VRow). satisfies c r.cond) rows)) ≡ are_filled c columns rows
filled_is c columns [] = refl
filled_is c columns (row ∷ rows) = filled_step c columns row rows (satisfies c row.cond) refl (filled_is c columns rows)

whole_is : (table : VTable) (rows : List VRow) → list_all (is_whole table) rows ≡ are_whole (length table.columns) rows
whole_is table [] = refl
whole_is table (row ∷ rows) = ap (λ b. (length row.cells == length table.columns) && b) (whole_is table rows)

-- a well-formed answer, said of columns and rows
pub record Stands (c : List ℕ) (columns : List VColumn) (rows : List VRow) : Type 0 where
  pub distinct : names_are_distinct (columns_at c columns) ≡ true
  pub whole : are_whole (length columns) rows ≡ true
  pub filled : are_filled c columns rows ≡ true

pub stands_from : (c : List ℕ) (table : VTable) → IsAnswerAt c table → Stands c table.columns table.rows
stands_from c table it = record {
  distinct = it.distinct;
  whole = sym (whole_is table table.rows) ∙ it.whole;
  filled = sym (filled_is c table.columns table.rows) ∙ it.filled;
}

pub stands_as : (c : List ℕ) (table : VTable) → Stands c table.columns table.rows → IsAnswerAt c table
stands_as c table it = record {
  distinct = it.distinct;
  whole = whole_is table table.rows ∙ it.whole;
  filled = filled_is c table.columns table.rows ∙ it.filled;
}

-- ---- two lists of rows, one behind the other

append_step : (c : List ℕ) (columns : List VColumn) (row : VRow) (xs ys : List VRow) (there : Bool) → satisfies c row.cond ≡ there → standing c columns (xs ++ ys) ≡ standing c columns xs ++ standing c columns ys → standing c columns (row ∷ (xs ++ ys)) ≡ standing c columns (row ∷ xs) ++ standing c columns ys
append_step c columns row xs ys true is rest = rw is (ap (λ zs. row_of (map (column_at c) columns) row.cells ∷ zs) rest)
append_step c columns row xs ys false is rest = rw is rest

pub standing-append : (c : List ℕ) (columns : List VColumn) (xs ys : List VRow) → standing c columns (xs ++ ys) ≡ standing c columns xs ++ standing c columns ys
standing-append c columns [] ys = refl
standing-append c columns (row ∷ xs) ys = append_step c columns row xs ys (satisfies c row.cond) refl (standing-append c columns xs ys)

both_filled : (c : List ℕ) (columns : List VColumn) (row : VRow) (xs ys : List VRow) (there : Bool) → satisfies c row.cond ≡ there → (are_filled c columns xs ≡ true → are_filled c columns (xs ++ ys) ≡ true) → are_filled c columns (row ∷ xs) ≡ true → are_filled c columns (row ∷ (xs ++ ys)) ≡ true
both_filled c columns row xs ys false is rest h = rw is (rest (rw is at h))
both_filled c columns row xs ys true is rest h =
    let k = rw is at h in
    rw is (both _ _ (and_first _ _ k) (rest (and_second (fits (map (column_at c) columns) row.cells) _ k)))
  where
    both : (a b : Bool) → a ≡ true → b ≡ true → (a && b) ≡ true
    both true b h k = k
    both false b h k = absurd (true≢false (sym h))

pub filled-append : (c : List ℕ) (columns : List VColumn) (xs ys : List VRow) → are_filled c columns xs ≡ true → are_filled c columns ys ≡ true → are_filled c columns (xs ++ ys) ≡ true
filled-append c columns [] ys h k = k
filled-append c columns (row ∷ xs) ys h k = both_filled c columns row xs ys (satisfies c row.cond) refl (λ x. filled-append c columns xs ys x k) h

pub whole-append : (width : ℕ) (xs ys : List VRow) → are_whole width xs ≡ true → are_whole width ys ≡ true → are_whole width (xs ++ ys) ≡ true
whole-append width [] ys h k = k
whole-append width (row ∷ xs) ys h k = both (length row.cells == width) (are_whole width (xs ++ ys)) (and_first (length row.cells == width) (are_whole width xs) h) (whole-append width xs ys (and_second (length row.cells == width) (are_whole width xs) h) k) where
  both : (a b : Bool) → a ≡ true → b ≡ true → (a && b) ≡ true
  both true b h k = k
  both false b h k = absurd (true≢false (sym h))

at_step : (c : List ℕ) (x : VColumn) (xs ys : List VColumn) (there : Bool) → satisfies c x.cond ≡ there → columns_at c (xs ++ ys) ≡ columns_at c xs ++ columns_at c ys → columns_at c (x ∷ (xs ++ ys)) ≡ columns_at c (x ∷ xs) ++ columns_at c ys
at_step c x xs ys true is rest = rw is (ap (λ zs. heading x ∷ zs) rest)
at_step c x xs ys false is rest = rw is rest

pub columns_at-append : (c : List ℕ) (xs ys : List VColumn) → columns_at c (xs ++ ys) ≡ columns_at c xs ++ columns_at c ys
columns_at-append c [] ys = refl
columns_at-append c (x ∷ xs) ys = at_step c x xs ys (satisfies c x.cond) refl (columns_at-append c xs ys)
