-- The rows that are there in some variant are their table in each, before any commit.
use Rattle.std.proofs.Common.{◌≡◌, ◌∙◌, ℕ, zero, suc, ◌+◌, ◌<◌, ◌≤◌, Bool, true, false, cond, ◌&&◌, List, [], ◌∷◌, map, filter, length, Option, Some, None, slice_get, refl, sym, ap, ap₂, subst, arith, rules, true≢false}
use Rattle.std.proofs.lemmas.List.Sums.{sum_by-cons}
use Rattle.std.specs.List.{list_all}
use Rattle.condition_sat.proofs.PossibleLaws.{each_fails}
use Rattle.condition_sat.specs.Admitted.{IsAdmitted}
use Rattle.feature_expr.specs.Expressions.{and_of, weight_of}
use Rattle.feature_expr.specs.Satisfaction.{satisfies}
use Rattle.feature_expr.specs.declared.expr.Expr.{Expr}
use Rattle.opened_tables.specs.Opened.{opened_tables, present, present_tables}
use Rattle.plain_relation.specs.Relations.{Relation, columns_of, relation_of, relation_with, row_of}
use Rattle.plain_relation.specs.Relations as plain
use Rattle.plan_tables.specs.declared.rows.TableRows.{TableRows}
use Rattle.query_answers.proofs.ScanLaws.{scan_stored}
use Rattle.query_answers.specs.Openings.{opening_from, opening_tables}
use Rattle.query_meaning.specs.Bounds.{column_weight_of}
use Rattle.row_conditions.proofs.FoldingLaws.{and_holds}
use Rattle.row_conditions.specs.RowConditions.{columns_weight}
use Rattle.row_versions.specs.Openings.{AreCounted}
use Rattle.row_versions.specs.Stored.{columns_of as columns_in}
use Rattle.stored_versions.proofs.OpeningLaws.{opening_means, stored_within}
use Rattle.stored_versions.specs.Databases.{opening_size}
use Rattle.stored_versions.specs.Openings.{Opening, opening_rows}
use Rattle.stored_versions.specs.StoredViews.{IsStoredView}
use Rattle.values.specs.declared.value.Value.{Value}
use Rattle.vschema.specs.Formed.{IsFormed}
use Rattle.vschema.specs.Gaps.{have_all_values}
use Rattle.vschema.specs.Variants.{opening_database, table_in}
use Rattle.vschema.specs.declared.catalog.Catalog.{Catalog}
use Rattle.vschema.specs.declared.catalog.Column.{Column}
use Rattle.vschema.specs.declared.catalog.OpeningRow.{OpeningRow}
use Rattle.vschema.specs.declared.catalog.Table.{Table}
use Rattle.vtable.specs.Answers.{IsAnswerAt, answer_at, column_at, fits, is_whole}
use Rattle.vtable.specs.TableForm.{rows_weight}
use Rattle.vtable.specs.declared.table.VRow.{VRow}
use Rattle.write_meaning.specs.Members.{SameRows}
use Rattle.write_meaning.specs.RowWrites.{can_be_there, holding}
use Rattle.write_meaning.specs.StoredTables.{stored_column, stored_columns, stored_table}

abbrev cells_there : List ℕ → List VRow → List (List (Option Value))
cells_there c rows = map (λ (row : VRow). row.cells) (filter (λ (row : VRow). satisfies c row.cond) rows)

-- ---- In a variant that has the table, no row that is there is left out.

never_there : (table row b : Bool) → table ≡ true → b ≡ (table && row) → b ≡ false → row ≡ false
never_there true row b there is fails = sym is ∙ fails
never_there false row b there is fails = search rules

module _ (model : Expr) (table : Table) (c : List ℕ) (admitted : IsAdmitted model c) where
  held_here : (row : VRow) (held rows : List VRow) (b : Bool) → satisfies c row.cond ≡ b → cells_there c held ≡ cells_there c rows → cells_there c (row ∷ held) ≡ cells_there c (row ∷ rows)
  held_here row held rows true is same = rw is (ap (λ xs. row.cells ∷ xs) same)
  held_here row held rows false is same = rw is same

  held_one : (row : VRow) (held rows : List VRow) (b : Bool) → satisfies c table.cond ≡ true → can_be_there model table row ≡ b → cells_there c held ≡ cells_there c rows → cells_there c (cond b (row ∷ held) held) ≡ cells_there c (row ∷ rows)
  held_one row held rows true there is same = held_here row held rows (satisfies c row.cond) refl same
  held_one row held rows false there is same =
      let away : satisfies c row.cond ≡ false = never_there (satisfies c table.cond) (satisfies c row.cond) (satisfies c (and_of table.cond row.cond)) there (and_holds c table.cond row.cond) (each_fails model (λ c. satisfies c (and_of table.cond row.cond)) is c admitted) in
      rw away same

  held_rows : (rows : List VRow) → satisfies c table.cond ≡ true → cells_there c (holding model table rows) ≡ cells_there c rows
  held_rows [] there = refl
  held_rows (row ∷ rows) there = held_one row (holding model table rows) rows (can_be_there model table row) there refl (held_rows rows there)

  nothing_by : (column : Column) (places : List (Option plain.Column)) (b : Bool) → satisfies c (stored_column table column).cond ≡ b → b ≡ false → columns_of places ≡ [] → columns_of (column_at c (stored_column table column) ∷ places) ≡ []
  nothing_by column places true is never rest = search rules
  nothing_by column places false is never rest = rw is rest

  nothing_there : (columns : List Column) → satisfies c table.cond ≡ false → columns_of (map (column_at c) (map (stored_column table) columns)) ≡ []
  nothing_there [] away = refl
  nothing_there (column ∷ columns) away =
      nothing_by column (map (column_at c) (map (stored_column table) columns)) (satisfies c (and_of table.cond column.cond)) refl
      (and_holds c table.cond column.cond ∙ ap (λ b. b && satisfies c column.cond) away) (nothing_there columns away)

  held_by : (rows : List VRow) (b : Bool) → satisfies c table.cond ≡ b → answer_at c (stored_table table (holding model table rows)) ≡ answer_at c (stored_table table rows)
  held_by rows true there = ap (relation_of (map (column_at c) (stored_columns table))) (held_rows rows there)
  held_by rows false away =
      let places : List (Option plain.Column) = map (column_at c) (stored_columns table) in
      let none : columns_of places ≡ [] = nothing_there table.columns away in
      let bare : (cells : List (List (Option Value))) → relation_of places cells ≡ plain.absent = λ cells. ap (λ columns. relation_with columns (map (row_of places) cells)) none in
      bare (cells_there c (holding model table rows)) ∙ sym (bare (cells_there c rows))

  held_answer : (rows : List VRow) → answer_at c (stored_table table (holding model table rows)) ≡ answer_at c (stored_table table rows)
  held_answer rows = held_by rows (satisfies c table.cond) refl

-- ---- They are well formed where all rows are.

both_true : (a b : Bool) → (a && b) ≡ true → (a ≡ true) × (b ≡ true)
both_true true b is = (refl, is)
both_true false b is = absurd (true≢false (sym is))

both_of : (a b : Bool) → a ≡ true → b ≡ true → (a && b) ≡ true
both_of a b h k = rw (h, k) refl

all_filter : {X : Type 0} (p q : X → Bool) (xs : List X) → list_all p xs ≡ true → list_all p (filter q xs) ≡ true
all_filter p q [] h = refl
all_filter p q (x ∷ xs) h =
    let parts = both_true (p x) (list_all p xs) h in
    by (q x) parts.0 (all_filter p q xs parts.1) where
      by : (b : Bool) → p x ≡ true → list_all p (filter q xs) ≡ true → list_all p (cond b (x ∷ filter q xs) (filter q xs)) ≡ true
      by true here rest = both_of (p x) (list_all p (filter q xs)) here rest
      by false here rest = rest

fill_by : (c : List ℕ) (places : List (Option plain.Column)) (row : VRow) (held rows : List VRow) (b there : Bool) → satisfies c row.cond ≡ there
    → list_all (fits places) (map (λ (row : VRow). row.cells) (cond there (row ∷ filter (λ (row : VRow). satisfies c row.cond) rows) (filter (λ (row : VRow). satisfies c row.cond) rows))) ≡ true
    → (list_all (fits places) (cells_there c rows) ≡ true → list_all (fits places) (cells_there c held) ≡ true)
    → list_all (fits places) (cells_there c (cond b (row ∷ held) held)) ≡ true
fill_by c places row held rows false true is all rest = rest (both_true (fits places row.cells) (list_all (fits places) (cells_there c rows)) all).1
fill_by c places row held rows false false is all rest = rest all
fill_by c places row held rows true true is all rest =
    let parts = both_true (fits places row.cells) (list_all (fits places) (cells_there c rows)) all in
    rw is (both_of (fits places row.cells) (list_all (fits places) (cells_there c held)) parts.0 (rest parts.1))
fill_by c places row held rows true false is all rest = rw is (rest all)

fill_held : (c : List ℕ) (places : List (Option plain.Column)) (p : VRow → Bool) (rows : List VRow) → list_all (fits places) (cells_there c rows) ≡ true → list_all (fits places) (cells_there c (filter p rows)) ≡ true
fill_held c places p [] h = refl
fill_held c places p (row ∷ rows) h = fill_by c places row (filter p rows) rows (p row) (satisfies c row.cond) refl h (fill_held c places p rows)

held_formed : (model : Expr) (table : Table) (c : List ℕ) (rows : List VRow) → IsAnswerAt c (stored_table table rows) → IsAnswerAt c (stored_table table (holding model table rows))
held_formed model table c rows formed = record {
  distinct = formed.distinct;
  whole = all_filter (is_whole (stored_table table rows)) (can_be_there model table) rows formed.whole;
  filled = fill_held c (map (column_at c) (stored_columns table)) (can_be_there model table) rows formed.filled;
}

-- ---- They are no more.

few_by : (count n : ℕ) (b : Bool) (row : VRow) (held : List VRow) → length held ≤ n → length (cond b (row ∷ held) held) ≤ n + 1
few_by count n true row held h = omega (arith, h)
few_by count n false row held h = omega (arith, h)

few : (p : VRow → Bool) (rows : List VRow) → length (filter p rows) ≤ length rows
few p [] = omega arith
few p (row ∷ rows) = let h = few_by 0 (length rows) (p row) row (filter p rows) (few p rows) in omega (arith, h)

weigh_cons : (row : VRow) (rows : List VRow) → rows_weight (row ∷ rows) ≡ weight_of row.cond + rows_weight rows
weigh_cons row rows = sum_by-cons (λ (row : VRow). weight_of row.cond) row rows

light_by : (n : ℕ) (b : Bool) (row : VRow) (held : List VRow) → rows_weight held ≤ n → rows_weight (cond b (row ∷ held) held) ≤ weight_of row.cond + n
light_by n true row held h = let e = weigh_cons row held in omega (arith, e, h)
light_by n false row held h = omega (arith, h)

light : (p : VRow → Bool) (rows : List VRow) → rows_weight (filter p rows) ≤ rows_weight rows
light p [] = omega arith
light p (row ∷ rows) =
    let h = light_by (rows_weight rows) (p row) row (filter p rows) (light p rows) in
    let e = weigh_cons row rows in
    omega (arith, e, h)

-- ---- So they are their table before any commit.

same_of : (one other : Relation) → one ≡ other → SameRows one other
same_of one other is = subst (SameRows one) is (record { columns = refl; rows = λ row. (λ h. h, λ h. h) })

module _ (opening : Opening) (formed : IsFormed opening.catalog opening.rows) (filled : (c : List ℕ) → IsAdmitted opening.catalog.model c → have_all_values c opening.catalog.tables opening.rows ≡ true) where
  pub opened_view : (number : ℕ) (table : Table) → slice_get opening.catalog.tables number ≡ Some table → IsStoredView opening [] [] number table (holding opening.catalog.model table (opening_rows number opening.rows))
  opened_view number table there =
      let model : Expr = opening.catalog.model in
      let rows : List VRow = opening_rows number opening.rows in
      let stored = scan_stored opening.catalog opening.rows number table formed filled there in
      record {
        formed = λ c admitted. held_formed model table c rows (stored.formed c admitted);
        means = λ c admitted. same_of (answer_at c (stored_table table (holding model table rows))) (opening_database c opening.catalog opening.rows number)
            (held_answer model table c admitted rows ∙ opening_means c number table opening.rows ∙ sym (ap (λ it. table_in c number it opening.rows) there));
        within = record {
          rows = few (can_be_there model table) rows;
          row_weight = light (can_be_there model table) rows;
          column_weight = subst (λ it. columns_weight (stored_columns table) ≤ column_weight_of it) (sym there) (stored_within table);
        };
      }

-- ---- The tables stand under their numbers, with their columns.

counted_from : (model : Expr) (number : ℕ) (tables : List Table) (rows : List OpeningRow) → AreCounted number (present_tables model tables (opening_from number tables rows))
counted_from model number [] rows = tt
counted_from model number (table ∷ tables) rows = (refl, subst (λ n. AreCounted n (present_tables model tables (opening_from (suc number) tables rows))) (omega arith) (counted_from model (suc number) tables rows))

pub opened_counted : (model : Expr) (tables : List Table) (rows : List OpeningRow) → AreCounted 0 (opened_tables model tables rows)
opened_counted model tables rows = counted_from model 0 tables rows

columns_from : (model : Expr) (number : ℕ) (tables : List Table) (rows : List OpeningRow) → columns_in (present_tables model tables (opening_from number tables rows)) ≡ map stored_columns tables
columns_from model number [] rows = refl
columns_from model number (table ∷ tables) rows = ap (λ xs. stored_columns table ∷ xs) (columns_from model (suc number) tables rows)

pub opened_columns : (model : Expr) (tables : List Table) (rows : List OpeningRow) → columns_in (opened_tables model tables rows) ≡ map stored_columns tables
opened_columns model tables rows = columns_from model 0 tables rows

-- a table under its number
abbrev opened_at : Expr → ℕ → Table → List OpeningRow → TableRows
opened_at model number table rows = record { table = number; rows = stored_table table (holding model table (opening_rows number rows)) }

found_from : (model : Expr) (first number : ℕ) (tables : List Table) (table : Table) (rows : List OpeningRow) → slice_get tables number ≡ Some table
    → slice_get (present_tables model tables (opening_from first tables rows)) number ≡ Some (opened_at model (first + number) table rows)
found_from model first number [] table rows there = search rules
found_from model first zero (one ∷ tables) table rows there =
    let is : one ≡ table = search (rules, there) in
    ap (λ it. Some (opened_at model first it rows)) is ∙ ap (λ n. Some (opened_at model n table rows)) (omega arith)
found_from model first (suc number) (one ∷ tables) table rows there =
    found_from model (suc first) number tables table rows there ∙ ap (λ n. Some (opened_at model n table rows)) (omega arith)

pub opened_found : (model : Expr) (number : ℕ) (tables : List Table) (table : Table) (rows : List OpeningRow) → slice_get tables number ≡ Some table
    → slice_get (opened_tables model tables rows) number ≡ Some (opened_at model number table rows)
opened_found model number tables table rows there = found_from model 0 number tables table rows there ∙ ap (λ n. Some (opened_at model n table rows)) (omega arith)
