-- The tables of a catalogue with their opening rows can be run over, and say what the catalogue says before any commit.
use Rattle.std.proofs.Common.{◌≡◌, ◌∙◌, ℕ, zero, suc, ◌+◌, ◌<◌, ◌≤◌, Bool, true, false, ◌||◌, List, [], ◌∷◌, map, filter, Option, Some, None, option_map, slice_get, refl, sym, ap, subst, arith, le_of_eq, eq-eqb, true≢false, inl, inr}
use Rattle.std.proofs.Math.Path.{fun_ext}
use Rattle.std.proofs.lemmas.Bool.{ne_eqb}
use Rattle.std.proofs.lemmas.List.{length-map}
use Rattle.std.proofs.lemmas.List.Sums.{sum_by-cons}
use Rattle.std.specs.List.{AllByRecursion, list_any, sum_by}
use Rattle.condition_sat.specs.Admitted.{IsAdmitted}
use Rattle.feature_expr.specs.Expressions.{mentions, weight_of}
use Rattle.feature_expr.specs.declared.expr.Expr.{Expr}
use Rattle.values.specs.declared.value.Kind.{Kind}
use Rattle.plain_relation.specs.Relations.{Relation}
use Rattle.plan_tables.specs.StoredRows.{IsStored, are_distinct, database_of, relation_by, rows_of, rows_size, size_by, size_of, table_numbers}
use Rattle.plan_tables.specs.StoredRows as stored_rows
use Rattle.plan_tables.specs.declared.rows.TableRows.{TableRows}
use Rattle.query_meaning.specs.Bounds.{IsWithin, Size, column_weight_in, query_size}
use Rattle.query_meaning.specs.Plans.{has_number}
use Rattle.query_meaning.specs.Typing.{IsTyped, table_mentions, tables_mention}
use Rattle.query_meaning.specs.declared.plan.Plan.{Plan}
use Rattle.query_meaning.specs.declared.typed.TypedColumn.{TypedColumn}
use Rattle.query_names.specs.declared.typed.Typed.{Typed}
use Rattle.relational_algebra.specs.Mentions.{query_mentions}
use Rattle.row_conditions.proofs.BoolLaws.{or_cases, or_end, or_start}
use Rattle.row_conditions.proofs.FoldingLaws.{and_mentions, and_weighs}
use Rattle.row_conditions.specs.RowConditions.{columns_weight}
use Rattle.vra_syntax.specs.Parameters.{param_in_query}
use Rattle.vra_syntax.specs.declared.query.Query.{Query}
use Rattle.vschema.specs.Formed.{IsFormed}
use Rattle.vschema.specs.Gaps.{have_all_values}
use Rattle.vschema.specs.Variants.{opening_database, table_in}
use Rattle.vschema.specs.declared.catalog.Catalog.{Catalog}
use Rattle.vschema.specs.declared.catalog.Column as catalog
use Rattle.vschema.specs.declared.catalog.OpeningRow.{OpeningRow}
use Rattle.vschema.specs.declared.catalog.Table.{Table}
use Rattle.vtable.specs.TableForm.{rows_weight}
use Rattle.vtable.specs.declared.table.VColumn.{VColumn}
use Rattle.vtable.specs.declared.table.VRow.{VRow}
use Rattle.vtable.specs.declared.table.VTable.{VTable}
use Rattle.query_answers.proofs.RunLaws.{can_answer}
use Rattle.query_answers.proofs.ScanLaws.{relation_same, scan_stored}
use Rattle.query_answers.specs.Answering.{CanAnswer}
use Rattle.query_answers.specs.Answers.{IsAnswerTo}
use Rattle.query_answers.specs.Held.{HoldsTables, held_column, held_columns, held_mention}
use Rattle.query_answers.specs.Openings.{IsOpeningAnswer, opening_from, opening_size, opening_sizes, opening_tables, openings_mention, row_weight}
use Rattle.query_answers.specs.Scans.{is_of, scanned, scanned_row, scanned_rows}

abbrev opened : ℕ → List OpeningRow → Table → TableRows
opened number rows table = record { table = number; rows = scanned number table rows }

-- ---- a table under its number

here_found : (number k : ℕ) (table : Table) (tables : List Table) (rows : List OpeningRow) → number ≡ k → rows_of (opening_from k (table ∷ tables) rows) number ≡ Some (opened number rows table)
here_found number k table tables rows is = rw is (rw (eq-eqb k k refl) refl)

other_found : (number k : ℕ) (table : Table) (tables : List Table) (rows : List OpeningRow) → k < number → rows_of (opening_from k (table ∷ tables) rows) number ≡ rows_of (opening_from (suc k) tables rows) number
other_found number k table tables rows less = rw (ne_eqb k number (λ is. let e = is in omega (arith, less, e))) refl

found_from : (number k n : ℕ) (tables : List Table) (rows : List OpeningRow) → number ≡ k + n → rows_of (opening_from k tables rows) number ≡ option_map (opened number rows) (slice_get tables n)
found_from number k n [] rows is = refl
found_from number k zero (table ∷ tables) rows is = here_found number k table tables rows (omega (arith, is))
found_from number k (suc n) (table ∷ tables) rows is = other_found number k table tables rows (omega (arith, is)) ∙ found_from number (suc k) n tables rows (omega (arith, is))

opening_found : (tables : List Table) (rows : List OpeningRow) (number : ℕ) → rows_of (opening_tables tables rows) number ≡ option_map (opened number rows) (slice_get tables number)
opening_found tables rows number = found_from number 0 number tables rows (omega arith)

-- ---- each table once, with its columns

lacks_lower : (j k : ℕ) (tables : List Table) (rows : List OpeningRow) → j < k → has_number j (table_numbers (opening_from k tables rows)) ≡ false
lacks_lower j k [] rows less = refl
lacks_lower j k (table ∷ tables) rows less = rw (ne_eqb k j (λ is. let e = is in omega (arith, less, e))) (lacks_lower j (suc k) tables rows (omega (arith, less)))

opening_distinct : (k : ℕ) (tables : List Table) (rows : List OpeningRow) → are_distinct (table_numbers (opening_from k tables rows)) ≡ true
opening_distinct k [] rows = refl
opening_distinct k (table ∷ tables) rows = rw (lacks_lower k (suc k) tables rows (omega arith)) (opening_distinct (suc k) tables rows)

columns_found : (number : ℕ) (rows : List OpeningRow) (table : Option Table) → option_map (λ (held : TableRows). held.rows.columns) (option_map (opened number rows) table) ≡ option_map held_columns table
columns_found number rows None = refl
columns_found number rows (Some table) = refl

pub opening_holds : (tables : List Table) (rows : List OpeningRow) → HoldsTables tables (opening_tables tables rows)
opening_holds tables rows = record {
  distinct = opening_distinct 0 tables rows;
  columns = λ number. ap (option_map (λ (held : TableRows). held.rows.columns)) (opening_found tables rows number) ∙ columns_found number rows (slice_get tables number);
}

-- ---- each is well formed

module _ (c : Catalog) (rows : List OpeningRow) (formed : IsFormed c rows) (filled : (at : List ℕ) → IsAdmitted c.model at → have_all_values at c.tables rows ≡ true) where
  stored_from : (k : ℕ) (tables : List Table) → ((n : ℕ) → slice_get tables n ≡ slice_get c.tables (k + n)) → AllByRecursion (λ (table : TableRows). IsStored c.model table.rows) (opening_from k tables rows)
  stored_from k [] there = tt
  stored_from k (table ∷ tables) there =
      let at_first : k ≡ k + 0 = omega arith in
      let further : (n : ℕ) → k + suc n ≡ suc k + n = λ n. omega arith in
      let first = scan_stored c rows k table formed filled (ap (slice_get c.tables) at_first ∙ sym (there 0)) in
      (first, stored_from (suc k) tables (λ n. there (suc n) ∙ ap (slice_get c.tables) (further n)))

  pub opening_stored : AllByRecursion (λ (table : TableRows). IsStored c.model table.rows) (opening_tables c.tables rows)
  opening_stored = let same : (n : ℕ) → n ≡ 0 + n = λ n. omega arith in stored_from 0 c.tables (λ n. ap (slice_get c.tables) (same n))

-- ---- what they say

relation_found : (c : List ℕ) (number : ℕ) (rows : List OpeningRow) (table : Option Table) → relation_by c (option_map (opened number rows) table) ≡ table_in c number table rows
relation_found c number rows None = refl
relation_found c number rows (Some table) = relation_same c number table rows

pub same_database : (catalog : Catalog) (rows : List OpeningRow) (c : List ℕ) → database_of (opening_tables catalog.tables rows) c ≡ opening_database c catalog rows
same_database catalog rows c = fun_ext (λ number. ap (relation_by c) (opening_found catalog.tables rows number) ∙ relation_found c number rows (slice_get catalog.tables number))

-- ---- their sizes

row_weighs : (number : ℕ) (row : OpeningRow) (rows : List OpeningRow) (of : Bool) → is_of number row ≡ of → rows_weight (scanned_rows number rows) ≡ row_weight number rows → rows_weight (scanned_rows number (row ∷ rows)) ≡ row_weight number (row ∷ rows)
row_weighs number row rows true is rest = rw is (sum_by-cons (λ (r : VRow). weight_of r.cond) (scanned_row row) (scanned_rows number rows) ∙ ap (λ n. weight_of row.cond + n) rest)
row_weighs number row rows false is rest = rw is (rest ∙ omega arith)

rows_weigh : (number : ℕ) (rows : List OpeningRow) → rows_weight (scanned_rows number rows) ≡ row_weight number rows
rows_weigh number [] = refl
rows_weigh number (row ∷ rows) = row_weighs number row rows (is_of number row) refl (rows_weigh number rows)

columns_weigh : (table : Table) (columns : List catalog.Column) → columns_weight (map (held_column table) columns) ≤ sum_by (column_weight_in (weight_of table.cond)) columns
columns_weigh table [] = omega arith
columns_weigh table (k ∷ ks) =
    let first = and_weighs table.cond k.cond in
    let rest = columns_weigh table ks in
    let left = sum_by-cons (λ (column : VColumn). weight_of column.cond) (held_column table k) (map (held_column table) ks) in
    let right = sum_by-cons (column_weight_in (weight_of table.cond)) k ks in
    omega (arith, first, rest, left, right)

size_found : (number : ℕ) (rows : List OpeningRow) (table : Option Table) → IsWithin (size_by (option_map (opened number rows) table)) (opening_size number rows table)
size_found number rows None = record { rows = omega arith; row_weight = omega arith; column_weight = omega arith }
size_found number rows (Some table) = record {
  rows = le_of_eq (length-map (filter (is_of number) rows) scanned_row);
  row_weight = le_of_eq (rows_weigh number rows);
  column_weight = columns_weigh table table.columns;
}

pub opening_within : (tables : List Table) (rows : List OpeningRow) (number : ℕ) → IsWithin (rows_size (opening_tables tables rows) number) (opening_sizes tables rows number)
opening_within tables rows number =
    subst (λ (held : Option TableRows). IsWithin (size_by held) (opening_sizes tables rows number)) (sym (opening_found tables rows number)) (size_found number rows (slice_get tables number))

-- ---- their features

module _ (feature : ℕ) where
  columns_known : (table : Table) (columns : List catalog.Column) → list_any (stored_rows.column_mentions feature) (map (held_column table) columns) ≡ true → (mentions feature table.cond || list_any (λ (column : catalog.Column). mentions feature column.cond) columns) ≡ true
  columns_known table [] h = absurd (true≢false (sym h))
  columns_known table (k ∷ ks) h = elim (or_cases (mentions feature (held_column table k).cond) (list_any (stored_rows.column_mentions feature) (map (held_column table) ks)) h) [
    | inl first ↦ shifted (mentions feature table.cond) (mentions feature k.cond) (list_any (λ (column : catalog.Column). mentions feature column.cond) ks) (and_mentions feature table.cond k.cond first)
    | inr rest ↦ skipped (mentions feature table.cond) (mentions feature k.cond) (list_any (λ (column : catalog.Column). mentions feature column.cond) ks) (columns_known table ks rest)
  ]
    where
      shifted : (a b d : Bool) → (a || b) ≡ true → (a || (b || d)) ≡ true
      shifted true b d is = refl
      shifted false true d is = refl
      shifted false false d is = absurd (true≢false (sym is))

      skipped : (a b d : Bool) → (a || d) ≡ true → (a || (b || d)) ≡ true
      skipped true b d is = refl
      skipped false true d is = refl
      skipped false false d is = is

  row_step : (number : ℕ) (row : OpeningRow) (rows : List OpeningRow) (of : Bool) → is_of number row ≡ of → (list_any (stored_rows.row_mentions feature) (scanned_rows number rows) ≡ true → openings_mention rows feature ≡ true) → list_any (stored_rows.row_mentions feature) (scanned_rows number (row ∷ rows)) ≡ true → openings_mention (row ∷ rows) feature ≡ true
  row_step number row rows false is rest h = or_end (mentions feature row.cond) _ (rest (rw is at h))
  row_step number row rows true is rest h = elim (or_cases (mentions feature row.cond) (list_any (stored_rows.row_mentions feature) (scanned_rows number rows)) (rw is at h)) [
    | inl first ↦ or_start (mentions feature row.cond) _ first
    | inr later ↦ or_end (mentions feature row.cond) _ (rest later)
  ]

  rows_known : (number : ℕ) (rows : List OpeningRow) → list_any (stored_rows.row_mentions feature) (scanned_rows number rows) ≡ true → openings_mention rows feature ≡ true
  rows_known number [] h = absurd (true≢false (sym h))
  rows_known number (row ∷ rows) h = row_step number row rows (is_of number row) refl (rows_known number rows) h

  known_from : (k : ℕ) (tables : List Table) (rows : List OpeningRow) → stored_rows.tables_mention feature (opening_from k tables rows) ≡ true → (tables_mention feature tables || openings_mention rows feature) ≡ true
  known_from k [] rows h = absurd (true≢false (sym h))
  known_from k (table ∷ tables) rows h = elim (or_cases (stored_rows.table_mentions feature (scanned k table rows)) (stored_rows.tables_mention feature (opening_from (suc k) tables rows)) h) [
    | inl first ↦ elim (or_cases (list_any (stored_rows.column_mentions feature) (map (held_column table) table.columns)) (list_any (stored_rows.row_mentions feature) (scanned_rows k rows)) first) [
      | inl columns ↦ begins (table_mentions feature table) (tables_mention feature tables) (openings_mention rows feature) (columns_known table table.columns columns)
      | inr there ↦ or_end (table_mentions feature table || tables_mention feature tables) (openings_mention rows feature) (rows_known k rows there)
    ]
    | inr later ↦ goes_on (table_mentions feature table) (tables_mention feature tables) (openings_mention rows feature) (known_from (suc k) tables rows later)
  ]
    where
      begins : (a b d : Bool) → a ≡ true → ((a || b) || d) ≡ true
      begins true b d is = refl
      begins false b d is = absurd (true≢false (sym is))

      goes_on : (a b d : Bool) → (b || d) ≡ true → ((a || b) || d) ≡ true
      goes_on true b d is = refl
      goes_on false b d is = is

-- ---- the answers from them

known_wider : (a b d e : Bool) → (a || b || d) ≡ true → (d ≡ true → (b || e) ≡ true) → (a || b || e) ≡ true
known_wider true b d e h f = refl
known_wider false true d e h f = refl
known_wider false false d e h f = f h

module _ (grows : (tables : List Table) (sizes others : ℕ → Size) (query : Query) → ((table : ℕ) → IsWithin (sizes table) (others table)) → IsWithin (query_size tables sizes query) (query_size tables others query)) (c : Catalog) (opening : List OpeningRow) (query : Query) (columns : List TypedColumn) (answer : VTable) where
  pub opening_is : IsAnswerTo c.model c.tables (database_of (opening_tables c.tables opening)) (rows_size (opening_tables c.tables opening)) (held_mention (opening_tables c.tables opening)) query columns answer → IsOpeningAnswer c opening query columns answer
  opening_is it =
      let grown = grows c.tables (rows_size (opening_tables c.tables opening)) (opening_sizes c.tables opening) query (opening_within c.tables opening) in
      let count = grown.rows in
      let weight = grown.row_weight in
      let most = it.rows in
      let heaviest = it.row_conditions in
      let wider : IsAnswerTo c.model c.tables (database_of (opening_tables c.tables opening)) (opening_sizes c.tables opening) (openings_mention opening) query columns answer = record {
        form = it.form;
        columns_are = it.columns_are;
        formed = it.formed;
        right = it.right;
        rows = omega (arith, most, count);
        row_conditions = omega (arith, heaviest, count, weight);
        known = λ feature h. known_wider (query_mentions feature query) (tables_mention feature c.tables) (stored_rows.tables_mention feature (opening_tables c.tables opening)) (openings_mention opening feature) (it.known feature h) (known_from feature 0 c.tables opening);
      } in
      record { is = subst (λ (database : List ℕ → ℕ → Relation). IsAnswerTo c.model c.tables database (opening_sizes c.tables opening) (openings_mention opening) query columns answer) (fun_ext (λ at. same_database c opening at)) wider }

-- what is an answer from rows at hand is one before any commit, where the rows are the opening ones
pub opening_answer : ((tables : List Table) (sizes others : ℕ → Size) (query : Query) → ((table : ℕ) → IsWithin (sizes table) (others table)) → IsWithin (query_size tables sizes query) (query_size tables others query)) → (c : Catalog) (opening : List OpeningRow) (model : Expr) (rows : List TableRows) (kinds : List Kind) (query : Query) (columns : List TypedColumn) (p : Plan) (answer : VTable) → model ≡ c.model → rows ≡ opening_tables c.tables opening → IsTyped c.model kinds c.tables query columns p → (IsTyped model kinds c.tables query columns p → HoldsTables c.tables rows → IsAnswerTo model c.tables (database_of rows) (rows_size rows) (held_mention rows) query columns answer) → IsOpeningAnswer c opening query columns answer
opening_answer grows c opening model rows kinds query columns p answer same are typed answered =
    let it = answered (subst (λ (m : Expr). IsTyped m kinds c.tables query columns p) (sym same) typed) (subst (λ (ts : List TableRows). HoldsTables c.tables ts) (sym are) (opening_holds c.tables opening)) in
    opening_is grows c opening query columns answer
    (subst (λ (ts : List TableRows). IsAnswerTo c.model c.tables (database_of ts) (rows_size ts) (held_mention ts) query columns answer) are
    (subst (λ (m : Expr). IsAnswerTo m c.tables (database_of rows) (rows_size rows) (held_mention rows) query columns answer) same it))

-- A typed query without parameters can be answered from the opening rows.
pub opening_can_answer : (c : Catalog) (opening : List OpeningRow) (model : Expr) (rows : List TableRows) (kinds : List Kind) (query : Query) (it : Typed) → IsFormed c opening → ((at : List ℕ) → IsAdmitted c.model at → have_all_values at c.tables opening ≡ true) → model ≡ c.model → rows ≡ opening_tables c.tables opening → IsTyped c.model kinds c.tables query it.columns it.plan → param_in_query query ≡ 0 → CanAnswer model rows it
opening_can_answer c opening model rows kinds query it formed filled same are typed free =
    subst (λ (m : Expr). CanAnswer m rows it) (sym same)
    (subst (λ (ts : List TableRows). CanAnswer c.model ts it) (sym are)
    (can_answer c.model kinds c.tables query it (opening_tables c.tables opening) typed (opening_holds c.tables opening) (opening_stored c opening formed filled) free))
