-- A table as it stands in the catalogue is a right answer.
use Rattle.std.proofs.Common.{◌≡◌, ◌∙◌, ℕ, Bool, true, false, not, ◌&&◌, ◌||◌, List, [], ◌∷◌, map, filter, length, slice_get, Option, Some, None, if◌then◌else◌, All, suc, bytes_eq, refl, sym, ap, ap₂, subst, subst₂, arith, true≢false, eq-eqb, ◌++◌, append_assoc, append-nil}
use Rattle.std.proofs.lemmas.Bool.{eqb-true}
use Rattle.std.proofs.lemmas.List.{length-map}
use Rattle.std.proofs.lemmas.List.Sums.{AllPass-from_list_all}
use Rattle.std.proofs.lemmas.Slice.Eq.{bytes_eq-Decides}
use Rattle.std.specs.Bool.{one_answer}
use Rattle.std.proofs.lemmas.Option.{slice_get_within, get_or_from_slice_get}
use Rattle.std.specs.List.{list_all, list_any}
use Rattle.condition_sat.specs.Admitted.{IsAdmitted}
use Rattle.feature_expr.specs.Satisfaction.{satisfies}
use Rattle.feature_expr.specs.Names.{among}
use Rattle.values.specs.Value.{kind_of}
use Rattle.values.specs.declared.value.Kind.{Kind}
use Rattle.values.specs.declared.value.Kind.TheVariants as kind
use Rattle.values.specs.declared.value.Value.{Value}
use Rattle.plain_relation.specs.Relations.{relation_of, columns_of, has_name}
use Rattle.plain_relation.specs.Values.{same_kind}
use Rattle.plain_relation.specs.Relations as plain
use Rattle.plan_tables.specs.StoredRows.{IsStored}
use Rattle.row_conditions.proofs.FoldingLaws.{and_holds}
use Rattle.vschema.specs.declared.catalog.Catalog.{Catalog}
use Rattle.vschema.specs.declared.catalog.Column.{Column}
use Rattle.vschema.specs.declared.catalog.OpeningRow.{OpeningRow}
use Rattle.vschema.specs.declared.catalog.Table.{Table}
use Rattle.vschema.specs.Formed.{distinct, column_names, has_distinct_columns, CellsFit, FitsTable, IsFormed, RowFits}
use Rattle.vschema.specs.Gaps.{misses_value, columns_without, has_all_values, has_all_values_in, have_all_values}
use Rattle.vschema.specs.Variants.{has_column, opening_at}
use Rattle.vschema.specs.Variants as variants
use Rattle.vtable.specs.Answers.{IsAnswerAt, answer_at}
use Rattle.vtable.specs.Answers as answers
use Rattle.vtable.specs.TableForm.{same_column, columns_are_distinct}
use Rattle.vtable.specs.declared.table.VRow.{VRow}
use Rattle.query_answers.specs.Held.{held_column}
use Rattle.query_answers.specs.Scans.{is_of, scanned, scanned_row, scanned_rows}

-- a scanned column is there where the table's is
column_same : (c : List ℕ) (table : Table) (column : Column) → answers.column_at c (held_column table column) ≡ variants.column_at c table column
column_same c table column =
    ap (λ (b : Bool). if b then Some (let it : plain.Column = record { name = variants.bare_name column.name; kind = column.kind } in it) else None) (and_holds c table.cond column.cond)

pub columns_same : (c : List ℕ) (table : Table) (columns : List Column) → map (answers.column_at c) (map (held_column table) columns) ≡ map (variants.column_at c table) columns
columns_same c table [] = refl
columns_same c table (k ∷ ks) = ap₂ (λ x xs. x ∷ xs) (column_same c table k) (columns_same c table ks)

-- the same rows are there, with the same cells
row_same : (c : List ℕ) (number : ℕ) (row : OpeningRow) (rows : List OpeningRow) (of there : Bool) → is_of number row ≡ of → satisfies c row.cond ≡ there → map (λ (r : VRow). r.cells) (filter (λ (r : VRow). satisfies c r.cond) (scanned_rows number rows)) ≡ opening_at c number rows → map (λ (r : VRow). r.cells) (filter (λ (r : VRow). satisfies c r.cond) (scanned_rows number (row ∷ rows))) ≡ opening_at c number (row ∷ rows)
row_same c number row rows false there is holds rest = rw is rest
row_same c number row rows true false is holds rest = rw (is, holds) rest
row_same c number row rows true true is holds rest = rw (is, holds) (ap (λ xs. row.cells ∷ xs) rest)

rows_same : (c : List ℕ) (number : ℕ) (rows : List OpeningRow) → map (λ (r : VRow). r.cells) (filter (λ (r : VRow). satisfies c r.cond) (scanned_rows number rows)) ≡ opening_at c number rows
rows_same c number [] = refl
rows_same c number (row ∷ rows) = row_same c number row rows (is_of number row) (satisfies c row.cond) refl refl (rows_same c number rows)

pub relation_same : (c : List ℕ) (number : ℕ) (table : Table) (rows : List OpeningRow) → answer_at c (scanned number table rows) ≡ variants.table_at c number table rows
relation_same c number table rows = ap₂ relation_of (columns_same c table table.columns) (rows_same c number rows)

all_head : {X : Type 0} (P : X → Type 0) (x : X) (xs : List X) → All P (x ∷ xs) → P x
all_head P x xs all = all 0 x (omega arith)

all_tail : {X : Type 0} (P : X → Type 0) (x : X) (xs : List X) → All P (x ∷ xs) → All P xs
all_tail P x xs all = λ k d within. all (suc k) d (omega (arith, within))

both_true : (a b : Bool) → (a && b) ≡ true → (a ≡ true) × (b ≡ true)
both_true true b is = (refl, is)
both_true false b is = absurd (true≢false (sym is))

at_place : {X : Type 0} (p : X → Bool) (xs : List X) (k : ℕ) (x : X) → list_all p xs ≡ true → slice_get xs k ≡ Some x → p x ≡ true
at_place p xs k x all is =
    let there = AllPass-from_list_all p xs all k x (slice_get_within xs k x is) in
    subst (λ y. p y ≡ true) (get_or_from_slice_get xs k x x is) there

-- No two columns that are there have one name, where no two of the table's have.
not_true : (b : Bool) → not b ≡ true → b ≡ false
not_true false is = refl
not_true true is = absurd (true≢false (sym is))

either_false : (a b : Bool) → (a || b) ≡ false → (a ≡ false) × (b ≡ false)
either_false false b is = (refl, is)
either_false true b is = absurd (true≢false is)

-- where a name isn't among the columns', it isn't among those that are there
lacks_one : (c : List ℕ) (table : Table) (name : List ℕ) (k : Column) (ks : List Column) (there : Bool) → has_column c table k ≡ there → bytes_eq k.name name ≡ false → has_name (variants.bare_name name) (columns_of (map (variants.column_at c table) ks)) ≡ false → has_name (variants.bare_name name) (columns_of (map (variants.column_at c table) (k ∷ ks))) ≡ false
lacks_one c table name k ks false is other rest = rw is rest
lacks_one c table name k ks true is other rest = rw (is, other) rest

lacks : (c : List ℕ) (table : Table) (name : List ℕ) (ks : List Column) → among name (column_names ks) ≡ false → has_name (variants.bare_name name) (columns_of (map (variants.column_at c table) ks)) ≡ false
lacks c table name [] other = refl
lacks c table name (k ∷ ks) other =
    let parts = either_false (bytes_eq k.name name) (among name (column_names ks)) other in
    lacks_one c table name k ks (has_column c table k) refl parts.0 (lacks c table name ks parts.1)

distinct_one : (c : List ℕ) (table : Table) (k : Column) (ks : List Column) (there : Bool) → has_column c table k ≡ there → among k.name (column_names ks) ≡ false → answers.names_are_distinct (columns_of (map (variants.column_at c table) ks)) ≡ true → answers.names_are_distinct (columns_of (map (variants.column_at c table) (k ∷ ks))) ≡ true
distinct_one c table k ks false is other rest = rw is rest
distinct_one c table k ks true is other rest = rw (is, lacks c table k.name ks other) rest

distinct_there : (c : List ℕ) (table : Table) (ks : List Column) → distinct (column_names ks) ≡ true → answers.names_are_distinct (columns_of (map (variants.column_at c table) ks)) ≡ true
distinct_there c table [] is = refl
distinct_there c table (k ∷ ks) is =
    let parts = both_true (not (among k.name (column_names ks))) (distinct (column_names ks)) is in
    distinct_one c table k ks (has_column c table k) refl (not_true (among k.name (column_names ks)) parts.0) (distinct_there c table ks parts.1)

-- one cell place per column
cells_long : (ks : List Column) (cells : List (Option Value)) → CellsFit ks cells → length cells ≡ length ks
cells_long [] [] fit = refl
cells_long [] (cell ∷ cells) fit = absurd fit
cells_long (k ∷ ks) [] fit = absurd fit
cells_long (k ∷ ks) (cell ∷ cells) fit = ap suc (cells_long ks cells fit.1)

-- a row of the table
of_table : (tables : List Table) (table : Table) (number : ℕ) (row : OpeningRow) → slice_get tables number ≡ Some table → is_of number row ≡ true → slice_get tables row.table ≡ Some table
of_table tables table number row there of = ap (slice_get tables) (eqb-true row.table number of) ∙ there

row_fits : (tables : List Table) (table : Table) (number : ℕ) (row : OpeningRow) → slice_get tables number ≡ Some table → is_of number row ≡ true → RowFits tables row → CellsFit table.columns row.cells
row_fits tables table number row there of fit = subst (λ t. FitsTable t row) (of_table tables table number row there of) fit

whole_one : (number : ℕ) (table : Table) (all rows : List OpeningRow) (row : OpeningRow) (of : Bool) → is_of number row ≡ of → (of ≡ true → CellsFit table.columns row.cells) → list_all (answers.is_whole (scanned number table all)) (scanned_rows number rows) ≡ true → list_all (answers.is_whole (scanned number table all)) (scanned_rows number (row ∷ rows)) ≡ true
whole_one number table all rows row false is fit rest = rw is rest
whole_one number table all rows row true is fit rest =
    let long : length row.cells ≡ length (map (held_column table) table.columns) = cells_long table.columns row.cells (fit refl) ∙ sym (length-map table.columns (held_column table)) in
    rw is (rw (eq-eqb (length row.cells) (length (map (held_column table) table.columns)) long) rest)

wholes : (tables : List Table) (number : ℕ) (table : Table) (all rows : List OpeningRow) → slice_get tables number ≡ Some table → All (RowFits tables) rows → list_all (answers.is_whole (scanned number table all)) (scanned_rows number rows) ≡ true
wholes tables number table all [] there fit = refl
wholes tables number table all (row ∷ rows) there fit =
    whole_one number table all rows row (is_of number row) refl
    (λ of. row_fits tables table number row there of (all_head (RowFits tables) row rows fit))
    (wholes tables number table all rows there (all_tail (RowFits tables) row rows fit))

-- a row that is there has a cell of the column's kind in each column that is there
same_kind_itself : (k : Kind) → same_kind k k ≡ true
same_kind_itself kind.Int = refl
same_kind_itself kind.Text = refl
same_kind_itself kind.Bool = refl

filled_none : (c : List ℕ) (table : Table) (row : OpeningRow) (k : Column) (ks : List Column) (cells : List (Option Value)) → has_column c table k ≡ false → answers.fits (map (variants.column_at c table) ks) cells ≡ true → answers.fits (map (variants.column_at c table) (k ∷ ks)) (None ∷ cells) ≡ true
filled_none c table row k ks cells is rest = rw is rest

filled_some : (c : List ℕ) (table : Table) (k : Column) (ks : List Column) (value : Value) (cells : List (Option Value)) (there : Bool) → has_column c table k ≡ there → kind_of value ≡ k.kind → answers.fits (map (variants.column_at c table) ks) cells ≡ true → answers.fits (map (variants.column_at c table) (k ∷ ks)) (Some value ∷ cells) ≡ true
filled_some c table k ks value cells false is same rest = rw is rest
filled_some c table k ks value cells true is same rest = rw (is, same, same_kind_itself k.kind) rest

-- a row that is there misses no value of a column that isn't
column_absent : (t r k : Bool) → r ≡ true → ((t && r) && k) ≡ false → (t && k) ≡ false
column_absent true true k r is = is
column_absent true false k r is = absurd (true≢false (sym r))
column_absent false r' k r is = refl

fill : (c : List ℕ) (table : Table) (row : OpeningRow) (ks : List Column) (cells : List (Option Value)) → satisfies c row.cond ≡ true → CellsFit ks cells → list_any (misses_value c table row) (columns_without ks cells) ≡ false → answers.fits (map (variants.column_at c table) ks) cells ≡ true
fill c table row [] [] holds fit filled = refl
fill c table row [] (cell ∷ cells) holds fit filled = absurd fit
fill c table row (k ∷ ks) [] holds fit filled = absurd fit
fill c table row (k ∷ ks) (None ∷ cells) holds fit filled =
    let parts = either_false (misses_value c table row k) (list_any (misses_value c table row) (columns_without ks cells)) filled in
    filled_none c table row k ks cells (column_absent (satisfies c table.cond) (satisfies c row.cond) (satisfies c k.cond) holds parts.0) (fill c table row ks cells holds fit.1 parts.1)
fill c table row (k ∷ ks) (Some value ∷ cells) holds fit filled =
    filled_some c table k ks value cells (has_column c table k) refl fit.0 (fill c table row ks cells holds fit.1 filled)

filled_row : (c : List ℕ) (tables : List Table) (table : Table) (number : ℕ) (row : OpeningRow) → slice_get tables number ≡ Some table → is_of number row ≡ true → satisfies c row.cond ≡ true → RowFits tables row → has_all_values c tables row ≡ true → answers.fits (map (variants.column_at c table) table.columns) row.cells ≡ true
filled_row c tables table number row there of holds fit filled =
    fill c table row table.columns row.cells holds (row_fits tables table number row there of fit)
    (not_true (list_any (misses_value c table row) (columns_without table.columns row.cells)) (subst (λ t. has_all_values_in c t row ≡ true) (of_table tables table number row there of) filled))

filled_one : (c : List ℕ) (places : List (Option plain.Column)) (number : ℕ) (row : OpeningRow) (rows : List OpeningRow) (of there : Bool) → is_of number row ≡ of → satisfies c row.cond ≡ there → (of ≡ true → there ≡ true → answers.fits places row.cells ≡ true) → list_all (answers.fits places) (opening_at c number rows) ≡ true → list_all (answers.fits places) (opening_at c number (row ∷ rows)) ≡ true
filled_one c places number row rows false there is holds fit rest = rw is rest
filled_one c places number row rows true false is holds fit rest = rw (is, holds) rest
filled_one c places number row rows true true is holds fit rest = rw (is, holds) (rw (fit refl refl) rest)

all_filled : (c : List ℕ) (tables : List Table) (table : Table) (number : ℕ) (rows : List OpeningRow) → slice_get tables number ≡ Some table → All (RowFits tables) rows → have_all_values c tables rows ≡ true → list_all (answers.fits (map (variants.column_at c table) table.columns)) (opening_at c number rows) ≡ true
all_filled c tables table number [] there fit filled = refl
all_filled c tables table number (row ∷ rows) there fit filled =
    let parts = both_true (has_all_values c tables row) (have_all_values c tables rows) filled in
    filled_one c (map (variants.column_at c table) table.columns) number row rows (is_of number row) (satisfies c row.cond) refl refl
    (λ of holds. filled_row c tables table number row there of holds (all_head (RowFits tables) row rows fit) parts.0)
    (all_filled c tables table number rows there (all_tail (RowFits tables) row rows fit) parts.1)

formed_there : (catalog : Catalog) (all : List OpeningRow) (number : ℕ) (table : Table) → IsFormed catalog all → (c : List ℕ) → have_all_values c catalog.tables all ≡ true → slice_get catalog.tables number ≡ Some table → IsAnswerAt c (scanned number table all)
formed_there catalog all number table formed c filled there =
    let distinct_names = at_place has_distinct_columns catalog.tables number table formed.distinct_columns there in
    record {
      distinct = subst (λ places. answers.names_are_distinct (columns_of places) ≡ true) (sym (columns_same c table table.columns)) (distinct_there c table table.columns distinct_names);
      whole = wholes catalog.tables number table all all there formed.fitting;
      filled = subst₂ (λ places rows. list_all (answers.fits places) rows ≡ true) (sym (columns_same c table table.columns)) (sym (rows_same c number all))
          (all_filled c catalog.tables table number all there formed.fitting filled);
    }

bytes_swap : (one other : List ℕ) → bytes_eq one other ≡ bytes_eq other one
bytes_swap one other =
    let turned = bytes_eq-Decides other one in
    one_answer (bytes_eq one other) (bytes_eq other one) (bytes_eq-Decides one other) ((λ is. sym (turned.0 is)), (λ is. turned.1 (sym is)))

-- a name that isn't among the columns' is no other column's
no_same_one : (table : Table) (k j : Column) (js : List Column) → bytes_eq j.name k.name ≡ false → list_any (same_column (held_column table k)) (map (held_column table) js) ≡ false → list_any (same_column (held_column table k)) (map (held_column table) (j ∷ js)) ≡ false
no_same_one table k j js other rest =
    let turned : bytes_eq k.name j.name ≡ false = bytes_swap k.name j.name ∙ other in
    rw (turned, rest) refl

no_same : (table : Table) (k : Column) (js : List Column) → among k.name (column_names js) ≡ false → list_any (same_column (held_column table k)) (map (held_column table) js) ≡ false
no_same table k [] other = refl
no_same table k (j ∷ js) other =
    let parts = either_false (bytes_eq j.name k.name) (among k.name (column_names js)) other in
    no_same_one table k j js parts.0 (no_same table k js parts.1)

all_distinct : (table : Table) (ks : List Column) → distinct (column_names ks) ≡ true → columns_are_distinct (map (held_column table) ks) ≡ true
all_distinct table [] is = refl
all_distinct table (k ∷ ks) is =
    let parts = both_true (not (among k.name (column_names ks))) (distinct (column_names ks)) is in
    rw (no_same table k ks (not_true (among k.name (column_names ks)) parts.0), all_distinct table ks parts.1) refl

scan_distinct : (catalog : Catalog) (all : List OpeningRow) (number : ℕ) (table : Table) → IsFormed catalog all → slice_get catalog.tables number ≡ Some table → columns_are_distinct (map (held_column table) table.columns) ≡ true
scan_distinct catalog all number table formed there =
    all_distinct table table.columns (at_place has_distinct_columns catalog.tables number table formed.distinct_columns there)

-- the scanned table can be handed in
pub scan_stored : (catalog : Catalog) (all : List OpeningRow) (number : ℕ) (table : Table) → IsFormed catalog all → ((c : List ℕ) → IsAdmitted catalog.model c → have_all_values c catalog.tables all ≡ true) → slice_get catalog.tables number ≡ Some table → IsStored catalog.model (scanned number table all)
scan_stored catalog all number table formed filled there = record {
  distinct = scan_distinct catalog all number table formed there;
  formed = λ c admitted. formed_there catalog all number table formed c (filled c admitted) there;
}

-- a row more
pub scanned_more : (number : ℕ) (row : OpeningRow) (rows : List OpeningRow) (old new all : List VRow) → old ++ scanned_rows number (row ∷ rows) ≡ all → new ≡ old ++ (if is_of number row then scanned_row row ∷ [] else []) → new ++ scanned_rows number rows ≡ all
scanned_more number row rows old new all is put = by (is_of number row) refl is put where
  by : (of : Bool) → is_of number row ≡ of → old ++ scanned_rows number (row ∷ rows) ≡ all → new ≡ old ++ (if is_of number row then scanned_row row ∷ [] else []) → new ++ scanned_rows number rows ≡ all
  by true of is put = ap (λ (b : List VRow). b ++ scanned_rows number rows) (rw of at put) ∙ append_assoc old (scanned_row row ∷ []) (scanned_rows number rows) ∙ rw of at is
  by false of is put = ap (λ (b : List VRow). b ++ scanned_rows number rows) (rw of at put ∙ append-nil old) ∙ rw of at is
