-- A write on rows under conditions is the plain write in every admitted variant.
use Rattle.std.proofs.Common.{◌≡◌, ℕ, Bool, true, false, cond, not, ◌&&◌, if◌then◌else◌, List, [], ◌∷◌, ◌++◌, map, filter, flat_map, Option, Some, None, unwrap_or, refl, sym, ◌∙◌, ap, ap₂, subst, rules, append-nil}
use Rattle.std.specs.List.{list_all}
use Rattle.std.proofs.lemmas.List.{map-append}
use Rattle.std.proofs.lemmas.List.Elements.{filter-append}
use Rattle.std.proofs.lemmas.Grind.{flat_map-append}
use Rattle.condition_sat.specs.Admitted.{IsAdmitted}
use Rattle.feature_expr.specs.Expressions.{and_of}
use Rattle.feature_expr.specs.Satisfaction.{satisfies}
use Rattle.values.specs.declared.column_name.ColName.{ColName}
use Rattle.feature_expr.specs.declared.expr.Expr.{Expr}
use Rattle.values.specs.declared.value.Value.{Value}
use Rattle.plain_relation.specs.Relations.{Cell, Relation, columns_of, row_of, relation_with, absent}
use Rattle.plain_relation.specs.Relations as plain
use Rattle.condition_sat.proofs.PossibleLaws.{each_fails, and_first, and_second}
use Rattle.row_conditions.proofs.FoldingLaws.{and_holds}
use Rattle.write_meaning.proofs.SetLaws.{Same, same_of, same_on, same_both, same_crossed, same_swapped}
use Rattle.relational_algebra.specs.Conditions.{holds}
use Rattle.write_meaning.specs.Members.{SameRows}
use Rattle.write_meaning.specs.StoredTables.{stored_column, stored_columns, stored_table}
use Rattle.relational_algebra.specs.Operations.{cell_by}
use Rattle.write_meaning.specs.PlainWrites.{assigned, new_row, changed_cell, changed as changed_row, after_acting, after_write}
use Rattle.write_meaning.specs.RowWrites.{matches, touches, given_or, set_cells, AreChanged, can_be_there, holding, IsFate, AreFates, staying_by, staying, begun_by, inserted_row, inserted, begun, IsRowWrite}
use Rattle.query_meaning.specs.WriteTyping.{Assignment, assignments_of, assignment_of, acts, write_expr}
use Rattle.vra_syntax.specs.declared.cond.Cond.{Cond}
use Rattle.vra_syntax.specs.declared.cond.Operand.{Operand}
use Rattle.vra_syntax.specs.declared.write.Write.{Write}
use Rattle.vra_syntax.specs.declared.write.Write.TheVariants as write
use Rattle.vschema.specs.Variants.{bare_name}
use Rattle.vschema.specs.declared.catalog.Column.{Column}
use Rattle.vschema.specs.declared.catalog.Table.{Table}
use Rattle.vtable.specs.Answers.{column_at, answer_at, fits, IsAnswerAt}
use Rattle.vtable.specs.declared.table.VRow.{VRow}
use Rattle.write_meaning.specs.declared.fate.Fate.{Fate}
use Rattle.write_meaning.specs.declared.fate.Fate.TheVariants.{Stays, Ends}

abbrev Place : Type 0
Place = Option plain.Column

-- the rows that are there, cut to the columns that are there
abbrev pub plain_rows : List ℕ → List Place → List VRow → List (List Cell)
plain_rows c places rows = map (row_of places) (map (λ (row : VRow). row.cells) (filter (λ (row : VRow). satisfies c row.cond) rows))

abbrev one_row : List Place → Bool → VRow → List (List Cell)
one_row places b row = map (row_of places) (map (λ (row : VRow). row.cells) (cond b (row ∷ []) []))

rows_append : (c : List ℕ) (places : List Place) (xs ys : List VRow) → plain_rows c places (xs ++ ys) ≡ plain_rows c places xs ++ plain_rows c places ys
rows_append c places xs ys =
    ap (λ rows. map (row_of places) (map (λ (row : VRow). row.cells) rows)) (filter-append (λ (row : VRow). satisfies c row.cond) xs ys)
    ∙ ap (map (row_of places)) (map-append (λ (row : VRow). row.cells) (filter (λ (row : VRow). satisfies c row.cond) xs) (filter (λ (row : VRow). satisfies c row.cond) ys))
    ∙ map-append (row_of places) (map (λ (row : VRow). row.cells) (filter (λ (row : VRow). satisfies c row.cond) xs)) (map (λ (row : VRow). row.cells) (filter (λ (row : VRow). satisfies c row.cond) ys))

one_by : (places : List Place) (b : Bool) (row : VRow) → one_row places b row ≡ cond b (row_of places row.cells ∷ []) []
one_by places true row = refl
one_by places false row = refl

-- A row that can't be there with its table is there in no admitted variant that has the table.

never_there : (table row b : Bool) → table ≡ true → b ≡ (table && row) → b ≡ false → row ≡ false
never_there true row b there is fails = sym is ∙ fails
never_there false row b there is fails = search rules

module _ (model : Expr) (table : Table) (c : List ℕ) (places : List Place) (admitted : IsAdmitted model c) (there : satisfies c table.cond ≡ true) where
  held_one : (row : VRow) (held : List VRow) (b : Bool) → can_be_there model table row ≡ b → plain_rows c places (cond b (row ∷ held) held) ≡ plain_rows c places (row ∷ []) ++ plain_rows c places held
  held_one row held true is = rows_append c places (row ∷ []) held
  held_one row held false is =
      ap (λ b. one_row places b row ++ plain_rows c places held)
      (sym (never_there (satisfies c table.cond) (satisfies c row.cond) (satisfies c (and_of table.cond row.cond)) there (and_holds c table.cond row.cond) (each_fails model (λ c. satisfies c (and_of table.cond row.cond)) is c admitted)))

  held_rows : (rows : List VRow) → plain_rows c places (holding model table rows) ≡ plain_rows c places rows
  held_rows [] = refl
  held_rows (row ∷ rows) =
      held_one row (holding model table rows) (can_be_there model table row) refl
      ∙ ap (λ xs. plain_rows c places (row ∷ []) ++ xs) (held_rows rows)
      ∙ sym (rows_append c places (row ∷ []) rows)

-- A changed row.

abbrev new_cell : ColName → Value → Cell
new_cell name value = record { name = name; value = value }

given_cell : (c : List ℕ) (given : List Assignment) (column : plain.Column) (places : List Place) (cell : Option Value) (cells changed : List (Option Value)) (a : Option Value) → assigned given column.name ≡ a
    → fits (Some column ∷ places) (cell ∷ cells) ≡ true → row_of places changed ≡ map (changed_cell given) (row_of places cells)
    → row_of (Some column ∷ places) (given_or a cell ∷ changed) ≡ map (changed_cell given) (row_of (Some column ∷ places) (cell ∷ cells))
given_cell c given column places None cells changed a is fit rest = search rules
given_cell c given column places (Some value) cells changed None is fit rest =
    ap₂ (λ (x : Option Value) xs. new_cell column.name (unwrap_or x value) ∷ xs) (sym is) rest
given_cell c given column places (Some value) cells changed (Some other) is fit rest =
    ap₂ (λ (x : Option Value) xs. new_cell column.name (unwrap_or x value) ∷ xs) (sym is) rest

none_cell : (place_cells : List Place) (a cell : Option Value) (cells : List (Option Value)) → row_of (None ∷ place_cells) (given_or a cell ∷ cells) ≡ row_of place_cells cells
none_cell places None None cells = refl
none_cell places None (Some value) cells = refl
none_cell places (Some other) None cells = refl
none_cell places (Some other) (Some value) cells = refl

none_row : (places : List Place) (cell : Option Value) (cells : List (Option Value)) → row_of (None ∷ places) (cell ∷ cells) ≡ row_of places cells
none_row places None cells = refl
none_row places (Some value) cells = refl

fits_none : (places : List Place) (cell : Option Value) (cells : List (Option Value)) → fits (None ∷ places) (cell ∷ cells) ≡ fits places cells
fits_none places None cells = refl
fits_none places (Some value) cells = refl

fits_behind : (column : plain.Column) (places : List Place) (cell : Option Value) (cells : List (Option Value)) → fits (Some column ∷ places) (cell ∷ cells) ≡ true → fits places cells ≡ true
fits_behind column places None cells h = search rules
fits_behind column places (Some value) cells h = and_second _ (fits places cells) h

-- a column's place, by whether it is there
abbrev place_by : Column → Bool → Place
place_by column b = if b then Some (record { name = bare_name column.name; kind = column.kind }) else None

set_by : (c : List ℕ) (given : List Assignment) (column : Column) (places : List Place) (cell : Option Value) (cells changed : List (Option Value)) (b : Bool)
    → fits (place_by column b ∷ places) (cell ∷ cells) ≡ true → (fits places cells ≡ true → row_of places changed ≡ map (changed_cell given) (row_of places cells))
    → row_of (place_by column b ∷ places) (given_or (assigned given (bare_name column.name)) cell ∷ changed) ≡ map (changed_cell given) (row_of (place_by column b ∷ places) (cell ∷ cells))
set_by c given column places cell cells changed true fit rest =
    let place : plain.Column = record { name = bare_name column.name; kind = column.kind } in
    given_cell c given place places cell cells changed (assigned given (bare_name column.name)) refl fit (rest (fits_behind place places cell cells fit))
set_by c given column places cell cells changed false fit rest =
    none_cell places (assigned given (bare_name column.name)) cell changed
    ∙ rest (sym (fits_none places cell cells) ∙ fit)
    ∙ ap (map (changed_cell given)) (sym (none_row places cell cells))

-- the given values in a row under conditions are the given values in the plain row
set_row : (c : List ℕ) (table : Table) (given : List Assignment) (columns : List Column) (cells : List (Option Value))
    → fits (map (column_at c) (map (stored_column table) columns)) cells ≡ true
    → row_of (map (column_at c) (map (stored_column table) columns)) (set_cells columns given cells) ≡ map (changed_cell given) (row_of (map (column_at c) (map (stored_column table) columns)) cells)
set_row c table given [] [] fit = refl
set_row c table given [] (cell ∷ cells) fit = refl
set_row c table given (column ∷ columns) [] fit = refl
set_row c table given (column ∷ columns) (cell ∷ cells) fit =
    set_by c given column (map (column_at c) (map (stored_column table) columns)) cell cells (set_cells columns given cells)
    (satisfies c (and_of table.cond column.cond)) fit (set_row c table given columns cells)

-- One row.

abbrev cond_rows : Bool → List Cell → List (List Cell)
cond_rows b r = cond b (r ∷ []) []

-- what a write that acts makes of a plain row
abbrev changed_plain : Write → List Cell → List (List Cell)
changed_plain (write.Insert name names rows expr) r = []
changed_plain (write.Delete name cond expr) r = []
changed_plain (write.Update name items cond expr) r = map (changed_cell (map assignment_of items)) r ∷ []

abbrev after_plain : List ℕ → Table → Write → List Cell → List (List Cell)
after_plain c table w r = if acts c table w && matches c w r then changed_plain w r else r ∷ []

after_one : (c : List ℕ) (table : Table) (w : Write) (places : List Place) (b : Bool) (row : VRow) → flat_map (after_plain c table w) (one_row places b row) ≡ cond b (after_plain c table w (row_of places row.cells) ++ []) []
after_one c table w places true row = refl
after_one c table w places false row = refl

stays_eq : (b t : Bool) (r : List Cell) (changed : List (List Cell)) → (b && t) ≡ false → cond b (r ∷ []) [] ++ [] ≡ cond b ((if t then changed else r ∷ []) ++ []) []
stays_eq true true r changed h = search rules
stays_eq true false r changed h = refl
stays_eq false t r changed h = refl

rest_eq : (b t : Bool) (r : List Cell) → cond (b && not t) (r ∷ []) [] ++ [] ≡ cond b ((if t then [] else r ∷ []) ++ []) []
rest_eq true true r = refl
rest_eq true false r = refl
rest_eq false t r = refl

both_eq : (b t : Bool) (r one other : List Cell) → (b ≡ true → one ≡ other) → cond (b && not t) (r ∷ []) [] ++ cond (b && t) (one ∷ []) [] ≡ cond b ((if t then other ∷ [] else r ∷ []) ++ []) []
both_eq true true r one other h = ap (λ x. x ∷ []) (h refl)
both_eq true false r one other h = refl
both_eq false t r one other h = refl

module _ (model : Expr) (table : Table) (w : Write) (c : List ℕ) (admitted : IsAdmitted model c) where
  abbrev places : List Place
  places = map (column_at c) (stored_columns table)

  -- the rows that begin in a row's place, by what the write's form makes of it
  changed_rows : (row rest : VRow) (changed : List VRow) (v : Write) → satisfies c table.cond ≡ true
      → satisfies c rest.cond ≡ (satisfies c row.cond && not (touches c table v row)) → AreChanged model table v row changed
      → (satisfies c row.cond ≡ true → fits places row.cells ≡ true)
      → cond (satisfies c row.cond && not (touches c table v row)) (row_of places row.cells ∷ []) [] ++ plain_rows c places changed
      ≡ cond (satisfies c row.cond) (after_plain c table v (row_of places row.cells) ++ []) []
  changed_rows row rest changed (write.Insert name names rows expr) there exact are fit =
      ap (λ xs. cond (satisfies c row.cond && not (touches c table (write.Insert name names rows expr) row)) (row_of places row.cells ∷ []) [] ++ plain_rows c places xs) are
      ∙ rest_eq (satisfies c row.cond) (touches c table (write.Insert name names rows expr) row) (row_of places row.cells)
  changed_rows row rest changed (write.Delete name cond expr) there exact are fit =
      ap (λ xs. cond_rows (satisfies c row.cond && not (touches c table (write.Delete name cond expr) row)) (row_of places row.cells) ++ plain_rows c places xs) are
      ∙ rest_eq (satisfies c row.cond) (touches c table (write.Delete name cond expr) row) (row_of places row.cells)
  changed_rows row rest changed (write.Update name items cond expr) there exact are fit =
      let v = write.Update name items cond expr in
      let one = are.1 in
      ap (λ xs. cond_rows (satisfies c row.cond && not (touches c table v row)) (row_of places row.cells) ++ plain_rows c places xs) are.2
      ∙ ap (λ xs. cond_rows (satisfies c row.cond && not (touches c table v row)) (row_of places row.cells) ++ xs)
      (ap (λ b. one_row places b are.0) (one.exact c admitted there) ∙ one_by places (satisfies c row.cond && touches c table v row) are.0)
      ∙ both_eq (satisfies c row.cond) (touches c table v row) (row_of places row.cells) (row_of places are.0.cells) (map (changed_cell (map assignment_of items)) (row_of places row.cells))
      (λ here. ap (row_of places) one.cells ∙ set_row c table (map assignment_of items) table.columns row.cells (fit here))

  -- what stays of a row and what begins in its place is what the write makes of the plain row
  pub piece : (row : VRow) (fate : Fate) → satisfies c table.cond ≡ true → IsFate model table w row fate → (satisfies c row.cond ≡ true → fits places row.cells ≡ true)
      → plain_rows c places (staying_by fate row) ++ plain_rows c places (begun_by fate) ≡ flat_map (after_plain c table w) (plain_rows c places (row ∷ []))
  piece row Stays there is fit =
      ap (λ xs. xs ++ []) (one_by places (satisfies c row.cond) row)
      ∙ stays_eq (satisfies c row.cond) (touches c table w row) (row_of places row.cells) (changed_plain w (row_of places row.cells)) (each_fails model (λ c. satisfies c row.cond && touches c table w row) is c admitted)
      ∙ sym (after_one c table w places (satisfies c row.cond) row)
  piece row (Ends rows) there is fit =
      let split = is.1 in
      ap (plain_rows c places) split.begun_are
      ∙ held_rows model table c places admitted there (split.rest ∷ split.changed)
      ∙ rows_append c places (split.rest ∷ []) split.changed
      ∙ ap (λ xs. xs ++ plain_rows c places split.changed)
      (ap (λ b. one_row places b split.rest) (split.rest_is.exact c admitted there)
      ∙ one_by places (satisfies c row.cond && not (touches c table w row)) split.rest
      ∙ ap (λ cells. cond (satisfies c row.cond && not (touches c table w row)) (row_of places cells ∷ []) []) split.rest_is.cells)
      ∙ changed_rows row split.rest split.changed w there (split.rest_is.exact c admitted there) split.changed_are fit
      ∙ sym (after_one c table w places (satisfies c row.cond) row)

  fits_first : (b : Bool) (row : VRow) (rows : List VRow) → list_all (fits places) (map (λ (row : VRow). row.cells) (cond b (row ∷ rows) rows)) ≡ true → b ≡ true → fits places row.cells ≡ true
  fits_first true row rows h is = and_first (fits places row.cells) (list_all (fits places) (map (λ (row : VRow). row.cells) rows)) h
  fits_first false row rows h is = search rules

  fits_later : (b : Bool) (row : VRow) (rows : List VRow) → list_all (fits places) (map (λ (row : VRow). row.cells) (cond b (row ∷ rows) rows)) ≡ true → list_all (fits places) (map (λ (row : VRow). row.cells) rows) ≡ true
  fits_later true row rows h = and_second (fits places row.cells) (list_all (fits places) (map (λ (row : VRow). row.cells) rows)) h
  fits_later false row rows h = h

  abbrev here : List VRow → List VRow
  here rows = filter (λ (row : VRow). satisfies c row.cond) rows

  -- what stays and what begins is, as a set, what the write makes of the plain rows
  moved : (rows : List VRow) (fates : List Fate) → satisfies c table.cond ≡ true → AreFates model table w rows fates → list_all (fits places) (map (λ (row : VRow). row.cells) (here rows)) ≡ true
      → Same (plain_rows c places (staying rows fates) ++ plain_rows c places (flat_map begun_by fates)) (flat_map (after_plain c table w) (plain_rows c places rows))
  moved [] [] there are fit = same_of [] [] refl
  moved [] (fate ∷ fates) there are fit = absurd are
  moved (row ∷ rows) [] there are fit = absurd are
  moved (row ∷ rows) (fate ∷ fates) there are fit =
      let stay = plain_rows c places (staying_by fate row) in
      let stays = plain_rows c places (staying rows fates) in
      let begin = plain_rows c places (begun_by fate) in
      let begins = plain_rows c places (flat_map begun_by fates) in
      let first = flat_map (after_plain c table w) (plain_rows c places (row ∷ [])) in
      let later = flat_map (after_plain c table w) (plain_rows c places rows) in
      let all = flat_map (after_plain c table w) (plain_rows c places (row ∷ rows)) in
      let apart = plain_rows c places (staying_by fate row ++ staying rows fates) ++ plain_rows c places (begun_by fate ++ flat_map begun_by fates) in
      same_on apart ((stay ++ stays) ++ (begin ++ begins)) all
      (same_of apart ((stay ++ stays) ++ (begin ++ begins))
      (ap₂ (λ xs ys. xs ++ ys) (rows_append c places (staying_by fate row) (staying rows fates)) (rows_append c places (begun_by fate) (flat_map begun_by fates))))
      (same_on ((stay ++ stays) ++ (begin ++ begins)) ((stay ++ begin) ++ (stays ++ begins)) all
      (same_crossed stay stays begin begins)
      (same_on ((stay ++ begin) ++ (stays ++ begins)) (first ++ later) all
      (same_both (stay ++ begin) first (stays ++ begins) later
      (same_of (stay ++ begin) first (piece row fate there are.0 (fits_first (satisfies c row.cond) row (here rows) fit)))
      (moved rows fates there are.1 (fits_later (satisfies c row.cond) row (here rows) fit)))
      (same_of (first ++ later) all
      (sym (flat_map-append (after_plain c table w) (plain_rows c places (row ∷ [])) (plain_rows c places rows))
      ∙ ap (flat_map (after_plain c table w)) (sym (rows_append c places (row ∷ []) rows))))))

-- The plain write, by what it makes of each row.

and_false : (a : Bool) → (a && false) ≡ false
and_false true = refl
and_false false = refl

single : (f : List Cell → List (List Cell)) (rows : List (List Cell)) → ((r : List Cell) → f r ≡ r ∷ []) → flat_map f rows ≡ rows
single f [] h = refl
single f (r ∷ rows) h = ap₂ (λ xs ys. xs ++ ys) (h r) (single f rows h)

delete_step : (c : List ℕ) (it : Cond) (b h : Bool) (r : List Cell) (filtered made : List (List Cell)) → b ≡ true → filtered ≡ made ++ []
    → cond (not h) (r ∷ filtered) filtered ≡ ((if b && h then [] else r ∷ []) ++ made) ++ []
delete_step c it true true r filtered made is rest = rest
delete_step c it true false r filtered made is rest = ap (λ xs. r ∷ xs) rest
delete_step c it false h r filtered made is rest = search rules

deleted : (c : List ℕ) (it : Cond) (a : Bool) (rows : List (List Cell)) → a ≡ true → filter (λ r. not (holds c it r)) rows ≡ flat_map (λ r. if a && holds c it r then [] else r ∷ []) rows ++ []
deleted c it a [] is = refl
deleted c it a (r ∷ rows) is =
    delete_step c it a (holds c it r) r (filter (λ r. not (holds c it r)) rows) (flat_map (λ r. if a && holds c it r then [] else r ∷ []) rows) is (deleted c it a rows is)

update_step : (b h : Bool) (r other : List Cell) (mapped made : List (List Cell)) → b ≡ true → mapped ≡ made ++ []
    → (if h then other else r) ∷ mapped ≡ ((if b && h then other ∷ [] else r ∷ []) ++ made) ++ []
update_step true true r other mapped made is rest = ap (λ xs. other ∷ xs) rest
update_step true false r other mapped made is rest = ap (λ xs. r ∷ xs) rest
update_step false h r other mapped made is rest = search rules

updated : (c : List ℕ) (it : Cond) (given : List Assignment) (a : Bool) (rows : List (List Cell)) → a ≡ true
    → map (changed_row c it given) rows ≡ flat_map (λ r. if a && holds c it r then map (changed_cell given) r ∷ [] else r ∷ []) rows ++ []
updated c it given a [] is = refl
updated c it given a (r ∷ rows) is =
    update_step a (holds c it r) r (map (changed_cell given) r) (map (changed_row c it given) rows) (flat_map (λ r. if a && holds c it r then map (changed_cell given) r ∷ [] else r ∷ []) rows) is (updated c it given a rows is)

some_given : (column : plain.Column) (places : List Place) (a : Option Value) (cells : List (Option Value)) → row_of (Some column ∷ places) (a ∷ cells) ≡ cell_by column.name a ++ row_of places cells
some_given column others None cells = refl
some_given column others (Some value) cells = refl

new_by : (given : List Assignment) (column : Column) (places : List Place) (cells : List (Option Value)) (b : Bool) → row_of places cells ≡ new_row (columns_of places) given
    → row_of (place_by column b ∷ places) (assigned given (bare_name column.name) ∷ cells) ≡ new_row (columns_of (place_by column b ∷ places)) given
new_by given column places cells true rest =
    some_given (record { name = bare_name column.name; kind = column.kind }) places (assigned given (bare_name column.name)) cells
    ∙ ap (λ xs. cell_by (bare_name column.name) (assigned given (bare_name column.name)) ++ xs) rest
new_by given column places cells false rest = none_row places (assigned given (bare_name column.name)) cells ∙ rest

-- a new row under conditions is the new plain row
new_row_is : (c : List ℕ) (table : Table) (given : List Assignment) (columns : List Column)
    → row_of (map (column_at c) (map (stored_column table) columns)) (map (λ (column : Column). assigned given (bare_name column.name)) columns)
    ≡ new_row (columns_of (map (column_at c) (map (stored_column table) columns))) given
new_row_is c table given [] = refl
new_row_is c table given (column ∷ columns) =
    new_by given column (map (column_at c) (map (stored_column table) columns)) (map (λ (column : Column). assigned given (bare_name column.name)) columns)
    (satisfies c (and_of table.cond column.cond)) (new_row_is c table given columns)

inserted_there : (c : List ℕ) (table : Table) (names : List (List ℕ)) (expr : Expr) (rows : List (List Operand)) → satisfies c expr ≡ true
    → plain_rows c (map (column_at c) (stored_columns table)) (map (inserted_row table names expr) rows) ≡ map (λ values. new_row (columns_of (map (column_at c) (stored_columns table))) (assignments_of names values)) rows
inserted_there c table names expr [] is = refl
inserted_there c table names expr (values ∷ rows) is =
    rows_append c (map (column_at c) (stored_columns table)) (inserted_row table names expr values ∷ []) (map (inserted_row table names expr) rows)
    ∙ ap₂ (λ xs ys. xs ++ ys)
    (ap (λ b. one_row (map (column_at c) (stored_columns table)) b (inserted_row table names expr values)) is
    ∙ ap (λ r. r ∷ []) (new_row_is c table (assignments_of names values) table.columns))
    (inserted_there c table names expr rows is)

inserted_away : (c : List ℕ) (table : Table) (places : List Place) (names : List (List ℕ)) (expr : Expr) (rows : List (List Operand)) → satisfies c expr ≡ false
    → plain_rows c places (map (inserted_row table names expr) rows) ≡ []
inserted_away c table others names expr [] is = refl
inserted_away c table others names expr (values ∷ rows) is =
    rows_append c others (inserted_row table names expr values ∷ []) (map (inserted_row table names expr) rows)
    ∙ ap₂ (λ xs ys. xs ++ ys) (ap (λ b. one_row others b (inserted_row table names expr values)) is) (inserted_away c table others names expr rows is)

and_right : (a b : Bool) → b ≡ true → (a && b) ≡ a
and_right true b h = h
and_right false b h = refl

-- where the write acts
acting : (c : List ℕ) (table : Table) (w : Write) (column : plain.Column) (columns : List plain.Column) (rows : List (List Cell)) → satisfies c table.cond ≡ true → acts c table w ≡ true
    → columns_of (map (column_at c) (stored_columns table)) ≡ column ∷ columns
    → after_acting c w (record { columns = column ∷ columns; rows = rows })
    ≡ record { columns = column ∷ columns; rows = flat_map (after_plain c table w) rows ++ plain_rows c (map (column_at c) (stored_columns table)) (inserted table w) }
acting c table (write.Insert name names listed expr) column columns rows there is cols =
    ap₂ (λ xs ys. relation_with (column ∷ columns) (xs ++ ys))
    (sym (single (after_plain c table (write.Insert name names listed expr)) rows (λ r. ap (λ b. if b then [] else r ∷ []) (and_false (acts c table (write.Insert name names listed expr))))))
    (ap (λ cs. map (λ values. new_row cs (assignments_of names values)) listed) (sym cols)
    ∙ sym (inserted_there c table names expr listed (sym (and_right (satisfies c expr) (satisfies c table.cond) there) ∙ is)))
acting c table (write.Delete name it expr) column columns rows there is cols =
    ap (λ xs. relation_with (column ∷ columns) xs) (deleted c it (acts c table (write.Delete name it expr)) rows is)
acting c table (write.Update name items it expr) column columns rows there is cols =
    ap (λ xs. relation_with (column ∷ columns) xs) (updated c it (map assignment_of items) (acts c table (write.Update name items it expr)) rows is)

-- where it doesn't
resting_inserted : (c : List ℕ) (table : Table) (w : Write) → satisfies c (write_expr w) ≡ false → plain_rows c (map (column_at c) (stored_columns table)) (inserted table w) ≡ []
resting_inserted c table (write.Insert name names listed expr) is = inserted_away c table (map (column_at c) (stored_columns table)) names expr listed is
resting_inserted c table (write.Delete name it expr) is = refl
resting_inserted c table (write.Update name items it expr) is = refl

resting : (c : List ℕ) (table : Table) (w : Write) (rows : List (List Cell)) → satisfies c table.cond ≡ true → acts c table w ≡ false
    → rows ≡ flat_map (after_plain c table w) rows ++ plain_rows c (map (column_at c) (stored_columns table)) (inserted table w)
resting c table w rows there is =
    sym (append-nil rows)
    ∙ ap₂ (λ xs ys. xs ++ ys)
    (sym (single (after_plain c table w) rows (λ r. ap (λ b. if b && matches c w r then changed_plain w r else r ∷ []) is)))
    (sym (resting_inserted c table w (sym (and_right (satisfies c (write_expr w)) (satisfies c table.cond) there) ∙ is)))

absent_after : (c : List ℕ) (w : Write) → after_acting c w absent ≡ absent
absent_after c (write.Insert name names listed expr) = refl
absent_after c (write.Delete name it expr) = refl
absent_after c (write.Update name items it expr) = refl

same_rows_itself : (r : Relation) → SameRows r r
same_rows_itself r = record { columns = refl; rows = λ row. (λ h. h, λ h. h) }

absent_same : (c : List ℕ) (w : Write) (a : Bool) (new : List (List Cell)) → SameRows absent (if a then after_acting c w absent else absent)
absent_same c w true new = subst (SameRows absent) (sym (absent_after c w)) (same_rows_itself absent)
absent_same c w false new = same_rows_itself absent

module _ (model : Expr) (table : Table) (w : Write) (c : List ℕ) (admitted : IsAdmitted model c) where
  abbrev spots : List Place
  spots = map (column_at c) (stored_columns table)

  abbrev made : List VRow → List (List Cell)
  made rows = flat_map (after_plain c table w) (plain_rows c spots rows) ++ plain_rows c spots (inserted table w)

  written : (old new : List VRow) → satisfies c table.cond ≡ true → IsRowWrite model table w old new → list_all (fits spots) (map (λ (row : VRow). row.cells) (filter (λ (row : VRow). satisfies c row.cond) old)) ≡ true
      → Same (plain_rows c spots new) (made old)
  written old new there it fit =
      let stay = plain_rows c spots (staying old it.fates) in
      let add = plain_rows c spots (inserted table w) in
      let begin = plain_rows c spots (flat_map begun_by it.fates) in
      same_on (plain_rows c spots new) (stay ++ (add ++ begin)) (made old)
      (same_of (plain_rows c spots new) (stay ++ (add ++ begin))
      (ap (plain_rows c spots) it.new_are
      ∙ rows_append c spots (staying old it.fates) (begun model table w it.fates)
      ∙ ap (λ xs. stay ++ xs) (rows_append c spots (holding model table (inserted table w)) (flat_map begun_by it.fates) ∙ ap (λ xs. xs ++ begin) (held_rows model table c spots admitted there (inserted table w)))))
      (same_on (stay ++ (add ++ begin)) ((stay ++ begin) ++ add) (made old)
      (same_swapped stay add begin)
      (same_both (stay ++ begin) (flat_map (after_plain c table w) (plain_rows c spots old)) add add
      (moved model table w c admitted old it.fates there it.are_fates fit)
      (same_of add add refl)))

  by_columns : (old new : List VRow) (columns : List plain.Column) (a : Bool) → columns_of spots ≡ columns → acts c table w ≡ a → satisfies c table.cond ≡ true → Same (plain_rows c spots new) (made old)
      → SameRows (relation_with columns (plain_rows c spots new)) (if a then after_acting c w (relation_with columns (plain_rows c spots old)) else relation_with columns (plain_rows c spots old))
  by_columns old new [] a cols is there same = absent_same c w a (plain_rows c spots new)
  by_columns old new (column ∷ columns) true cols is there same =
      subst (SameRows (record { columns = column ∷ columns; rows = plain_rows c spots new })) (sym (acting c table w column columns (plain_rows c spots old) there is cols))
      (record { columns = refl; rows = same })
  by_columns old new (column ∷ columns) false cols is there same =
      record { columns = refl; rows = same_on (plain_rows c spots new) (made old) (plain_rows c spots old) same (same_of (made old) (plain_rows c spots old) (sym (resting c table w (plain_rows c spots old) there is))) }

  nothing_by : (column : Column) (places : List Place) (b : Bool) → b ≡ false → columns_of places ≡ [] → columns_of (place_by column b ∷ places) ≡ []
  nothing_by column places true is rest = search rules
  nothing_by column places false is rest = rest

  nothing_there : (columns : List Column) → satisfies c table.cond ≡ false → columns_of (map (column_at c) (map (stored_column table) columns)) ≡ []
  nothing_there [] away = refl
  nothing_there (column ∷ columns) away =
      nothing_by column (map (column_at c) (map (stored_column table) columns)) (satisfies c (and_of table.cond column.cond))
      (and_holds c table.cond column.cond ∙ ap (λ b. b && satisfies c column.cond) away) (nothing_there columns away)

  -- A write on rows under conditions is the plain write.
  pub plain_write : (old new : List VRow) → IsRowWrite model table w old new → IsAnswerAt c (stored_table table old)
      → SameRows (answer_at c (stored_table table new)) (after_write c table w (answer_at c (stored_table table old)))
  plain_write old new it answer = by_table (satisfies c table.cond) refl where
    by_table : (b : Bool) → satisfies c table.cond ≡ b → SameRows (answer_at c (stored_table table new)) (after_write c table w (answer_at c (stored_table table old)))
    by_table true there = by_columns old new (columns_of spots) (acts c table w) refl refl there (written old new there it answer.filled)
    by_table false away =
        let none : columns_of spots ≡ [] = nothing_there table.columns away in
        subst (λ columns. SameRows (relation_with columns (plain_rows c spots new)) (if acts c table w then after_acting c w (relation_with columns (plain_rows c spots old)) else relation_with columns (plain_rows c spots old)))
        (sym none) (absent_same c w (acts c table w) [])
