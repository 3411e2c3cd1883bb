-- A write that counts keeps a table well formed.
use Rattle.std.proofs.Common.{◌≡◌, ℕ, ◌==◌, Bool, true, false, cond, not, ◌&&◌, if◌then◌else◌, List, [], ◌∷◌, ◌++◌, map, filter, flat_map, length, Option, Some, None, refl, sym, ◌∙◌, ap, subst, arith, rules, inl, inr}
use Rattle.std.specs.List.{list_all}
use Rattle.std.proofs.lemmas.Bool.Decides.{nat_tests}
use Rattle.std.proofs.lemmas.List.{length-map}
use Rattle.condition_sat.specs.Admitted.{IsAdmitted}
use Rattle.feature_expr.specs.Expressions.{and_of}
use Rattle.feature_expr.specs.Satisfaction.{satisfies}
use Rattle.values.specs.Value.{kind_of}
use Rattle.feature_expr.specs.declared.expr.Expr.{Expr}
use Rattle.values.specs.declared.value.Value.{Value}
use Rattle.plain_relation.specs.Relations as plain
use Rattle.condition_sat.proofs.PossibleLaws.{and_first, and_second, both}
use Rattle.row_conditions.proofs.FoldingLaws.{and_holds}
use Rattle.write_meaning.proofs.KindLaws.{HasKind}
use Rattle.write_meaning.specs.Members.{Has}
use Rattle.write_meaning.specs.StoredTables.{stored_column, stored_columns, stored_table}
use Rattle.write_meaning.specs.PlainWrites.{assigned}
use Rattle.write_meaning.specs.RowWrites.{touches, given_or, set_cells, can_be_there, holding, IsFate, AreFates, AreChanged, staying_by, staying, begun_by, inserted_row, inserted, begun, IsRowWrite}
use Rattle.query_meaning.specs.WriteTyping.{Assignment, assignments_of, assignment_of}
use Rattle.vra_syntax.specs.declared.cond.Operand.{Operand}
use Rattle.vra_syntax.specs.declared.write.Write.{Write}
use Rattle.vra_syntax.specs.declared.write.Write.TheVariants as write
use Rattle.vschema.specs.Variants.{bare_name}
use Rattle.vschema.specs.declared.catalog.Column.{Column}
use Rattle.vschema.specs.declared.catalog.Table.{Table}
use Rattle.vtable.specs.Answers.{column_at, fits, is_whole, IsAnswerAt}
use Rattle.plain_relation.specs.Values.{same_kind}
use Rattle.vtable.specs.declared.table.VRow.{VRow}
use Rattle.write_meaning.specs.declared.fate.Fate.{Fate}
use Rattle.write_meaning.specs.declared.fate.Fate.TheVariants.{Stays, Ends}

abbrev Place : Type 0
Place = Option plain.Column

abbrev place_by : Column → Bool → Place
place_by column b = if b then Some (record { name = bare_name column.name; kind = column.kind }) else None

-- What a write gives, where it acts in the variant: values of the right kinds, and for an INSERT one in each column that
-- is there.
abbrev pub GivesKinds : Table → List Assignment → Type 0
GivesKinds table given = (column : Column) → Has table.columns column → HasKind (assigned given (bare_name column.name)) column.kind

abbrev pub GivesAll : List ℕ → Table → List Assignment → Type 0
GivesAll c table given = (column : Column) → Has table.columns column → satisfies c (and_of table.cond column.cond) ≡ true → assigned given (bare_name column.name) ≡ None → ⊥

fits_both : (column : plain.Column) (places : List Place) (value : Value) (cells : List (Option Value)) → same_kind (kind_of value) column.kind ≡ true → fits places cells ≡ true → fits (Some column ∷ places) (Some value ∷ cells) ≡ true
fits_both column places value cells h k = both (same_kind (kind_of value) column.kind) (fits places cells) h k

set_fits_by : (column : Column) (places : List Place) (cell : Option Value) (cells changed : List (Option Value)) (a : Option Value) (b : Bool) → HasKind a column.kind
    → (fits places cells ≡ true → fits places changed ≡ true) → fits (place_by column b ∷ places) (cell ∷ cells) ≡ true → fits (place_by column b ∷ places) (given_or a cell ∷ changed) ≡ true
set_fits_by column places cell cells changed a false has on h = on h
set_fits_by column places None cells changed a true has on h = search rules
set_fits_by column places (Some value) cells changed None true has on h =
    fits_both (record { name = bare_name column.name; kind = column.kind }) places value changed (and_first (same_kind (kind_of value) column.kind) (fits places cells) h) (on (and_second (same_kind (kind_of value) column.kind) (fits places cells) h))
set_fits_by column places (Some value) cells changed (Some other) true has on h =
    fits_both (record { name = bare_name column.name; kind = column.kind }) places other changed has (on (and_second (same_kind (kind_of value) column.kind) (fits places cells) h))

new_fits_by : (column : Column) (places : List Place) (cells : List (Option Value)) (a : Option Value) (b : Bool) → HasKind a column.kind → (b ≡ true → a ≡ None → ⊥)
    → fits places cells ≡ true → fits (place_by column b ∷ places) (a ∷ cells) ≡ true
new_fits_by column places cells a false has some rest = rest
new_fits_by column places cells None true has some rest = absurd (some refl refl)
new_fits_by column places cells (Some value) true has some rest = fits_both (record { name = bare_name column.name; kind = column.kind }) places value cells has rest

eq_of : (a b : ℕ) → (a == b) ≡ true → a ≡ b
eq_of a b h = grind (arith, nat_tests)

of_eq : (a b : ℕ) → a ≡ b → (a == b) ≡ true
of_eq a b h = grind (arith, nat_tests)

module _ (table : Table) (c : List ℕ) where
  abbrev places : List Place
  places = map (column_at c) (stored_columns table)

  set_fits : (given : List Assignment) → GivesKinds table given → (columns : List Column) (cells : List (Option Value)) → ((column : Column) → Has columns column → Has table.columns column)
      → fits (map (column_at c) (map (stored_column table) columns)) cells ≡ true → fits (map (column_at c) (map (stored_column table) columns)) (set_cells columns given cells) ≡ true
  set_fits given kinds [] cells sub h = h
  set_fits given kinds (column ∷ columns) [] sub h = h
  set_fits given kinds (column ∷ columns) (cell ∷ cells) sub h =
      set_fits_by column (map (column_at c) (map (stored_column table) columns)) cell cells (set_cells columns given cells) (assigned given (bare_name column.name)) (satisfies c (and_of table.cond column.cond))
      (kinds column (sub column (inl refl))) (set_fits given kinds columns cells (λ other there. sub other (inr there))) h

  new_fits : (given : List Assignment) → GivesKinds table given → GivesAll c table given → (columns : List Column) → ((column : Column) → Has columns column → Has table.columns column)
      → fits (map (column_at c) (map (stored_column table) columns)) (map (λ (column : Column). assigned given (bare_name column.name)) columns) ≡ true
  new_fits given kinds all [] sub = refl
  new_fits given kinds all (column ∷ columns) sub =
      new_fits_by column (map (column_at c) (map (stored_column table) columns)) (map (λ (column : Column). assigned given (bare_name column.name)) columns) (assigned given (bare_name column.name)) (satisfies c (and_of table.cond column.cond))
      (kinds column (sub column (inl refl))) (all column (sub column (inl refl))) (new_fits given kinds all columns (λ other there. sub other (inr there)))

  length_set : (given : List Assignment) (columns : List Column) (cells : List (Option Value)) → length (set_cells columns given cells) ≡ length cells
  length_set given [] cells = refl
  length_set given (column ∷ columns) [] = refl
  length_set given (column ∷ columns) (cell ∷ cells) = let e = length_set given columns cells in omega (arith, e)

  nothing_by : (column : Column) (others : List Place) (cell : Option Value) (cells : List (Option Value)) (b : Bool) → b ≡ false → fits others cells ≡ true → fits (place_by column b ∷ others) (cell ∷ cells) ≡ true
  nothing_by column others cell cells true is h = search rules
  nothing_by column others cell cells false is h = h

  -- where the table isn't there, one cell place per column is all that is asked
  nothing_fits : satisfies c table.cond ≡ false → (columns : List Column) (cells : List (Option Value)) → length cells ≡ length columns → fits (map (column_at c) (map (stored_column table) columns)) cells ≡ true
  nothing_fits away [] [] h = refl
  nothing_fits away [] (cell ∷ cells) h = let never : ⊥ = omega (arith, h) in absurd never
  nothing_fits away (column ∷ columns) [] h = let never : ⊥ = omega (arith, h) in absurd never
  nothing_fits away (column ∷ columns) (cell ∷ cells) h =
      nothing_by column (map (column_at c) (map (stored_column table) columns)) cell cells (satisfies c (and_of table.cond column.cond))
      (and_holds c table.cond column.cond ∙ ap (λ b. b && satisfies c column.cond) away) (nothing_fits away columns cells (omega (arith, h)))

  -- a row that is well formed: one cell place per column, and where it is there, cells of the right kinds
  pub record IsGood (row : VRow) : Type 0 where
    pub whole : length row.cells ≡ length (stored_columns table)
    pub filled : satisfies c row.cond ≡ true → fits places row.cells ≡ true

  abbrev pub AreGood : List VRow → Type 0
  AreGood [] = Unit {0}
  AreGood (row ∷ rows) = IsGood row × AreGood rows

  pub good_append : (xs ys : List VRow) → AreGood xs → AreGood ys → AreGood (xs ++ ys)
  good_append [] ys h k = k
  good_append (x ∷ xs) ys h k = (h.0, good_append xs ys h.1 k)

  held_by : (b : Bool) (row : VRow) (rows : List VRow) → IsGood row → AreGood rows → AreGood (cond b (row ∷ rows) rows)
  held_by true row rows h k = (h, k)
  held_by false row rows h k = k

  good_held : (model : Expr) (rows : List VRow) → AreGood rows → AreGood (holding model table rows)
  good_held model [] h = tt
  good_held model (row ∷ rows) h = held_by (can_be_there model table row) row (holding model table rows) h.0 (good_held model rows h.1)

  and_true : (a b : Bool) → (a && b) ≡ true → (a ≡ true) × (b ≡ true)
  and_true true b h = (refl, h)
  and_true false b h = search rules

  -- what the form of a write gives
  abbrev pub Gives : Write → Type 0
  Gives (write.Insert name names rows expr) = (values : List Operand) → Has rows values → GivesKinds table (assignments_of names values) × (satisfies c expr ≡ true → satisfies c table.cond ≡ true → GivesAll c table (assignments_of names values))
  Gives (write.Delete name it expr) = Unit {0}
  Gives (write.Update name items it expr) = GivesKinds table (map assignment_of items)

  both_cases : (b : Bool) (A : Type 0) → (b ≡ true → A) → (b ≡ false → A) → A
  both_cases true A h k = h refl
  both_cases false A h k = k refl

  away_length : (cells : List (Option Value)) → length cells ≡ length (stored_columns table) → length cells ≡ length table.columns
  away_length cells h = h ∙ length-map table.columns (stored_column table)

  same_cells_good : (model : Expr) → IsAdmitted model c → (w : Write) (row rest : VRow) → rest.cells ≡ row.cells → (satisfies c table.cond ≡ true → satisfies c rest.cond ≡ (satisfies c row.cond && not (touches c table w row))) → IsGood row → IsGood rest
  same_cells_good model admitted w row rest cells exact good = record {
    whole = ap length cells ∙ good.whole;
    filled = λ here. both_cases (satisfies c table.cond) (fits places rest.cells ≡ true)
        (λ there. ap (fits places) cells ∙ good.filled (and_true (satisfies c row.cond) (not (touches c table w row)) (sym (exact there) ∙ here)).0)
        (λ away. nothing_fits away table.columns rest.cells (away_length rest.cells (ap length cells ∙ good.whole)));
  }

  changed_good : (model : Expr) → IsAdmitted model c → (w : Write) → Gives w → (row : VRow) (changed : List VRow) → AreChanged model table w row changed → IsGood row → AreGood changed
  changed_good model admitted (write.Insert name names rows expr) gives row changed are good = subst AreGood (sym are) tt
  changed_good model admitted (write.Delete name it expr) gives row changed are good = subst AreGood (sym are) tt
  changed_good model admitted (write.Update name items it expr) gives row changed are good =
      let one = are.0 in
      let is = are.1 in
      let whole : length one.cells ≡ length (stored_columns table) = ap length is.cells ∙ length_set (map assignment_of items) table.columns row.cells ∙ good.whole in
      subst AreGood (sym are.2) (
        record {
          whole = whole;
          filled = λ here. both_cases (satisfies c table.cond) (fits places one.cells ≡ true)
              (λ there. ap (fits places) is.cells ∙ set_fits (map assignment_of items) gives table.columns row.cells (λ column h. h)
              (good.filled (and_true (satisfies c row.cond) (touches c table (write.Update name items it expr) row) (sym (is.exact c admitted there) ∙ here)).0))
              (λ away. nothing_fits away table.columns one.cells (away_length one.cells whole));
        },
        tt,
      )

  good_staying : (fate : Fate) (row : VRow) → IsGood row → AreGood (staying_by fate row)
  good_staying Stays row h = (h, tt)
  good_staying (Ends begun) row h = tt

  good_begun : (model : Expr) → IsAdmitted model c → (w : Write) → Gives w → (fate : Fate) (row : VRow) → IsFate model table w row fate → IsGood row → AreGood (begun_by fate)
  good_begun model admitted w gives Stays row is good = tt
  good_begun model admitted w gives (Ends begun) row is good =
      let split = is.1 in
      subst AreGood (sym split.begun_are) (good_held model (split.rest ∷ split.changed)
      (same_cells_good model admitted w row split.rest split.rest_is.cells (split.rest_is.exact c admitted) good, changed_good model admitted w gives row split.changed split.changed_are good))

  stays_good : (model : Expr) (w : Write) (rows : List VRow) (fates : List Fate) → AreFates model table w rows fates → AreGood rows → AreGood (staying rows fates)
  stays_good model w [] [] are good = tt
  stays_good model w [] (fate ∷ fates) are good = tt
  stays_good model w (row ∷ rows) [] are good = tt
  stays_good model w (row ∷ rows) (fate ∷ fates) are good = good_append (staying_by fate row) (staying rows fates) (good_staying fate row good.0) (stays_good model w rows fates are.1 good.1)

  begins_good : (model : Expr) → IsAdmitted model c → (w : Write) → Gives w → (rows : List VRow) (fates : List Fate) → AreFates model table w rows fates → AreGood rows → AreGood (flat_map begun_by fates)
  begins_good model admitted w gives [] [] are good = tt
  begins_good model admitted w gives [] (fate ∷ fates) are good = absurd are
  begins_good model admitted w gives (row ∷ rows) [] are good = tt
  begins_good model admitted w gives (row ∷ rows) (fate ∷ fates) are good =
      good_append (begun_by fate) (flat_map begun_by fates) (good_begun model admitted w gives fate row are.0 good.0) (begins_good model admitted w gives rows fates are.1 good.1)

  listed_good : (names : List (List ℕ)) (expr : Expr) (rows all : List (List Operand)) → ((values : List Operand) → Has rows values → Has all values) → Gives (write.Insert table.name names all expr) → AreGood (map (inserted_row table names expr) rows)
  listed_good names expr [] all sub gives = tt
  listed_good names expr (values ∷ rows) all sub gives =
      let one = gives values (sub values (inl refl)) in
      let whole : length (map (λ (column : Column). assigned (assignments_of names values) (bare_name column.name)) table.columns) ≡ length (stored_columns table) =
      length-map table.columns (λ (column : Column). assigned (assignments_of names values) (bare_name column.name)) ∙ sym (length-map table.columns (stored_column table)) in (
        record {
          whole = whole;
          filled = λ here. both_cases (satisfies c table.cond) (fits places (map (λ (column : Column). assigned (assignments_of names values) (bare_name column.name)) table.columns) ≡ true)
              (λ there. new_fits (assignments_of names values) one.0 (one.1 here there) table.columns (λ column h. h))
              (λ away. nothing_fits away table.columns (map (λ (column : Column). assigned (assignments_of names values) (bare_name column.name)) table.columns) (away_length (map (λ (column : Column). assigned (assignments_of names values) (bare_name column.name)) table.columns) whole));
        },
        listed_good names expr rows all (λ other there. sub other (inr there)) gives,
      )

  inserted_good : (w : Write) → Gives w → AreGood (inserted table w)
  inserted_good (write.Insert name names rows expr) gives = listed_good names expr rows rows (λ values there. there) gives
  inserted_good (write.Delete name it expr) gives = tt
  inserted_good (write.Update name items it expr) gives = tt

  -- a write that gives what it should keeps rows well formed
  pub good_after : (model : Expr) → IsAdmitted model c → (w : Write) → Gives w → (old new : List VRow) → IsRowWrite model table w old new → AreGood old → AreGood new
  good_after model admitted w gives old new it good =
      subst AreGood (sym it.new_are)
      (good_append (staying old it.fates) (begun model table w it.fates) (stays_good model w old it.fates it.are_fates good)
      (good_append (holding model table (inserted table w)) (flat_map begun_by it.fates) (good_held model (inserted table w) (inserted_good w gives)) (begins_good model admitted w gives old it.fates it.are_fates good)))

-- Well-formedness of a table, row by row.

whole_of : (table : Table) (c : List ℕ) (rows all : List VRow) → list_all (is_whole (stored_table table all)) rows ≡ true → list_all (fits (map (column_at c) (stored_columns table))) (map (λ (row : VRow). row.cells) (filter (λ (row : VRow). satisfies c row.cond) rows)) ≡ true → AreGood table c rows
whole_of table c [] all h k = tt
whole_of table c (row ∷ rows) all h k =
    let parts = first_of (satisfies c row.cond) k in (
      record { whole = eq_of (length row.cells) (length (stored_columns table)) (and_first (is_whole (stored_table table all) row) (list_all (is_whole (stored_table table all)) rows) h); filled = parts.0 },
      whole_of table c rows all (and_second (is_whole (stored_table table all) row) (list_all (is_whole (stored_table table all)) rows) h) parts.1,
    ) where
      first_of : (b : Bool) → list_all (fits (map (column_at c) (stored_columns table))) (map (λ (row : VRow). row.cells) (cond b (row ∷ filter (λ (row : VRow). satisfies c row.cond) rows) (filter (λ (row : VRow). satisfies c row.cond) rows))) ≡ true
          → (b ≡ true → fits (map (column_at c) (stored_columns table)) row.cells ≡ true) × (list_all (fits (map (column_at c) (stored_columns table))) (map (λ (row : VRow). row.cells) (filter (λ (row : VRow). satisfies c row.cond) rows)) ≡ true)
      first_of true h = (λ is. and_first (fits (map (column_at c) (stored_columns table)) row.cells) _ h, and_second (fits (map (column_at c) (stored_columns table)) row.cells) _ h)
      first_of false h = (λ is. search rules, h)

all_whole : (table : Table) (c : List ℕ) (rows all : List VRow) → AreGood table c rows → list_all (is_whole (stored_table table all)) rows ≡ true
all_whole table c [] all h = refl
all_whole table c (row ∷ rows) all h = both (is_whole (stored_table table all) row) (list_all (is_whole (stored_table table all)) rows) (of_eq (length row.cells) (length (stored_columns table)) h.0.whole) (all_whole table c rows all h.1)

filled_by : (places : List Place) (row : VRow) (rows : List VRow) (b : Bool) → (b ≡ true → fits places row.cells ≡ true) → list_all (fits places) (map (λ (row : VRow). row.cells) rows) ≡ true → list_all (fits places) (map (λ (row : VRow). row.cells) (cond b (row ∷ rows) rows)) ≡ true
filled_by spots row rows true h k = both (fits spots row.cells) (list_all (fits spots) (map (λ (row : VRow). row.cells) rows)) (h refl) k
filled_by spots row rows false h k = k

all_filled : (table : Table) (c : List ℕ) (rows : List VRow) → AreGood table c rows → list_all (fits (map (column_at c) (stored_columns table))) (map (λ (row : VRow). row.cells) (filter (λ (row : VRow). satisfies c row.cond) rows)) ≡ true
all_filled table c [] h = refl
all_filled table c (row ∷ rows) h = filled_by (map (column_at c) (stored_columns table)) row (filter (λ (row : VRow). satisfies c row.cond) rows) (satisfies c row.cond) h.0.filled (all_filled table c rows h.1)

-- A write that gives what it should keeps the table well formed.
pub formed_after : (model : Expr) (table : Table) (w : Write) (c : List ℕ) → IsAdmitted model c → Gives table c w → (old new : List VRow) → IsRowWrite model table w old new → IsAnswerAt c (stored_table table old) → IsAnswerAt c (stored_table table new)
formed_after model table w c admitted gives old new it answer =
    let good = good_after table c model admitted w gives old new it (whole_of table c old old answer.whole answer.filled) in
    record { distinct = answer.distinct; whole = all_whole table c new new good; filled = all_filled table c new good }
