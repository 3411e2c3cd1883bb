-- A stored row and the plain row that it is in a variant.
use Rattle.std.proofs.Common.{◌≡◌, ◌∙◌, ℕ, Bool, true, false, cond, not, ◌&&◌, ◌||◌, if◌then◌else◌, List, [], ◌∷◌, map, filter, Option, Some, None, refl, sym, ap, ap₂, rules}
use Rattle.std.specs.List.{list_any}
use Rattle.std.specs.Str.{bytes_eq}
use Rattle.std.proofs.lemmas.Slice.Eq.{bytes_eq-Decides}
use Rattle.condition_sat.proofs.PossibleLaws.{each_fails}
use Rattle.condition_sat.specs.Admitted.{IsAdmitted}
use Rattle.feature_expr.specs.Expressions.{and_of}
use Rattle.feature_expr.specs.Names.{among}
use Rattle.feature_expr.specs.Satisfaction.{satisfies}
use Rattle.feature_expr.specs.declared.expr.Expr.{Expr}
use Rattle.plain_relation.specs.Relations.{Cell, cell_of, columns_of, relation_with, row_of}
use Rattle.plain_relation.specs.Relations as plain
use Rattle.plain_relation.specs.Values.{same_kind}
use Rattle.row_conditions.proofs.BoolLaws.{and_first, and_second, neither, not_true}
use Rattle.row_conditions.proofs.FoldingLaws.{and_holds}
use Rattle.values.specs.Value.{kind_of}
use Rattle.values.specs.declared.value.Value.{Value}
use Rattle.vschema.specs.Formed.{column_names, distinct}
use Rattle.vschema.specs.Gaps.{is_column_there}
use Rattle.vschema.specs.Variants.{bare_name}
use Rattle.vschema.specs.declared.catalog.Column.{Column}
use Rattle.vschema.specs.declared.catalog.Table.{Table}
use Rattle.vtable.specs.Answers.{column_at, fits}
use Rattle.write_counts.specs.Counts.{is_mandatory}
use Rattle.write_counts.specs.Lists.{marked}
use Rattle.write_meaning.specs.Members.{Has}
use Rattle.write_meaning.specs.StoredTables.{stored_column}

abbrev Place : Type 0
Place = Option plain.Column

abbrev place_by : Column → Bool → Place
place_by column b = if b then Some (record { name = bare_name column.name; kind = column.kind }) else None

bytes_self : (name : List ℕ) → bytes_eq name name ≡ true
bytes_self name = (bytes_eq-Decides name name).1 refl

turned_by : (one other : List ℕ) (b : Bool) → bytes_eq other one ≡ b → bytes_eq one other ≡ false → b ≡ false
turned_by one other true is h = absurd (unequal (bytes_eq one other) h (ap (bytes_eq one) ((bytes_eq-Decides other one).0 is) ∙ bytes_self one)) where
  unequal : (b : Bool) → b ≡ false → b ≡ true → ⊥
  unequal true h k = search rules
  unequal false h k = search rules
turned_by one other false is h = refl

-- names that differ do so from either side
turned : (one other : List ℕ) → bytes_eq one other ≡ false → bytes_eq other one ≡ false
turned one other h = turned_by one other (bytes_eq other one) refl h

-- a cell of another name
other_cell : (column : Column) (places : List Place) (cell : Option Value) (cells : List (Option Value)) (name : List ℕ) (b : Bool) → bytes_eq column.name name ≡ false
    → cell_of (row_of (place_by column b ∷ places) (cell ∷ cells)) (bare_name name) ≡ cell_of (row_of places cells) (bare_name name)
other_cell column places None cells name true other = refl
other_cell column places (Some value) cells name true other = ap (λ t. if t then Some value else cell_of (row_of places cells) (bare_name name)) other
other_cell column places None cells name false other = refl
other_cell column places (Some value) cells name false other = refl

-- the cell of the column's own name
own_cell : (column : Column) (places : List Place) (cell : Option Value) (cells : List (Option Value)) (b : Bool) → b ≡ true → fits (place_by column b ∷ places) (cell ∷ cells) ≡ true
    → cell ≡ cell_of (row_of (place_by column b ∷ places) (cell ∷ cells)) (bare_name column.name)
own_cell column places None cells true is fit = search rules
own_cell column places (Some value) cells true is fit = ap (λ t. if t then Some value else cell_of (row_of places cells) (bare_name column.name)) (sym (bytes_self column.name))
own_cell column places cell cells false is fit = search rules

fits_behind : (column : Column) (places : List Place) (cell : Option Value) (cells : List (Option Value)) (b : Bool) → fits (place_by column b ∷ places) (cell ∷ cells) ≡ true → fits places cells ≡ true
fits_behind column places None cells true fit = search rules
fits_behind column places (Some value) cells true fit = and_second (same_kind (kind_of value) column.kind) (fits places cells) fit
fits_behind column places None cells false fit = fit
fits_behind column places (Some value) cells false fit = fit

no_cell : (column : Column) (places : List Place) (b : Bool) → fits (place_by column b ∷ places) [] ≡ true → ⊥
no_cell column places true fit = search rules
no_cell column places false fit = search rules

abbrev cell_named : List Place → List (Option Value) → Column → Option Value
cell_named places cells column = cell_of (row_of places cells) (bare_name column.name)

later_by : (one other : Column → Option Value) (column : Column) (columns : List Column) (b : Bool) → one column ≡ other column → map one columns ≡ map other columns → map one (cond b (column ∷ columns) columns) ≡ map other (cond b (column ∷ columns) columns)
later_by one other column columns true is rest = ap₂ (λ x xs. x ∷ xs) is rest
later_by one other column columns false is rest = rest

-- a column in front leaves the cells of the others
behind : (test : Column → Bool) (column : Column) (places : List Place) (cell : Option Value) (cells : List (Option Value)) (b : Bool) (columns : List Column) → among column.name (column_names columns) ≡ false
    → map (cell_named (place_by column b ∷ places) (cell ∷ cells)) (filter test columns) ≡ map (cell_named places cells) (filter test columns)
behind test column places cell cells b [] apart = refl
behind test column places cell cells b (other ∷ columns) apart =
    let both = neither (bytes_eq other.name column.name) (among column.name (column_names columns)) apart in
    later_by (cell_named (place_by column b ∷ places) (cell ∷ cells)) (cell_named places cells) other (filter test columns) (test other)
    (other_cell column places cell cells other.name b (turned other.name column.name both.0))
    (behind test column places cell cells b columns both.1)

present : (there here : Bool) → (there && not here) ≡ false → there ≡ true → here ≡ true
present true true h is = refl
present true false h is = search rules
present false here h is = search rules

module _ (model : Expr) (table : Table) (c : List ℕ) (admitted : IsAdmitted model c) (there : satisfies c table.cond ≡ true) where
  abbrev spots : List Column → List Place
  spots columns = map (column_at c) (map (stored_column table) columns)

  -- a mandatory column is there
  stands : (column : Column) → is_mandatory model table column ≡ true → satisfies c (and_of table.cond column.cond) ≡ true
  stands column is =
      and_holds c table.cond column.cond
      ∙ ap₂ (λ a b. a && b) there
      (present (satisfies c table.cond) (satisfies c column.cond)
      (each_fails model (λ d. satisfies d table.cond && not (satisfies d column.cond)) (not_true _ is) c admitted) there)

  first_by : (column : Column) (columns : List Column) (cell : Option Value) (cells : List (Option Value)) (mandatory : Bool)
      → (mandatory ≡ true → cell ≡ cell_named (spots (column ∷ columns)) (cell ∷ cells) column)
      → marked (map (is_mandatory model table) columns) cells ≡ map (cell_named (spots (column ∷ columns)) (cell ∷ cells)) (filter (is_mandatory model table) columns)
      → (if mandatory then cell ∷ marked (map (is_mandatory model table) columns) cells else marked (map (is_mandatory model table) columns) cells)
      ≡ map (cell_named (spots (column ∷ columns)) (cell ∷ cells)) (cond mandatory (column ∷ filter (is_mandatory model table) columns) (filter (is_mandatory model table) columns))
  first_by column columns cell cells true first rest = ap₂ (λ x xs. x ∷ xs) (first refl) rest
  first_by column columns cell cells false first rest = rest

  -- a row's cells at the places of the mandatory columns are the plain row's cells in them
  pub cells_there : (columns : List Column) (cells : List (Option Value)) → distinct (column_names columns) ≡ true → fits (spots columns) cells ≡ true
      → marked (map (is_mandatory model table) columns) cells ≡ map (cell_named (spots columns) cells) (filter (is_mandatory model table) columns)
  cells_there [] cells apart fit = refl
  cells_there (column ∷ columns) [] apart fit = absurd (no_cell column (spots columns) (satisfies c (and_of table.cond column.cond)) fit)
  cells_there (column ∷ columns) (cell ∷ cells) apart fit =
      let here = satisfies c (and_of table.cond column.cond) in
      first_by column columns cell cells (is_mandatory model table column)
      (λ is. own_cell column (spots columns) cell cells here (stands column is) fit)
      (cells_there columns cells (and_second (not (among column.name (column_names columns))) (distinct (column_names columns)) apart) (fits_behind column (spots columns) cell cells here fit)
      ∙ sym (behind (is_mandatory model table) column (spots columns) cell cells here columns
      (not_true (among column.name (column_names columns)) (and_first (not (among column.name (column_names columns))) (distinct (column_names columns)) apart))))

-- whether there is a column
abbrev pub is_one : List plain.Column → Bool
is_one [] = false
is_one (column ∷ columns) = true

one_by : (column : Column) (places : List Place) (here some : Bool) → is_one (columns_of places) ≡ some → is_one (columns_of (place_by column here ∷ places)) ≡ (here || some)
one_by column places true some rest = refl
one_by column places false some rest = rest

-- where the table is there, it has a column where one of its columns' conditions holds
pub one_there : (table : Table) (c : List ℕ) → satisfies c table.cond ≡ true → (columns : List Column) → is_one (columns_of (map (column_at c) (map (stored_column table) columns))) ≡ list_any (is_column_there c) columns
one_there table c there [] = refl
one_there table c there (column ∷ columns) =
    one_by column (map (column_at c) (map (stored_column table) columns)) (satisfies c (and_of table.cond column.cond)) (list_any (is_column_there c) columns) (one_there table c there columns)
    ∙ ap (λ b. b || list_any (is_column_there c) columns) (and_holds c table.cond column.cond ∙ ap (λ b. b && satisfies c column.cond) there)

-- a relation has rows where it has a column
pub rows_with : (columns : List plain.Column) (rows : List (List Cell)) (row : List Cell) → is_one columns ≡ true → Has rows row → Has (relation_with columns rows).rows row
rows_with [] rows row is h = search rules
rows_with (column ∷ columns) rows row is h = h

pub with_rows : (columns : List plain.Column) (rows : List (List Cell)) (row : List Cell) → Has (relation_with columns rows).rows row → (is_one columns ≡ true) × Has rows row
with_rows [] rows row h = absurd h
with_rows (column ∷ columns) rows row h = (refl, h)
