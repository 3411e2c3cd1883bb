-- A write that counts takes a view of its table to the view after it.
use Rattle.std.proofs.Common.{◌≡◌, ℕ, suc, ◌==◌, Bool, true, false, not, ◌&&◌, if◌then◌else◌, List, [], ◌∷◌, ◌++◌, map, flat_map, length, Option, Some, None, refl, sym, ◌∙◌, ap, subst, arith, rules, inl, inr}
use Rattle.std.specs.List.{list_all}
use Rattle.std.proofs.lemmas.Bool.Decides.{nat_tests}
use Rattle.condition_sat.specs.Admitted.{IsAdmitted}
use Rattle.feature_expr.specs.Expressions.{and_of}
use Rattle.feature_expr.specs.Names.{among}
use Rattle.feature_expr.specs.Satisfaction.{satisfies}
use Rattle.feature_expr.specs.declared.expr.Expr.{Expr}
use Rattle.plain_relation.specs.Relations.{Relation, columns_of}
use Rattle.plain_relation.specs.Relations as plain
use Rattle.condition_sat.proofs.PossibleLaws.{each_fails, and_first, and_second, both}
use Rattle.row_conditions.proofs.FoldingLaws.{and_holds}
use Rattle.write_meaning.proofs.BoundLaws.{within_after}
use Rattle.write_meaning.proofs.FormedLaws.{Gives, formed_after}
use Rattle.write_meaning.proofs.KindLaws.{none_first, none_second, without_append, AreFine, fine_of, given_kind, given_some}
use Rattle.write_meaning.proofs.SameLaws.{means_after}
use Rattle.query_meaning.specs.Bounds.{Size, table_column_weight}
use Rattle.query_meaning.specs.Cases.{Case}
use Rattle.write_meaning.specs.Members.{Has}
use Rattle.query_meaning.specs.Parameters.{without_kind}
use Rattle.write_meaning.specs.PlainWrites.{after_write, size_after}
use Rattle.write_meaning.specs.RowWrites.{IsRowWrite}
use Rattle.query_meaning.specs.Sources.{table_named, table_column}
use Rattle.write_meaning.specs.TableViews.{IsTableView}
use Rattle.write_meaning.specs.TakenWrites.{is_taken, has_type, values_fit, write_below}
use Rattle.query_meaning.specs.WriteTyping.{Assignment, assignments_of, assignment_of, assignments, table_name_of, listed_names, named_twice, value_cases, value_occurrence, occurrences_in, write_cond, parameters_over, values_over, write_unknown, write_name_cases, unlisted, write_cases_in, write_cases}
use Rattle.vra_syntax.specs.Parameters.{param_in_write}
use Rattle.vra_syntax.specs.declared.cond.Operand.{Operand}
use Rattle.vra_syntax.specs.declared.write.Write.{Write}
use Rattle.vra_syntax.specs.declared.write.Write.TheVariants as write
use Rattle.vschema.specs.Variants.{bare_name}
use Rattle.vschema.specs.Variants as variants
use Rattle.vschema.specs.declared.catalog.Catalog.{Catalog}
use Rattle.vschema.specs.declared.catalog.Column.{Column}
use Rattle.vschema.specs.declared.catalog.Table.{Table}
use Rattle.condition_sat.specs.Possible.{some_admitted}
use Rattle.vtable.specs.declared.table.VRow.{VRow}

empty_of : (cases : List Case) → (length cases == 0) ≡ true → cases ≡ []
empty_of [] h = refl
empty_of (one ∷ cases) h = let never : suc (length cases) ≡ 0 = eq_zero (suc (length cases)) h in let absurd_is : ⊥ = omega (arith, never) in absurd absurd_is where
  eq_zero : (n : ℕ) → (n == 0) ≡ true → n ≡ 0
  eq_zero n h = grind (arith, nat_tests)

not_true : (b : Bool) → not b ≡ true → b ≡ false
not_true true h = search rules
not_true false h = refl

not_false : (b : Bool) → not b ≡ false → b ≡ true
not_false true h = refl
not_false false h = search rules

-- what it is to count, apart
abbrev bound_and_known : Catalog → Write → Bool
bound_and_known catalog w = (param_in_write w == 0) && write_below (length catalog.features) w

typed_of : (catalog : Catalog) (w : Write) → is_taken catalog w ≡ true → has_type catalog.model catalog.tables w ≡ true
typed_of catalog w h = and_second (bound_and_known catalog w && values_fit w) (has_type catalog.model catalog.tables w) h

fit_of : (catalog : Catalog) (w : Write) → is_taken catalog w ≡ true → values_fit w ≡ true
fit_of catalog w h = and_second (bound_and_known catalog w) (values_fit w) (and_first (bound_and_known catalog w && values_fit w) (has_type catalog.model catalog.tables w) h)

module _ (model : Expr) (tables : List Table) (w : Write) (typed : has_type model tables w ≡ true) where
  names_none : write_name_cases [] tables w ≡ []
  names_none = empty_of (write_name_cases [] tables w) (and_first (length (write_name_cases [] tables w) == 0) (not (some_admitted model (λ c. not (length (write_cases c [] tables w) == 0)))) typed)

  variants_none : (c : List ℕ) → IsAdmitted model c → write_cases c [] tables w ≡ []
  variants_none c admitted =
      empty_of (write_cases c [] tables w) (not_false (length (write_cases c [] tables w) == 0)
      (each_fails model (λ c. not (length (write_cases c [] tables w) == 0))
      (not_true (some_admitted model (λ c. not (length (write_cases c [] tables w) == 0))) (and_second (length (write_name_cases [] tables w) == 0) (not (some_admitted model (λ c. not (length (write_cases c [] tables w) == 0)))) typed)) c admitted))

abbrev columns_in : Table → List plain.Column
columns_in table = map table_column table.columns

-- its assignments are fine
fine_writes : (tables : List Table) (table : Table) (w : Write) → table_named tables (table_name_of w) ≡ Some table → write_name_cases [] tables w ≡ [] → AreFine (columns_in table) (assignments w)
fine_writes tables table w found none =
    let over : values_over [] (Some table) w ≡ [] = ap (λ (t : Option Table). values_over [] t w) (sym found) ∙ none_second (write_unknown tables w) (values_over [] (table_named tables (table_name_of w)) w) none in
    let front = none_first (named_twice (listed_names w) ++ flat_map (value_cases [] (columns_in table)) (assignments w)) (without_kind [] (parameters_over (columns_in table) w)) over in
    let behind = none_second (named_twice (listed_names w) ++ flat_map (value_cases [] (columns_in table)) (assignments w)) (without_kind [] (parameters_over (columns_in table) w)) over in
    fine_of (columns_in table) (assignments w)
    (none_second (named_twice (listed_names w)) (flat_map (value_cases [] (columns_in table)) (assignments w)) front)
    (none_first (without_kind [] (flat_map (value_occurrence (columns_in table)) (assignments w))) (without_kind [] (occurrences_in (columns_in table) (write_cond w)))
    (sym (without_append (flat_map (value_occurrence (columns_in table)) (assignments w)) (occurrences_in (columns_in table) (write_cond w))) ∙ behind))

fine_first : (columns : List plain.Column) (xs ys : List Assignment) → AreFine columns (xs ++ ys) → AreFine columns xs
fine_first columns [] ys h = tt
fine_first columns (x ∷ xs) ys h = (h.0, fine_first columns xs ys h.1)

fine_second : (columns : List plain.Column) (xs ys : List Assignment) → AreFine columns (xs ++ ys) → AreFine columns ys
fine_second columns [] ys h = h
fine_second columns (x ∷ xs) ys h = fine_second columns xs ys h.1

fine_row : (columns : List plain.Column) (names : List (List ℕ)) (rows : List (List Operand)) (values : List Operand) → AreFine columns (flat_map (assignments_of names) rows) → Has rows values → AreFine columns (assignments_of names values)
fine_row columns names [] values h there = absurd there
fine_row columns names (row ∷ rows) values h (inl same) = subst (λ (r : List Operand). AreFine columns (assignments_of names r)) same (fine_first columns (assignments_of names row) (flat_map (assignments_of names) rows) h)
fine_row columns names (row ∷ rows) values h (inr there) = fine_row columns names rows values (fine_second columns (assignments_of names row) (flat_map (assignments_of names) rows) h) there

eq_of : (a b : ℕ) → (a == b) ≡ true → a ≡ b
eq_of a b h = grind (arith, nat_tests)

fits_row : (names : List (List ℕ)) (rows : List (List Operand)) (values : List Operand) → list_all (λ (values : List Operand). length values == length names) rows ≡ true → Has rows values → length values ≡ length names
fits_row names [] values h there = absurd there
fits_row names (row ∷ rows) values h (inl same) =
    subst (λ (r : List Operand). length r ≡ length names) same (eq_of (length row) (length names) (and_first (length row == length names) (list_all (λ (values : List Operand). length values == length names) rows) h))
fits_row names (row ∷ rows) values h (inr there) = fits_row names rows values (and_second (length row == length names) (list_all (λ (values : List Operand). length values == length names) rows) h) there

listed_by : (b : Bool) (why : Case) → (if b then [] else why ∷ []) ≡ [] → b ≡ true
listed_by true why h = refl
listed_by false why h = search rules

module _ (c : List ℕ) (table : Table) (names : List (List ℕ)) where
  later_by : (column : Column) (places : List (Option plain.Column)) (b : Bool) → flat_map (unlisted names) (columns_of ((if b then Some (record { name = bare_name column.name; kind = column.kind }) else None) ∷ places)) ≡ [] → flat_map (unlisted names) (columns_of places) ≡ []
  later_by column places true h = none_second (unlisted names (record { name = bare_name column.name; kind = column.kind })) (flat_map (unlisted names) (columns_of places)) h
  later_by column places false h = h

  here_by : (column : Column) (places : List (Option plain.Column)) (b : Bool) → b ≡ true → flat_map (unlisted names) (columns_of ((if b then Some (record { name = bare_name column.name; kind = column.kind }) else None) ∷ places)) ≡ [] → unlisted names (record { name = bare_name column.name; kind = column.kind }) ≡ []
  here_by column places true is h = none_first (unlisted names (record { name = bare_name column.name; kind = column.kind })) (flat_map (unlisted names) (columns_of places)) h
  here_by column places false is h = search rules

  -- each column that is there is listed
  listed_of : (columns : List Column) (column : Column) → Has columns column → satisfies c (and_of table.cond column.cond) ≡ true → flat_map (unlisted names) (columns_of (map (variants.column_at c table) columns)) ≡ [] → among column.name names ≡ true
  listed_of [] column has there h = absurd has
  listed_of (x ∷ columns) column (inl same) there h =
      subst (λ (k : Column). among k.name names ≡ true) same
      (listed_by (among x.name names) _ (here_by x (map (variants.column_at c table) columns) (satisfies c table.cond && satisfies c x.cond)
      (sym (and_holds c table.cond x.cond) ∙ subst (λ (k : Column). satisfies c (and_of table.cond k.cond) ≡ true) (sym same) there) h))
  listed_of (x ∷ columns) column (inr has) there h = listed_of columns column has there (later_by x (map (variants.column_at c table) columns) (satisfies c table.cond && satisfies c x.cond) h)

-- a write that counts gives values of the right kinds, and an INSERT one in each column that is there
pub gives_of : (catalog : Catalog) (table : Table) (w : Write) (c : List ℕ) → is_taken catalog w ≡ true → table_named catalog.tables (table_name_of w) ≡ Some table → IsAdmitted catalog.model c → Gives table c w
gives_of catalog table (write.Insert name names rows expr) c taken found admitted =
    let w = write.Insert name names rows expr in
    let typed = typed_of catalog w taken in
    let fine = fine_writes catalog.tables table w found (names_none catalog.model catalog.tables w typed) in
    λ values has. (
      λ column there. given_kind table.columns (assignments_of names values) column there (fine_row (columns_in table) names rows values fine has),
      λ here there column stands is_there.
          given_some table.columns names values column stands (fits_row names rows values (fit_of catalog w taken) has)
          (listed_of c table names table.columns column stands is_there
          (ap (λ b. if b then flat_map (unlisted names) (columns_of (variants.places_at c table)) else []) (sym (both (satisfies c expr) (satisfies c table.cond) here there))
          ∙ ap (λ (t : Option Table). write_cases_in c [] t w) (sym found)
          ∙ variants_none catalog.model catalog.tables w typed c admitted))
          (fine_row (columns_in table) names rows values fine has),
    )
gives_of catalog table (write.Delete name it expr) c taken found admitted = tt
gives_of catalog table (write.Update name items it expr) c taken found admitted =
    let w = write.Update name items it expr in
    let fine = fine_writes catalog.tables table w found (names_none catalog.model catalog.tables w (typed_of catalog w taken)) in
    λ column there. given_kind table.columns (map assignment_of items) column there fine

-- A write that counts takes a view of its table to the view after it.
pub view_after : (catalog : Catalog) (table : Table) (w : Write) (old new : List VRow) (database : List ℕ → Relation) (size : Size)
    → is_taken catalog w ≡ true → table_named catalog.tables (table_name_of w) ≡ Some table → size.column_weight ≡ table_column_weight table
    → IsRowWrite catalog.model table w old new → IsTableView catalog.model table old database size
    → IsTableView catalog.model table new (λ c. after_write c table w (database c)) (size_after w size)
view_after catalog table w old new database size taken found columns it view = record {
  formed = λ c admitted. formed_after catalog.model table w c admitted (gives_of catalog table w c taken found admitted) old new it (view.formed c admitted);
  means = λ c admitted. means_after catalog.model table w c admitted old new (database c) it (view.formed c admitted) (view.means c admitted);
  within = within_after catalog.model table w old new size it columns view.within;
}
