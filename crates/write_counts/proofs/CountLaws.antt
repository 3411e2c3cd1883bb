-- The rows that are met are those that match.
use Rattle.std.proofs.Common.{◌≡◌, ◌∙◌, ℕ, Bool, true, ◌&&◌, if◌then◌else◌, List, map, filter, length, Option, refl, sym, ap, subst}
use Rattle.std.specs.List.{list_any}
use Rattle.std.proofs.lemmas.Simd.{map-map}
use Rattle.condition_sat.proofs.PossibleLaws.{admitted_of, and_first, and_second, both, some_admitted_of, some_admitted_same}
use Rattle.condition_sat.specs.Admitted.{IsAdmitted}
use Rattle.condition_sat.specs.Possible.{can_hold, can_meet}
use Rattle.feature_expr.specs.Expressions.{and_of}
use Rattle.feature_expr.specs.Satisfaction.{satisfies}
use Rattle.feature_expr.specs.declared.expr.Expr.{Expr}
use Rattle.plain_relation.specs.Relations.{Cell, Relation, columns_of, row_of}
use Rattle.plain_relation.specs.Relations as plain
use Rattle.query_meaning.specs.WriteTyping.{acts}
use Rattle.relational_algebra.specs.Conditions.{holds}
use Rattle.row_conditions.proofs.FoldingLaws.{and_holds}
use Rattle.row_conditions.specs.RowConditions.{row_at}
use Rattle.values.specs.declared.value.Value.{Value}
use Rattle.vra_syntax.specs.declared.cond.Cond.{Cond}
use Rattle.vra_syntax.specs.declared.cond.Operand.{Operand}
use Rattle.vra_syntax.specs.declared.write.SetItem.{SetItem}
use Rattle.vra_syntax.specs.declared.write.Write.{Write}
use Rattle.vra_syntax.specs.declared.write.Write.TheVariants as write
use Rattle.vschema.specs.Formed.{has_distinct_columns}
use Rattle.vschema.specs.Gaps.{is_column_there}
use Rattle.vschema.specs.declared.catalog.Table.{Table}
use Rattle.vtable.specs.Answers.{IsAnswerAt, answer_at, column_at, fits}
use Rattle.vtable.specs.declared.table.VRow.{VRow}
use Rattle.write_counts.proofs.CellLaws.{cells_there, one_there, rows_with, with_rows}
use Rattle.write_counts.proofs.ListLaws.{IsMade, each_passes, made_of, of_made}
use Rattle.write_counts.specs.Counts.{AreRowsOf, IsCount, IsMatchCount, IsMatched, mandatory_cells}
use Rattle.write_counts.specs.Lists.{IsMetCount, IsWithColumns, cells_in, is_met, met_lists}
use Rattle.write_meaning.specs.Members.{Has}
use Rattle.write_meaning.specs.RowWrites.{matches}
use Rattle.write_meaning.specs.StoredTables.{stored_columns, stored_table}

-- A stored table in one admitted variant in which it is there.
module _ (model : Expr) (table : Table) (rows : List VRow) (distinct : has_distinct_columns table ≡ true) (c : List ℕ) (admitted : IsAdmitted model c) (there : satisfies c table.cond ≡ true) (formed : IsAnswerAt c (stored_table table rows)) where
  abbrev places : List (Option plain.Column)
  places = map (column_at c) (stored_columns table)

  abbrev plain_of : VRow → List Cell
  plain_of row = row_at c (stored_columns table) row

  abbrev here : VRow → Bool
  here row = satisfies c row.cond

  -- the mandatory cells of a row that is there are those of its plain row
  same_cells : (row : VRow) → Has rows row → here row ≡ true → cells_in model table row ≡ mandatory_cells model table (plain_of row)
  same_cells row stands is =
      cells_there model table c admitted there table.columns row.cells distinct
      (each_passes (fits places) (map (λ (row : VRow). row.cells) (filter here rows)) row.cells formed.filled (of_made (λ (row : VRow). row.cells) here rows row stands is))

  fused : map (row_of places) (map (λ (row : VRow). row.cells) (filter here rows)) ≡ map plain_of (filter here rows)
  fused = map-map (row_of places) (λ (row : VRow). row.cells) (filter here rows)

  -- a row that is there is a plain row, where the table has a column
  plain_row : list_any (is_column_there c) table.columns ≡ true → (row : VRow) → Has rows row → here row ≡ true → Has (answer_at c (stored_table table rows)).rows (plain_of row)
  plain_row some row stands is =
      rows_with (columns_of places) (map (row_of places) (map (λ (row : VRow). row.cells) (filter here rows))) (plain_of row) (one_there table c there table.columns ∙ some)
      (subst (λ all. Has all (plain_of row)) (sym fused) (of_made plain_of here rows row stands is))

  -- and each plain row is one
  stored_row : (row : List Cell) → Has (answer_at c (stored_table table rows)).rows row → (list_any (is_column_there c) table.columns ≡ true) × IsMade plain_of here rows row
  stored_row row stands =
      let parts = with_rows (columns_of places) (map (row_of places) (map (λ (row : VRow). row.cells) (filter here rows))) row stands in
      (sym (one_there table c there table.columns) ∙ parts.0, made_of plain_of here rows row (subst (λ all. Has all row) fused parts.1))

-- A write that acts where the expression and the table's condition hold, and matches the rows of which the condition is
-- true.
module _ (model : Expr) (table : Table) (expr : Expr) (test : Cond) (w : Write) (rows : List VRow) (there : List ℕ → Relation)
    (acts_is : (c : List ℕ) → acts c table w ≡ (satisfies c expr && satisfies c table.cond))
    (matches_is : (c : List ℕ) (row : List Cell) → matches c w row ≡ holds c test row)
    (distinct : has_distinct_columns table ≡ true)
    (are : AreRowsOf model table rows there)
    (narrowed : Expr) (is_narrowed : IsWithColumns expr table narrowed) where
  abbrev met_at : VRow → List ℕ → Bool
  met_at row c = satisfies c table.cond && (satisfies c row.cond && (satisfies c narrowed && holds c test (row_at c (stored_columns table) row)))

  -- the cells of a row that is met are those of a plain row that matches
  matched_of : (row : VRow) → Has rows row → is_met model table narrowed test row ≡ true → IsMatched model table w there (cells_in model table row)
  matched_of row stands met =
      let found = admitted_of model (met_at row) met in
      let c = found.config in
      let plain_row_is = row_at c (stored_columns table) row in
      let is_there = and_first (satisfies c table.cond) (satisfies c row.cond && (satisfies c narrowed && holds c test plain_row_is)) found.has in
      let rest = and_second (satisfies c table.cond) (satisfies c row.cond && (satisfies c narrowed && holds c test plain_row_is)) found.has in
      let is_here = and_first (satisfies c row.cond) (satisfies c narrowed && holds c test plain_row_is) rest in
      let last = and_second (satisfies c row.cond) (satisfies c narrowed && holds c test plain_row_is) rest in
      let acting = sym (is_narrowed c) ∙ and_first (satisfies c narrowed) (holds c test plain_row_is) last in
      let some = list_any (is_column_there c) table.columns in
      record {
        c = c;
        admitted = found.admitted;
        acts_there = acts_is c ∙ both (satisfies c expr) (satisfies c table.cond) (and_first (satisfies c expr) some acting) is_there;
        row = plain_row_is;
        stands = ((are c found.admitted).1.rows plain_row_is).0
            (plain_row model table rows distinct c found.admitted is_there (are c found.admitted).0 (and_second (satisfies c expr) some acting) row stands is_here);
        matches_it = matches_is c plain_row_is ∙ and_second (satisfies c narrowed) (holds c test plain_row_is) last;
        cells_are = same_cells model table rows distinct c found.admitted is_there (are c found.admitted).0 row stands is_here;
      }

  -- and those of a plain row that matches are those of a row that is met
  met_of : (cells : List (Option Value)) → IsMatched model table w there cells → Has (met_lists model table narrowed test rows) cells
  met_of cells matched =
      let c = matched.c in
      let acting = sym (acts_is c) ∙ matched.acts_there in
      let holds_expr = and_first (satisfies c expr) (satisfies c table.cond) acting in
      let is_there = and_second (satisfies c expr) (satisfies c table.cond) acting in
      let stored = stored_row model table rows distinct c matched.admitted is_there (are c matched.admitted).0 matched.row (((are c matched.admitted).1.rows matched.row).1 matched.stands) in
      let made = stored.1 in
      let row = made.one in
      let truth : holds c test (row_at c (stored_columns table) row) ≡ true = ap (holds c test) made.is ∙ sym (matches_is c matched.row) ∙ matched.matches_it in
      let narrowed_here : satisfies c narrowed ≡ true = is_narrowed c ∙ both (satisfies c expr) (list_any (is_column_there c) table.columns) holds_expr stored.0 in
      let met : is_met model table narrowed test row ≡ true = some_admitted_of model (met_at row) c matched.admitted
      (both (satisfies c table.cond) (satisfies c row.cond && (satisfies c narrowed && holds c test (row_at c (stored_columns table) row))) is_there
      (both (satisfies c row.cond) (satisfies c narrowed && holds c test (row_at c (stored_columns table) row)) made.passes
      (both (satisfies c narrowed) (holds c test (row_at c (stored_columns table) row)) narrowed_here truth))) in
      subst (Has (met_lists model table narrowed test rows))
      (same_cells model table rows distinct c matched.admitted is_there (are c matched.admitted).0 row made.there made.passes
      ∙ ap (mandatory_cells model table) made.is ∙ sym matched.cells_are)
      (of_made (cells_in model table) (is_met model table narrowed test) rows row made.there met)

  is_matched : (cells : List (Option Value)) → Has (met_lists model table narrowed test rows) cells → IsMatched model table w there cells
  is_matched cells h =
      let made = made_of (cells_in model table) (is_met model table narrowed test) rows cells h in
      subst (IsMatched model table w there) made.is (matched_of made.one made.there made.passes)

match_count : (model : Expr) (table : Table) (expr : Expr) (test : Cond) (w : Write) (rows : List VRow) (there : List ℕ → Relation) (count : ℕ)
    → ((c : List ℕ) → acts c table w ≡ (satisfies c expr && satisfies c table.cond)) → ((c : List ℕ) (row : List Cell) → matches c w row ≡ holds c test row)
    → has_distinct_columns table ≡ true → AreRowsOf model table rows there → IsMetCount model table expr test rows count → IsMatchCount model table w there count
match_count model table expr test w rows there count acts_is matches_is distinct are counted = record {
  lists = counted.lists;
  distinct = counted.once.distinct;
  matched = λ cells. (
    λ h. is_matched model table expr test w rows there acts_is matches_is distinct are counted.narrowed counted.is_narrowed cells ((counted.once.same cells).0 h),
    λ h. (counted.once.same cells).1 (met_of model table expr test w rows there acts_is matches_is distinct are counted.narrowed counted.is_narrowed cells h),
  );
  count_is = counted.count_is;
}

pub delete_count : (model : Expr) (table : Table) (name : List ℕ) (test : Cond) (expr : Expr) (rows : List VRow) (count : ℕ) → has_distinct_columns table ≡ true → IsMetCount model table expr test rows count
    → (there : List ℕ → Relation) → AreRowsOf model table rows there → IsCount model table (write.Delete name test expr) there count
delete_count model table name test expr rows count distinct counted there are =
    match_count model table expr test (write.Delete name test expr) rows there count (λ c. refl) (λ c row. refl) distinct are counted

pub update_count : (model : Expr) (table : Table) (name : List ℕ) (items : List SetItem) (test : Cond) (expr : Expr) (rows : List VRow) (count : ℕ) → has_distinct_columns table ≡ true → IsMetCount model table expr test rows count
    → (there : List ℕ → Relation) → AreRowsOf model table rows there → IsCount model table (write.Update name items test expr) there count
update_count model table name items test expr rows count distinct counted there are =
    match_count model table expr test (write.Update name items test expr) rows there count (λ c. refl) (λ c row. refl) distinct are counted

pub insert_count : (model : Expr) (table : Table) (name : List ℕ) (names : List (List ℕ)) (listed : List (List Operand)) (expr : Expr) (rows : List VRow) (number count : ℕ) → number ≡ length listed
    → count ≡ (if can_meet model expr table.cond then number else 0)
    → (there : List ℕ → Relation) → AreRowsOf model table rows there → IsCount model table (write.Insert name names listed expr) there count
insert_count model table name names listed expr rows number count number_is is there are = is ∙ ap (λ n. if can_meet model expr table.cond then n else 0) number_is

-- one question decides whether an INSERT acts
pub acts_asked : (model : Expr) (table : Table) (expr asked : Expr) (acts_somewhere : Bool) → asked ≡ and_of expr table.cond → acts_somewhere ≡ can_hold model asked → acts_somewhere ≡ can_meet model expr table.cond
acts_asked model table expr asked acts_somewhere is says =
    says ∙ ap (can_hold model) is
    ∙ some_admitted_same model (λ c. satisfies c (and_of expr table.cond)) (λ c. satisfies c expr && satisfies c table.cond) (λ c admitted. and_holds c expr table.cond)
