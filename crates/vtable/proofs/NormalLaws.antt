-- The passes together give the table form.
use Rattle.std.proofs.Common.{◌≡◌, ℕ, ◌+◌, ◌≤◌, ◌&&◌, Bool, true, false, not, List, [], ◌∷◌, length, map, Option, None, refl, sym, ◌∙◌, ap, subst, rules, arith, ◌⊎◌, inl, inr}
use Rattle.std.specs.Prelude.{◌↔◌}
use Rattle.std.specs.List.{list_all, filter_map, filter}
use Rattle.std.specs.List.Sorted.{IsPermutation}
use Rattle.std.proofs.lemmas.List.Sorted.{IsPermutation-map, list_any-IsPermutation, length_permutation, sum_by-IsPermutation}
use Rattle.values.specs.declared.column_name.ColName.{ColName}
use Rattle.feature_expr.specs.declared.expr.Expr.{Expr}
use Rattle.values.specs.declared.value.Value.{Value}
use Rattle.feature_expr.specs.Expressions.{mentions, weight_of}
use Rattle.feature_expr.specs.Satisfaction.{satisfies}
use Rattle.condition_sat.specs.Admitted.{IsAdmitted}
use Rattle.plain_relation.specs.Relations.{SameRelation, HasRow, Cell, relation_with, columns_of, row_of, cell_of}
use Rattle.plain_relation.specs.Relations as plain
use Rattle.vtable.specs.declared.group.CutRow.{CutRow}
use Rattle.vtable.specs.declared.table.VColumn.{VColumn}
use Rattle.vtable.specs.declared.table.VRow.{VRow}
use Rattle.vtable.specs.declared.table.VTable.{VTable}
use Rattle.vtable.specs.Answers.{column_at, fits, answer_at, IsAnswerAt}
use Rattle.vtable.specs.TableForm.{same_cells, has_row_with, has_cell, is_row_formed, column_staying, columns_staying, columns_are_distinct, cut_cells, cut_row, rows_mention, rows_weight, IsNormalOf}
use Rattle.condition_sat.specs.Possible.{is_settled}
use Rattle.vtable.specs.Passes.{row_staying, staying, table_row, groups_after, is_in_order, AllJoined}
use Rattle.vtable.proofs.AnswerLaws.{answer_after}
use Rattle.vtable.proofs.CellLaws.{same_cells_are, same_cells_self}
use Rattle.vtable.proofs.CutLaws.{staying_is, columns_are_settled, staying_are_distinct, same_columns, same_row, some_cell}
use Rattle.vtable.proofs.JoinedLaws.{rows_do_ascend, joined_stand, joined_cost, joined_length, rows_are_formed, all_permuted}
use Rattle.vtable.proofs.MentionLaws.{all_groups_mention, joined_known, kept_known}
use Rattle.condition_sat.proofs.PossibleLaws.{true_or_false, both, and_first, and_second, or_left, or_right, or_cases}
use Rattle.vtable.proofs.RowsLaws.{all_groups_stand, rows_cost, groups_cost, rows_cost_is, all_groups_weigh, fewer_groups, choice_true, choice_false}
use Rattle.vtable.proofs.StayingLaws.{kept, all_kept, kept_stand, is_filled, is_long, kept_formed, kept_cost, kept_fewer, filled_here}

-- ---- the rows of a relation

abbrev here : List ℕ → List VRow → List (List (Option Value))
here c rows = map (λ (row : VRow). row.cells) (filter (λ (row : VRow). satisfies c row.cond) rows)

there_more : (c : List ℕ) (row : VRow) (rows : List VRow) → satisfies c row.cond ≡ true → here c (row ∷ rows) ≡ row.cells ∷ here c rows
there_more c row rows is = ap (map (λ (r : VRow). r.cells)) (choice_true _ _ _ is)

away_more : (c : List ℕ) (row : VRow) (rows : List VRow) → satisfies c row.cond ≡ false → here c (row ∷ rows) ≡ here c rows
away_more c row rows is = ap (map (λ (r : VRow). r.cells)) (choice_false _ _ _ is)

-- a list of cells that stands among the rows, and is a row with these values
pub record Standing (c : List ℕ) (row_in : List (Option Value) → List Cell) (rows : List VRow) (values : ColName → Option Value) : Type 0 where
  pub cells : List (Option Value)
  pub standing : has_row_with c cells rows ≡ true
  pub alike : (name : ColName) → cell_of (row_in cells) name ≡ values name

has_later : (c : List ℕ) (old : List (Option Value) → List Cell) (values : ColName → Option Value) (row : VRow) (rows : List VRow) → HasRow (map old (here c rows)) values → (satisfies c row.cond ≡ true) ⊎ (satisfies c row.cond ≡ false) → HasRow (map old (here c (row ∷ rows))) values
has_later c old values row rows has (inl is) = subst (λ xs. HasRow (map old xs) values) (sym (there_more c row rows is)) (inr has)
has_later c old values row rows has (inr is_not) = subst (λ xs. HasRow (map old xs) values) (sym (away_more c row rows is_not)) has

-- rows, each read in its own way, and cells that stand among them read in one way
has_row : (c : List ℕ) (row_in : List (Option Value) → List Cell) (read : VRow → List (Option Value)) (old : List (Option Value) → List Cell) (values : ColName → Option Value) → ((row : VRow) → satisfies c row.cond ≡ true → row_in (read row) ≡ old row.cells) → (rows : List VRow) (cells : List (Option Value)) → has_row_with c cells (map (λ (row : VRow). record { cells = read row; cond = row.cond }) rows) ≡ true → ((name : ColName) → cell_of (row_in cells) name ≡ values name) → HasRow (map old (here c rows)) values
has_row c row_in read old values same [] cells standing alike = search rules
has_row c row_in read old values same (row ∷ rows) cells standing alike =
    elim (or_cases (satisfies c row.cond && same_cells (read row) cells) (has_row_with c cells (map (λ (row : VRow). record { cells = read row; cond = row.cond }) rows)) standing) [
      | inl first ↦
          let is = and_first (satisfies c row.cond) (same_cells (read row) cells) first in
          let are = same_cells_are (read row) cells (and_second (satisfies c row.cond) (same_cells (read row) cells) first) in
          subst (λ xs. HasRow (map old xs) values) (sym (there_more c row rows is))
          (inl (λ name. ap (λ xs. cell_of xs name) (sym (same row is) ∙ ap row_in are) ∙ alike name))
      | inr later ↦ has_later c old values row rows (has_row c row_in read old values same rows cells later alike) (true_or_false (satisfies c row.cond))
    ]

standing_later : (c : List ℕ) (row_in : List (Option Value) → List Cell) (read : VRow → List (Option Value)) (values : ColName → Option Value) (row : VRow) (rows : List VRow) → Standing c row_in (map (λ (r : VRow). record { cells = read r; cond = r.cond }) rows) values → Standing c row_in (map (λ (r : VRow). record { cells = read r; cond = r.cond }) (row ∷ rows)) values
standing_later c row_in read values row rows found = record { cells = found.cells; standing = or_right (satisfies c row.cond && same_cells (read row) found.cells) (has_row_with c found.cells (map (λ (r : VRow). record { cells = read r; cond = r.cond }) rows)) found.standing; alike = found.alike }

standing_here : (c : List ℕ) (row_in : List (Option Value) → List Cell) (read : VRow → List (Option Value)) (old : List (Option Value) → List Cell) (values : ColName → Option Value) → ((row : VRow) → satisfies c row.cond ≡ true → row_in (read row) ≡ old row.cells) → (row : VRow) (rows : List VRow) → satisfies c row.cond ≡ true → ((name : ColName) → cell_of (old row.cells) name ≡ values name) ⊎ HasRow (map old (here c rows)) values → (HasRow (map old (here c rows)) values → Standing c row_in (map (λ (r : VRow). record { cells = read r; cond = r.cond }) rows) values) → Standing c row_in (map (λ (r : VRow). record { cells = read r; cond = r.cond }) (row ∷ rows)) values
standing_here c row_in read old values same row rows is (inl alike) rest = record {
  cells = read row;
  standing = or_left (satisfies c row.cond && same_cells (read row) (read row)) (has_row_with c (read row) (map (λ (r : VRow). record { cells = read r; cond = r.cond }) rows)) (both (satisfies c row.cond) (same_cells (read row) (read row)) is (same_cells_self (read row)));
  alike = λ name. ap (λ xs. cell_of xs name) (same row is) ∙ alike name;
}
standing_here c row_in read old values same row rows is (inr later) rest = standing_later c row_in read values row rows (rest later)

-- and the other way
standing_of : (c : List ℕ) (row_in : List (Option Value) → List Cell) (read : VRow → List (Option Value)) (old : List (Option Value) → List Cell) (values : ColName → Option Value) → ((row : VRow) → satisfies c row.cond ≡ true → row_in (read row) ≡ old row.cells) → (rows : List VRow) → HasRow (map old (here c rows)) values → Standing c row_in (map (λ (row : VRow). record { cells = read row; cond = row.cond }) rows) values
standing_of c row_in read old values same [] has = absurd has
standing_of c row_in read old values same (row ∷ rows) has =
    elim (true_or_false (satisfies c row.cond)) [
      | inl is ↦ standing_here c row_in read old values same row rows is (subst (λ xs. HasRow (map old xs) values) (there_more c row rows is) has) (standing_of c row_in read old values same rows)
      | inr is_not ↦ standing_later c row_in read values row rows (standing_of c row_in read old values same rows (subst (λ xs. HasRow (map old xs) values) (away_more c row rows is_not) has))
    ]

-- ---- relations

pub same_with : (columns : List plain.Column) (one other : List (List Cell)) → ((first : plain.Column) (more : List plain.Column) → columns ≡ first ∷ more → (values : ColName → Option Value) → HasRow one values ↔ HasRow other values) → SameRelation (relation_with columns one) (relation_with columns other)
same_with [] one other same = record { columns = λ column. (λ h. h, λ h. h); rows = λ values. (λ h. h, λ h. h) }
same_with (first ∷ more) one other same = record { columns = λ column. (λ h. h, λ h. h); rows = same first more refl }

list_of_filled : (c : List ℕ) (columns : List VColumn) (rows : List VRow) → list_all (fits (map (column_at c) columns)) (here c rows) ≡ true → list_all (is_filled c columns) rows ≡ true
list_of_filled c columns [] h = refl
list_of_filled c columns (row ∷ rows) h =
    elim (true_or_false (satisfies c row.cond)) [
      | inl is ↦
          let all = sym (ap (list_all (fits (map (column_at c) columns))) (there_more c row rows is)) ∙ h in
          both _ _ (or_right (not (satisfies c row.cond)) (fits (map (column_at c) columns) row.cells) (and_first (fits (map (column_at c) columns) row.cells) (list_all (fits (map (column_at c) columns)) (here c rows)) all))
          (list_of_filled c columns rows (and_second (fits (map (column_at c) columns) row.cells) (list_all (fits (map (column_at c) columns)) (here c rows)) all))
      | inr is_not ↦
          both _ _ (or_left (not (satisfies c row.cond)) (fits (map (column_at c) columns) row.cells) (ap not is_not))
          (list_of_filled c columns rows (sym (ap (list_all (fits (map (column_at c) columns))) (away_more c row rows is_not)) ∙ h))
    ]

-- what stands is one of the rows, and so it is filled
filled_standing : (model : Expr) (columns : List VColumn) (c : List ℕ) → IsAdmitted model c → (first : plain.Column) (more : List plain.Column) → columns_of (map (column_at c) columns) ≡ first ∷ more → (rows : List VRow) → list_all (is_filled c columns) rows ≡ true → (cells : List (Option Value)) → has_row_with c cells (map (cut_row model columns) rows) ≡ true → has_cell cells ≡ true
filled_standing model columns c admitted first more is [] filled cells standing = search rules
filled_standing model columns c admitted first more is (row ∷ rows) filled cells standing =
    elim (or_cases (satisfies c row.cond && same_cells (cut_cells model row.cond columns row.cells) cells) (has_row_with c cells (map (cut_row model columns) rows)) standing) [
      | inl one ↦
          let row_here = and_first (satisfies c row.cond) (same_cells (cut_cells model row.cond columns row.cells) cells) one in
          subst (λ xs. has_cell xs ≡ true) (same_cells_are (cut_cells model row.cond columns row.cells) cells (and_second (satisfies c row.cond) (same_cells (cut_cells model row.cond columns row.cells) cells) one))
          (some_cell model row.cond c admitted row_here columns row.cells first more (filled_here (satisfies c row.cond) (fits (map (column_at c) columns) row.cells) (and_first (is_filled c columns row) (list_all (is_filled c columns) rows) filled) row_here) is)
      | inr later ↦ filled_standing model columns c admitted first more is rows (and_second (is_filled c columns row) (list_all (is_filled c columns) rows) filled) cells later
    ]

itself : (rows : List VRow) → map (λ (row : VRow). record { cells = row.cells; cond = row.cond }) rows ≡ rows
itself [] = refl
itself (row ∷ rows) = ap (λ xs. row ∷ xs) (itself rows)

-- tables whose rows stand alike are the same relation
same_relation : (model : Expr) (before after : VTable) (c : List ℕ) → IsAdmitted model c → after.columns ≡ columns_staying model before.columns → list_all (is_filled c before.columns) before.rows ≡ true → ((cells : List (Option Value)) → has_row_with c cells after.rows ≡ (has_cell cells && has_row_with c cells (map (cut_row model before.columns) before.rows))) → SameRelation (answer_at c after) (answer_at c before)
same_relation model before after c admitted columns filled rows =
    let old : List (Option Value) → List Cell = row_of (map (column_at c) before.columns) in
    let new : List (Option Value) → List Cell = row_of (map (column_at c) (columns_staying model before.columns)) in
    let read : VRow → List (Option Value) = λ row. cut_cells model row.cond before.columns row.cells in
    let cut_same : (row : VRow) → satisfies c row.cond ≡ true → new (read row) ≡ old row.cells = λ row is. same_row model row.cond c admitted is before.columns row.cells in
    let plain_same : (row : VRow) → satisfies c row.cond ≡ true → new row.cells ≡ new row.cells = λ row is. refl in
    let both_ways : (first : plain.Column) (more : List plain.Column) → columns_of (map (column_at c) before.columns) ≡ first ∷ more → (values : ColName → Option Value) → HasRow (map new (here c after.rows)) values ↔ HasRow (map old (here c before.rows)) values
    = λ first more is values. (
      λ has.
          let found = standing_of c new (λ row. row.cells) new values plain_same after.rows has in
          let standing : has_row_with c found.cells after.rows ≡ true = ap (has_row_with c found.cells) (sym (itself after.rows)) ∙ found.standing in
          has_row c new read old values cut_same before.rows found.cells (and_second (has_cell found.cells) (has_row_with c found.cells (map (cut_row model before.columns) before.rows)) (sym (rows found.cells) ∙ standing)) found.alike,
      λ has.
          let found = standing_of c new read old values cut_same before.rows has in
          let celled = filled_standing model before.columns c admitted first more is before.rows filled found.cells found.standing in
          has_row c new (λ row. row.cells) new values plain_same after.rows found.cells (ap (has_row_with c found.cells) (itself after.rows) ∙ rows found.cells ∙ both _ _ celled found.standing) found.alike,
    ) in
    subst (λ ks. SameRelation (relation_with (columns_of (map (column_at c) ks)) (map (row_of (map (column_at c) ks)) (here c after.rows))) (answer_at c before)) (sym columns)
    (subst (λ ks. SameRelation (relation_with ks (map new (here c after.rows))) (answer_at c before)) (sym (same_columns model c admitted before.columns))
    (same_with (columns_of (map (column_at c) before.columns)) (map new (here c after.rows)) (map old (here c before.rows)) both_ways))

-- ---- the whole

-- what the passes made of a table
pub record Made (model : Expr) (before after : VTable) : Type 0 where
  pub moved : List VRow
  pub cut : List CutRow
  pub sorted : List CutRow
  pub rows_moved : IsPermutation before.rows moved
  pub rows_cut : map table_row cut ≡ filter_map (row_staying model (map (column_staying model) before.columns)) moved
  pub cut_moved : IsPermutation cut sorted
  pub in_order : is_in_order (map table_row sorted) ≡ true
  pub joined : AllJoined model (groups_after None (map table_row sorted)) after.rows
  pub columns : after.columns ≡ staying (map (column_staying model) before.columns)

module _ (model : Expr) (before after : VTable) (made : Made model before after) where
  abbrev rows_kept : List VRow
  rows_kept = filter_map (kept model before.columns) made.moved

  abbrev rows_sorted : List VRow
  rows_sorted = map table_row made.sorted

  kept_sorted : IsPermutation rows_kept rows_sorted
  kept_sorted = subst (λ xs. IsPermutation xs rows_sorted) (made.rows_cut ∙ all_kept model before.columns made.moved) (IsPermutation-map table_row made.cut made.sorted made.cut_moved)

  columns_are : after.columns ≡ columns_staying model before.columns
  columns_are = made.columns ∙ staying_is model before.columns

  rows_stand : (c : List ℕ) → IsAdmitted model c → (cells : List (Option Value)) → has_row_with c cells after.rows ≡ (has_cell cells && has_row_with c cells (map (cut_row model before.columns) before.rows))
  rows_stand c admitted cells =
      let test : VRow → Bool = λ row. satisfies c row.cond && same_cells row.cells cells in
      joined_stand model c cells admitted _ after.rows made.joined
      ∙ all_groups_stand c cells rows_sorted
      ∙ sym (list_any-IsPermutation test rows_kept rows_sorted kept_sorted)
      ∙ kept_stand model before.columns c admitted cells made.moved
      ∙ ap (λ b. has_cell cells && b) (sym (list_any-IsPermutation test (map (cut_row model before.columns) before.rows) (map (cut_row model before.columns) made.moved) (IsPermutation-map (cut_row model before.columns) before.rows made.moved made.rows_moved)))

  rows_formed : ((c : List ℕ) → IsAdmitted model c → IsAnswerAt c before) → list_all (is_row_formed model after.columns) after.rows ≡ true
  rows_formed answers =
      let long : (c : List ℕ) → IsAdmitted model c → list_all (is_long before.columns) made.moved ≡ true = λ c admitted. sym (all_permuted (is_long before.columns) before.rows made.moved made.rows_moved) ∙ (answers c admitted).whole in
      let filled : (c : List ℕ) → IsAdmitted model c → list_all (is_filled c before.columns) made.moved ≡ true = λ c admitted. sym (all_permuted (is_filled c before.columns) before.rows made.moved made.rows_moved) ∙ list_of_filled c before.columns before.rows (answers c admitted).filled in
      let formed = kept_formed model before.columns made.moved long filled in
      subst (λ ks. list_all (is_row_formed model ks) after.rows ≡ true) (sym columns_are)
      (rows_are_formed model (columns_staying model before.columns) rows_sorted after.rows (sym (all_permuted (is_row_formed model (columns_staying model before.columns)) rows_kept rows_sorted kept_sorted) ∙ formed) made.joined)

  weights : (rows_weight after.rows + length after.rows ≤ rows_weight before.rows + length before.rows) × (length after.rows ≤ length before.rows)
  weights =
      let after_cost : rows_cost after.rows ≡ rows_weight after.rows + length after.rows = rows_cost_is after.rows in
      let groups : rows_cost after.rows ≤ groups_cost (groups_after None rows_sorted) = joined_cost model _ after.rows made.joined in
      let grouped : groups_cost (groups_after None rows_sorted) ≡ rows_cost rows_sorted = all_groups_weigh rows_sorted in
      let sorted_cost : rows_cost rows_sorted ≡ rows_weight rows_sorted + length rows_sorted = rows_cost_is rows_sorted in
      let kept_costs : rows_cost rows_kept ≡ rows_weight rows_kept + length rows_kept = rows_cost_is rows_kept in
      let same_weight : rows_weight rows_sorted ≡ rows_weight rows_kept = sum_by-IsPermutation (λ (row : VRow). weight_of row.cond) rows_kept rows_sorted kept_sorted in
      let same_length : length rows_sorted ≡ length rows_kept = length_permutation rows_kept rows_sorted kept_sorted in
      let less : rows_cost rows_kept ≤ rows_cost made.moved = kept_cost model before.columns made.moved in
      let moved_cost : rows_cost made.moved ≡ rows_weight made.moved + length made.moved = rows_cost_is made.moved in
      let moved_weight : rows_weight made.moved ≡ rows_weight before.rows = sum_by-IsPermutation (λ (row : VRow). weight_of row.cond) before.rows made.moved made.rows_moved in
      let moved_length : length made.moved ≡ length before.rows = length_permutation before.rows made.moved made.rows_moved in
      let joined_rows : length after.rows ≡ length (groups_after None rows_sorted) = joined_length model _ after.rows made.joined in
      let few : length (groups_after None rows_sorted) ≤ length rows_sorted = fewer_groups rows_sorted in
      let fewer : length rows_kept ≤ length made.moved = kept_fewer model before.columns made.moved in
      (omega arith, omega arith)

  rows_known : (i : ℕ) → rows_mention i after.rows ≡ true → rows_mention i before.rows ≡ true
  rows_known i h =
      let test : VRow → Bool = λ row. mentions i row.cond in
      list_any-IsPermutation test before.rows made.moved made.rows_moved
      ∙ kept_known model before.columns i made.moved
      (list_any-IsPermutation test rows_kept rows_sorted kept_sorted
      ∙ sym (all_groups_mention i rows_sorted)
      ∙ joined_known model i _ after.rows made.joined h)

-- the passes give the table form
pub normal_is : (model : Expr) (before after : VTable) → Made model before after → columns_are_distinct before.columns ≡ true → ((c : List ℕ) → IsAdmitted model c → IsAnswerAt c before) → IsNormalOf model before after
normal_is model before after made distinct answers =
    let columns = columns_are model before after made in
    let weighed = weights model before after made in
    let heavier : rows_weight after.rows + length after.rows ≤ rows_weight before.rows + length before.rows = weighed.0 in
    record {
      form = record {
        distinct = ap columns_are_distinct columns ∙ staying_are_distinct model before.columns distinct;
        settled = ap (list_all (λ (column : VColumn). is_settled model column.cond)) columns ∙ columns_are_settled model before.columns;
        formed = rows_formed model before after made answers;
        ascending = rows_do_ascend model (rows_sorted model before after made) after.rows made.in_order made.joined;
      };
      columns = columns;
      rows = rows_stand model before after made;
      answer = λ c admitted. answer_after model before after c admitted columns (list_of_filled c before.columns before.rows (answers c admitted).filled) (rows_stand model before after made c admitted) (rows_formed model before after made answers) (answers c admitted).distinct;
      same = λ c admitted. same_relation model before after c admitted columns (list_of_filled c before.columns before.rows (answers c admitted).filled) (rows_stand model before after made c admitted);
      fewer = weighed.1;
      lighter = omega arith;
      known = rows_known model before after made;
    }
