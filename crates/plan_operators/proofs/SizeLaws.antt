-- The tables of a filter, a union, an except and a choice are within their bounds.
use Rattle.std.proofs.Common.{◌≡◌, ℕ, suc, ◌+◌, ◌*◌, ◌≤◌, Bool, true, false, List, [], ◌∷◌, ◌++◌, filter, fold, length, length-append, Option, refl, sym, subst, arith}
use Rattle.std.proofs.lemmas.List.{length-map}
use Rattle.std.proofs.lemmas.Nat.{mul-le}
use Rattle.std.proofs.lemmas.List.Sums.{sum_by-cons}
use Rattle.feature_expr.specs.Expressions.{and_of, not_of, weight_of}
use Rattle.feature_expr.specs.declared.expr.Expr.{Expr}
use Rattle.feature_expr.specs.declared.expr.Expr as e
use Rattle.values.specs.declared.value.Value.{Value}
use Rattle.query_meaning.specs.Bounds.{IsWithin, chosen_size, excepted_size, filtered_size, united_size}
use Rattle.relational_algebra.specs.Conditions.{condition_cost}
use Rattle.row_conditions.proofs.FoldingLaws.{and_weighs, not_weighs, or_weighs, weight_False, weight_True}
use Rattle.row_conditions.proofs.TruthWeights.{slots_weight, slots_within, truth_weighs}
use Rattle.row_conditions.specs.RowConditions.{columns_weight}
use Rattle.row_conditions.specs.Truths.{Slot, slots_of, truth_of}
use Rattle.plan_tables.proofs.OnceLaws.{once_adds}
use Rattle.plan_tables.proofs.WeightLaws.{and_any, and_not_none, any_weighs, cost-append, cost_is, made_fewer, made_rows, made_weight, row_weighs, rows-append, settled_costs, under_weighs}
use Rattle.plan_tables.specs.StoredRows.{size_of}
use Rattle.plan_tables.specs.Tables.{and_once, any_of, cell_under, columns_under, heading, headings, laid_cells, row_laid, rows_laid, settled}
use Rattle.plan_operators.specs.Operators.{alike, chosen_table, excepted_table, filtered_table, has_key, matched, matching, row_meeting, row_without, rows_with, same_cell, sure_columns, united_table, with_alike, with_match}
use Rattle.vra_syntax.specs.declared.cond.Cond.{Cond}
use Rattle.vtable.specs.TableForm.{rows_weight}
use Rattle.vtable.specs.declared.table.VColumn.{VColumn}
use Rattle.vtable.specs.declared.table.VRow.{VRow}
use Rattle.vtable.specs.declared.table.VTable.{VTable}

-- ---- a filter

filter_row : (cond : Cond) (columns : List VColumn) (row : VRow) → made_weight (row_meeting cond columns row) ≤ weight_of row.cond + (1 + condition_cost cond (columns_weight columns))
filter_row cond columns row =
    let truth : weight_of (truth_of (slots_of columns row.cells) cond) ≤ condition_cost cond (columns_weight columns) = truth_weighs (slots_of columns row.cells) (columns_weight columns) (slots_within columns row.cells) cond in
    let both = and_weighs row.cond (truth_of (slots_of columns row.cells) cond) in
    let made = row_weighs row.cells (and_of row.cond (truth_of (slots_of columns row.cells) cond)) in
    omega (arith, truth, both, made)

pub filter_sized : (cond : Cond) (t : VTable) → IsWithin (size_of (filtered_table cond t)) (filtered_size cond (size_of t))
filter_sized cond t = record {
  rows = made_fewer (row_meeting cond t.columns) t.rows;
  row_weight = made_rows (row_meeting cond t.columns) (1 + condition_cost cond (columns_weight t.columns)) (filter_row cond t.columns) t.rows;
  column_weight = omega arith;
}

-- ---- rows laid under other columns

pub laid_weighs : (to columns : List VColumn) (cond : Expr) (more : ℕ) → ((c : Expr) → weight_of (and_of c cond) ≤ weight_of c + more) → (rows : List VRow) → rows_weight (rows_laid to columns cond rows) ≤ rows_weight rows + length rows * more
laid_weighs to columns cond more adds rows =
    made_rows (row_laid to columns cond) more (λ row.
    let made = row_weighs (laid_cells to (slots_of columns row.cells)) (and_once row.cond cond) in
    let most = once_adds cond more adds row.cond in
    omega (arith, made, most)) rows

laid_fewer : (to columns : List VColumn) (cond : Expr) (rows : List VRow) → length (rows_laid to columns cond rows) ≤ length rows
laid_fewer to columns cond rows = made_fewer (row_laid to columns cond) rows

both_fewer : (xs ys : List VRow) (m n : ℕ) → length xs ≤ m → length ys ≤ n → length (xs ++ ys) ≤ m + n
both_fewer xs ys m n h k = let a = length-append xs ys in omega (arith, a, h, k)

both_weigh : (xs ys : List VRow) (m n : ℕ) → rows_weight xs ≤ m → rows_weight ys ≤ n → rows_weight (xs ++ ys) ≤ m + n
both_weigh xs ys m n h k = let a = rows-append xs ys in omega (arith, a, h, k)

-- ---- a union

there_adds : (ks : List VColumn) (c : Expr) → weight_of (and_of c (any_of ks)) ≤ weight_of c + (columns_weight ks + length (headings ks) + 1)
there_adds ks c =
    let any = and_any c ks in
    let cost = cost_is ks in
    let long = length-map ks heading in
    omega (arith, any, cost, long)

module _ (l r : VTable) where
  abbrev to : List VColumn
  to = settled (l.columns ++ r.columns)

  pub union_sized : IsWithin (size_of (united_table l r)) (united_size (headings l.columns) (headings r.columns) (size_of l) (size_of r))
  union_sized = record {
    rows = both_fewer (rows_laid to l.columns (any_of l.columns) l.rows) (rows_laid to r.columns (any_of r.columns) r.rows) (length l.rows) (length r.rows) (laid_fewer to l.columns (any_of l.columns) l.rows) (laid_fewer to r.columns (any_of r.columns) r.rows);
    row_weight =
        let a = laid_weighs to l.columns (any_of l.columns) (columns_weight l.columns + length (headings l.columns) + 1) (there_adds l.columns) l.rows in
        let b = laid_weighs to r.columns (any_of r.columns) (columns_weight r.columns + length (headings r.columns) + 1) (there_adds r.columns) r.rows in
        let all = both_weigh (rows_laid to l.columns (any_of l.columns) l.rows) (rows_laid to r.columns (any_of r.columns) r.rows) _ _ a b in
        omega (arith, all);
    column_weight =
        let most = settled_costs (l.columns ++ r.columns) in
        let both = cost-append l.columns r.columns in
        let own = cost_is to in
        let left = cost_is l.columns in
        let right = cost_is r.columns in
        let a = length-map l.columns heading in
        let b = length-map r.columns heading in
        omega (arith, most, both, own, left, right, a, b);
  }

-- ---- a choice

chosen_columns : (expr : Expr) (l r : List VColumn) (a b : ℕ) → a ≡ length l → b ≡ length r → columns_weight (settled (columns_under expr l ++ columns_under (not_of expr) r)) ≤ columns_weight l + columns_weight r + (a + b) * (2 * weight_of expr + 5)
chosen_columns expr l r a b long_a long_b =
    let w = weight_of expr in
    let most = settled_costs (columns_under expr l ++ columns_under (not_of expr) r) in
    let both = cost-append (columns_under expr l) (columns_under (not_of expr) r) in
    let own = cost_is (settled (columns_under expr l ++ columns_under (not_of expr) r)) in
    let left = under_weighs expr (2 * w + 4) (λ c. let h = and_weighs c expr in omega (arith, h)) l in
    let right = under_weighs (not_of expr) (2 * w + 4) (λ c. let h = and_weighs c (not_of expr) in let n = not_weighs expr in omega (arith, h, n)) r in
    let cl = cost_is l in
    let cr = cost_is r in
    subst (λ x. columns_weight (settled (columns_under expr l ++ columns_under (not_of expr) r)) ≤ columns_weight l + columns_weight r + (x + b) * (2 * w + 5)) (sym long_a)
    (subst (λ y. columns_weight (settled (columns_under expr l ++ columns_under (not_of expr) r)) ≤ columns_weight l + columns_weight r + (length l + y) * (2 * w + 5)) (sym long_b)
    (omega (arith, most, both, own, left, right, cl, cr)))

module _ (expr : Expr) (l r : VTable) where
  abbrev sides : List VColumn
  sides = settled (columns_under expr l.columns ++ columns_under (not_of expr) r.columns)

  pub choice_sized : IsWithin (size_of (chosen_table expr l r)) (chosen_size (headings l.columns) (headings r.columns) expr (size_of l) (size_of r))
  choice_sized = record {
    rows = both_fewer (rows_laid sides l.columns expr l.rows) (rows_laid sides r.columns (not_of expr) r.rows) (length l.rows) (length r.rows) (laid_fewer sides l.columns expr l.rows) (laid_fewer sides r.columns (not_of expr) r.rows);
    row_weight =
        let a = laid_weighs sides l.columns expr (weight_of expr + 2) (λ c. let h = and_weighs c expr in omega (arith, h)) l.rows in
        let b = laid_weighs sides r.columns (not_of expr) (weight_of expr + 2) (λ c. let h = and_weighs c (not_of expr) in let n = not_weighs expr in omega (arith, h, n)) r.rows in
        let all = both_weigh (rows_laid sides l.columns expr l.rows) (rows_laid sides r.columns (not_of expr) r.rows) _ _ a b in
        omega (arith, all);
    column_weight = chosen_columns expr l.columns r.columns (length (headings l.columns)) (length (headings r.columns)) (length-map l.columns heading) (length-map r.columns heading);
  }

-- ---- an except

alike_step : (right : List Slot) (out : Expr) (slot : Slot) (same : Bool) → same_cell slot.cell (cell_under right (heading slot.column)) ≡ same → weight_of (with_alike right out slot) ≤ weight_of out + weight_of slot.column.cond + 2
alike_step right out slot true is = rw is (omega arith)
alike_step right out slot false is =
    rw is (
    let n = not_weighs slot.column.cond in
    let a = and_weighs out (not_of slot.column.cond) in
    omega (arith, n, a))

alike_fold : (right : List Slot) (out : Expr) (left : List Slot) → weight_of (fold (with_alike right) out left) ≤ weight_of out + slots_weight left + 2 * length left
alike_fold right out [] = omega arith
alike_fold right out (slot ∷ left) =
    let rest = alike_fold right (with_alike right out slot) left in
    let one = alike_step right out slot (same_cell slot.cell (cell_under right (heading slot.column))) refl in
    omega (arith, rest, one)

match_fold : (columns : List VColumn) (left : List Slot) (out : Expr) (rows : List VRow) → weight_of (fold (with_match columns left) out rows) ≤ weight_of out + rows_weight rows + length rows * (slots_weight left + 2 * length left + 3)
match_fold columns left out [] = omega arith
match_fold columns left out (row ∷ rows) =
    let same : Expr = alike left (slots_of columns row.cells) in
    let rest = match_fold columns left (with_match columns left out row) rows in
    let w = weight_True in
    let one = alike_fold (slots_of columns row.cells) e.True left in
    let both = and_weighs row.cond (alike left (slots_of columns row.cells)) in
    let whole = or_weighs out (and_of row.cond (alike left (slots_of columns row.cells))) in
    let cons = sum_by-cons (λ (row : VRow). weight_of row.cond) row rows in
    omega (arith, rest, w, one, both, whole, cons)

-- the rows with a key are fewer, and lighter
with_step : (test : VRow → Bool) (row : VRow) (rows : List VRow) (kept : Bool) → test row ≡ kept → (length (filter test rows) ≤ length rows) × (rows_weight (filter test rows) ≤ rows_weight rows) → (length (filter test (row ∷ rows)) ≤ length (row ∷ rows)) × (rows_weight (filter test (row ∷ rows)) ≤ rows_weight (row ∷ rows))
with_step test row rows true is rest =
    let few = rest.0 in
    let light = rest.1 in
    let more = sum_by-cons (λ (row : VRow). weight_of row.cond) row (filter test rows) in
    let cons = sum_by-cons (λ (row : VRow). weight_of row.cond) row rows in
    (rw is (omega (arith, few)), rw is (omega (arith, light, more, cons)))
with_step test row rows false is rest =
    let few = rest.0 in
    let light = rest.1 in
    let cons = sum_by-cons (λ (row : VRow). weight_of row.cond) row rows in
    (rw is (omega (arith, few)), rw is (omega (arith, light, cons)))

fewer_with : (test : VRow → Bool) (rows : List VRow) → (length (filter test rows) ≤ length rows) × (rows_weight (filter test rows) ≤ rows_weight rows)
fewer_with test [] = (omega arith, omega arith)
fewer_with test (row ∷ rows) = with_step test row rows (test row) refl (fewer_with test rows)

slots_few : (columns : List VColumn) (cells : List (Option Value)) → length (slots_of columns cells) ≤ length columns
slots_few [] cells = omega arith
slots_few (k ∷ ks) [] = omega arith
slots_few (k ∷ ks) (cell ∷ cells) = let rest = slots_few ks cells in omega (arith, rest)

at_least : (n k : ℕ) → k ≤ suc n * k
at_least n k = omega arith

module _ (columns : List VColumn) (right : List VColumn) where
  abbrev each : ℕ
  each = columns_weight columns + columns_weight right + 4 * (length (headings columns) + length (headings right)) + 8

  without_adds : (rows : List VRow) (left : List Slot) (c : Expr) → slots_weight left ≤ columns_weight columns → length left ≤ length (headings columns) → weight_of (and_of c (not_of (and_of (any_of right) (matched right left rows)))) ≤ weight_of c + (4 + rows_weight rows + length rows * each)
  without_adds [] left c few short = let none = and_not_none c (any_of right) in omega (arith, none)
  without_adds (row ∷ rows) left c few short =
      let found : Expr = matched right left (row ∷ rows) in
      let any = any_weighs right in
      let cost = cost_is right in
      let long = length-map right heading in
      let m = match_fold right left e.False (row ∷ rows) in
      let w = weight_False in
      let both = and_weighs (any_of right) found in
      let n = not_weighs (and_of (any_of right) found) in
      let whole = and_weighs c (not_of (and_of (any_of right) found)) in
      let few_each = mul-le (length (row ∷ rows)) (slots_weight left + 2 * length left + 3) (length (row ∷ rows)) (columns_weight columns + 2 * length (headings columns) + 3) (omega arith) (omega (arith, few, short)) in
      let some = at_least (length rows) (columns_weight right + length (headings right)) in
      omega (arith, any, cost, long, m, w, both, n, whole, few_each, some)

except_row : (columns : List VColumn) (r : VTable) (row : VRow) → made_weight (row_without columns r row) ≤ weight_of row.cond + (4 + rows_weight r.rows + length r.rows * each columns r.columns)
except_row columns r row =
    let made = row_weighs row.cells (and_of row.cond (not_of (and_of (any_of r.columns) (matching (slots_of columns row.cells) r)))) in
    let few = slots_few columns row.cells in
    let long = length-map columns heading in
    let keys : List VColumn = sure_columns (any_of r.columns) r.columns in
    let key : List (Option Value) = laid_cells keys (slots_of columns row.cells) in
    let found : List VRow = rows_with keys r.columns key r.rows in
    let fewer = fewer_with (has_key keys r.columns key) r.rows in
    let fewer_rows = fewer.0 in
    let lighter = fewer.1 in
    let most = without_adds columns r.columns found (slots_of columns row.cells) row.cond (slots_within columns row.cells) (omega (arith, few, long)) in
    let all = mul-le (length found) (each columns r.columns) (length r.rows) (each columns r.columns) fewer_rows (omega arith) in
    omega (arith, made, most, all, lighter)

pub except_sized : (l r : VTable) → IsWithin (size_of (excepted_table l r)) (excepted_size (headings l.columns) (headings r.columns) (size_of l) (size_of r))
except_sized l r = record {
  rows = made_fewer (row_without l.columns r) l.rows;
  row_weight = made_rows (row_without l.columns r) (4 + rows_weight r.rows + length r.rows * each l.columns r.columns) (except_row l.columns r) l.rows;
  column_weight = omega arith;
}
