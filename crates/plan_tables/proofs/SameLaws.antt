-- Laid under the same columns, a row's cells stay as they are.
use Rattle.std.proofs.Common.{◌≡◌, ◌∙◌, ℕ, suc, Bool, true, false, List, [], ◌∷◌, ◌++◌, map, length, Option, refl, sym, ap, ap₂, true≢false, arith}
use Rattle.std.specs.Option.{option_to_list}
use Rattle.feature_expr.specs.declared.expr.Expr.{Expr}
use Rattle.values.specs.declared.value.Value.{Value}
use Rattle.plain_relation.specs.Relations.{Column}
use Rattle.relational_algebra.specs.Columns.{among, same_column}
use Rattle.row_conditions.proofs.BoolLaws.{neither}
use Rattle.row_conditions.specs.Truths.{Slot, slots_of}
use Rattle.plan_tables.proofs.MemberLaws.{column_is, column_same, once_parts, same_back}
use Rattle.plan_tables.specs.Tables.{and_once, cell_under, heading, headings, laid_cells, once_each, row_under}
use Rattle.vtable.specs.declared.table.VColumn.{VColumn}
use Rattle.vtable.specs.declared.table.VRow.{VRow}

other_back : (key q : Column) (same : Bool) → same_column key q ≡ false → same_column q key ≡ same → same_column q key ≡ false
other_back key q false h is = is
other_back key q true h is = absurd (true≢false (sym (same_back q key is) ∙ h))

-- a column that isn't asked for
skipped : (slot : Slot) (rest : List Slot) (keys : List Column) → among (heading slot.column) keys ≡ false → map (cell_under (slot ∷ rest)) keys ≡ map (cell_under rest) keys
skipped slot rest [] h = refl
skipped slot rest (q ∷ qs) h =
    let parts = neither (same_column (heading slot.column) q) (among (heading slot.column) qs) h in
    rw (other_back (heading slot.column) q (same_column q (heading slot.column)) parts.0 refl) (ap (λ xs. cell_under rest q ∷ xs) (skipped slot rest qs parts.1))

own_cells : (columns : List VColumn) (cells : List (Option Value)) → once_each (headings columns) ≡ true → length cells ≡ length columns → map (cell_under (slots_of columns cells)) (headings columns) ≡ cells
own_cells [] [] once long = refl
own_cells [] (x ∷ xs) once long = absurd (cc long)
own_cells (k ∷ ks) [] once long = absurd (cc long)
own_cells (k ∷ ks) (x ∷ xs) once long =
    let parts = once_parts (heading k) (headings ks) once in
    rw (column_same (heading k)) (ap (λ ys. x ∷ ys) (skipped (record { column = k; cell = x }) (slots_of ks xs) (headings ks) parts.0 ∙ own_cells ks xs parts.1 (omega (arith, long))))

laid_keys : (to : List VColumn) (slots : List Slot) → laid_cells to slots ≡ map (cell_under slots) (headings to)
laid_keys [] slots = refl
laid_keys (t ∷ ts) slots = ap (λ xs. cell_under slots (heading t) ∷ xs) (laid_keys ts slots)

pub laid_same : (to columns : List VColumn) (cells : List (Option Value)) → headings to ≡ headings columns → once_each (headings to) ≡ true → length cells ≡ length columns → laid_cells to (slots_of columns cells) ≡ cells
laid_same to columns cells same once long =
    laid_keys to (slots_of columns cells)
    ∙ ap (map (cell_under (slots_of columns cells))) same
    ∙ own_cells columns cells (sym (ap once_each same) ∙ once) long

-- one column more on both sides
pub headings_more : (one other : VColumn) (ones others : List VColumn) → same_column (heading one) (heading other) ≡ true → headings ones ≡ headings others → headings (one ∷ ones) ≡ headings (other ∷ others)
headings_more one other ones others same rest = ap₂ (λ x xs. x ∷ xs) (column_is (heading one) (heading other) same) rest

-- a row that stays as it is under other columns
pub moved_row : (to columns : List VColumn) (cells : List (Option Value)) (here cond both : Expr) (out new : List VRow) → headings to ≡ headings columns → once_each (headings to) ≡ true → length cells ≡ length columns → both ≡ and_once here cond → new ≡ out ++ option_to_list (row_under cells both) → new ≡ out ++ option_to_list (row_under (laid_cells to (slots_of columns cells)) (and_once here cond))
moved_row to columns cells here cond both out new same once long is put =
    put ∙ ap₂ (λ xs e. out ++ option_to_list (row_under xs e)) (sym (laid_same to columns cells same once long)) is
