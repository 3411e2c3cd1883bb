-- The features of the rows after a write are those of the rows before it, of the write and of its table's columns.
use Rattle.std.proofs.Common.{◌≡◌, ◌∙◌, ℕ, Bool, true, false, cond, ◌||◌, List, [], ◌∷◌, ◌++◌, map, flat_map, sym, subst, rules, ◌⊎◌, inl, inr}
use Rattle.feature_expr.specs.Expressions.{mentions}
use Rattle.feature_expr.specs.declared.expr.Expr.{Expr}
use Rattle.row_conditions.proofs.BoolLaws.{or_cases, or_end, or_start}
use Rattle.row_conditions.specs.RowConditions.{mentioned_in}
use Rattle.vra_syntax.specs.declared.cond.Operand.{Operand}
use Rattle.vra_syntax.specs.declared.write.Write.{Write}
use Rattle.vra_syntax.specs.declared.write.Write.TheVariants as write
use Rattle.vschema.specs.declared.catalog.Table.{Table}
use Rattle.vtable.specs.TableForm.{rows_mention}
use Rattle.vtable.specs.declared.table.VRow.{VRow}
use Rattle.write_meaning.specs.RowWrites.{AreChanged, AreFates, IsFate, IsRowWrite, begun, begun_by, can_be_there, holding, inserted, inserted_row, staying, staying_by, touch_mentions}
use Rattle.write_meaning.specs.StoredTables.{stored_columns}
use Rattle.write_meaning.specs.declared.fate.Fate.{Fate}
use Rattle.write_meaning.specs.declared.fate.Fate.TheVariants.{Stays, Ends}

module _ (feature : ℕ) (known : Bool) where
  -- if the feature occurs in the row's condition it is known
  abbrev IsKnown : VRow → Type 0
  IsKnown row = mentions feature row.cond ≡ true → known ≡ true

  abbrev AreKnown : List VRow → Type 0
  AreKnown [] = Unit {0}
  AreKnown (row ∷ rows) = IsKnown row × AreKnown rows

  append : (xs ys : List VRow) → AreKnown xs → AreKnown ys → AreKnown (xs ++ ys)
  append [] ys h k = k
  append (x ∷ xs) ys h k = (h.0, append xs ys h.1 k)

  held_by : (b : Bool) (row : VRow) (rows : List VRow) → IsKnown row → AreKnown rows → AreKnown (cond b (row ∷ rows) rows)
  held_by true row rows h k = (h, k)
  held_by false row rows h k = k

  held : (model : Expr) (table : Table) (rows : List VRow) → AreKnown rows → AreKnown (holding model table rows)
  held model table [] h = tt
  held model table (row ∷ rows) h = held_by (can_be_there model table row) row (holding model table rows) h.0 (held model table rows h.1)

  known_of : (rows : List VRow) → (rows_mention feature rows ≡ true → known ≡ true) → AreKnown rows
  known_of [] h = tt
  known_of (row ∷ rows) h = (
    λ here. h (or_start (mentions feature row.cond) (rows_mention feature rows) here),
    known_of rows (λ there. h (or_end (mentions feature row.cond) (rows_mention feature rows) there)),
  )

  of_known_by : (row : VRow) (rows : List VRow) → IsKnown row → (rows_mention feature rows ≡ true → known ≡ true) → (mentions feature row.cond ≡ true) ⊎ (rows_mention feature rows ≡ true) → known ≡ true
  of_known_by row rows h on (inl here) = h here
  of_known_by row rows h on (inr there) = on there

  of_known : (rows : List VRow) → AreKnown rows → rows_mention feature rows ≡ true → known ≡ true
  of_known [] h is = search rules
  of_known (row ∷ rows) h is = of_known_by row rows h.0 (of_known rows h.1) (or_cases (mentions feature row.cond) (rows_mention feature rows) is)

  module _ (model : Expr) (table : Table) where
    -- a row that is made of a known one by the write
    made_by : (w : Write) (row : VRow) → (touch_mentions feature table w ≡ true → known ≡ true) → IsKnown row → (mentions feature row.cond ≡ true) ⊎ (touch_mentions feature table w ≡ true) → known ≡ true
    made_by w row brings is (inl here) = is here
    made_by w row brings is (inr there) = brings there

    made : (w : Write) (row one : VRow) → (touch_mentions feature table w ≡ true → known ≡ true) → ((mentions feature one.cond ≡ true) → (mentions feature row.cond || touch_mentions feature table w) ≡ true) → IsKnown row → IsKnown one
    made w row one brings features is here = made_by w row brings is (or_cases (mentions feature row.cond) (touch_mentions feature table w) (features here))

    changed : (w : Write) (row : VRow) (rows : List VRow) → (touch_mentions feature table w ≡ true → known ≡ true) → AreChanged model table w row rows → IsKnown row → AreKnown rows
    changed (write.Insert name names listed expr) row rows brings are is = subst AreKnown (sym are) tt
    changed (write.Delete name test expr) row rows brings are is = subst AreKnown (sym are) tt
    changed (write.Update name items test expr) row rows brings are is =
        subst AreKnown (sym are.2) (made (write.Update name items test expr) row are.0 brings (are.1.features feature) is, tt)

    begins : (w : Write) (row : VRow) (fate : Fate) → (touch_mentions feature table w ≡ true → known ≡ true) → IsFate model table w row fate → IsKnown row → AreKnown (begun_by fate)
    begins w row Stays brings fate is = tt
    begins w row (Ends rows) brings fate is =
        let split = fate.1 in
        subst AreKnown (sym split.begun_are)
        (held model table (split.rest ∷ split.changed) (made w row split.rest brings (split.rest_is.features feature) is, changed w row split.changed brings split.changed_are is))

    stays : (row : VRow) (fate : Fate) → IsKnown row → AreKnown (staying_by fate row)
    stays row Stays is = (is, tt)
    stays row (Ends rows) is = tt

    all_stay : (w : Write) (rows : List VRow) (fates : List Fate) → AreFates model table w rows fates → AreKnown rows → AreKnown (staying rows fates)
    all_stay w [] fates are is = tt
    all_stay w (row ∷ rows) [] are is = tt
    all_stay w (row ∷ rows) (fate ∷ fates) are is = append (staying_by fate row) (staying rows fates) (stays row fate is.0) (all_stay w rows fates are.1 is.1)

    all_begin : (w : Write) (rows : List VRow) (fates : List Fate) → (touch_mentions feature table w ≡ true → known ≡ true) → AreFates model table w rows fates → AreKnown rows → AreKnown (flat_map begun_by fates)
    all_begin w [] [] brings are is = tt
    all_begin w [] (fate ∷ fates) brings are is = absurd are
    all_begin w (row ∷ rows) [] brings are is = tt
    all_begin w (row ∷ rows) (fate ∷ fates) brings are is =
        append (begun_by fate) (flat_map begun_by fates) (begins w row fate brings are.0 is.0) (all_begin w rows fates brings are.1 is.1)

    listed : (names : List (List ℕ)) (expr : Expr) (rows : List (List Operand)) → (mentions feature expr ≡ true → known ≡ true) → AreKnown (map (inserted_row table names expr) rows)
    listed names expr [] brings = tt
    listed names expr (values ∷ rows) brings = (brings, listed names expr rows brings)

    all_inserted : (w : Write) → (touch_mentions feature table w ≡ true → known ≡ true) → AreKnown (inserted table w)
    all_inserted (write.Insert name names rows expr) brings =
        listed names expr rows (λ here. brings (or_start (mentions feature expr) (mentioned_in feature (stored_columns table)) here))
    all_inserted (write.Delete name test expr) brings = tt
    all_inserted (write.Update name items test expr) brings = tt

    after : (w : Write) (old new : List VRow) → (touch_mentions feature table w ≡ true → known ≡ true) → IsRowWrite model table w old new → AreKnown old → AreKnown new
    after w old new brings it is =
        subst AreKnown (sym it.new_are)
        (append (staying old it.fates) (begun model table w it.fates) (all_stay w old it.fates it.are_fates is)
        (append (holding model table (inserted table w)) (flat_map begun_by it.fates) (held model table (inserted table w) (all_inserted w brings)) (all_begin w old it.fates brings it.are_fates is)))

-- a feature of the rows after a write
pub mentions_after : (model : Expr) (table : Table) (w : Write) (old new : List VRow) (feature : ℕ) → IsRowWrite model table w old new → rows_mention feature new ≡ true → (rows_mention feature old || touch_mentions feature table w) ≡ true
mentions_after model table w old new feature it is =
    let known : Bool = rows_mention feature old || touch_mentions feature table w in
    of_known feature known new
    (after feature known model table w old new (or_end (rows_mention feature old) (touch_mentions feature table w)) it
    (known_of feature known old (or_start (rows_mention feature old) (touch_mentions feature table w)))) is
