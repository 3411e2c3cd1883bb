-- The bounds of a view after a write.
use Rattle.std.proofs.Common.{◌≡◌, ℕ, suc, ◌+◌, ◌*◌, ◌≤◌, Bool, true, false, cond, ◌&&◌, List, [], ◌∷◌, ◌++◌, map, flat_map, length, refl, sym, ◌∙◌, ap, subst, arith, rules, mul-suc, zero-mul, mul-add, mul_assoc, mul-le-mul_right}
use Rattle.std.proofs.Math.Nat.{suc-mul}
use Rattle.std.proofs.lemmas.List.{length-append, length-map}
use Rattle.std.proofs.lemmas.List.Sums.{sum_by-cons, sum_by-append}
use Rattle.feature_expr.specs.Expressions.{weight_of}
use Rattle.feature_expr.specs.Satisfaction.{satisfies}
use Rattle.feature_expr.specs.declared.expr.Expr.{Expr}
use Rattle.condition_sat.proofs.PossibleLaws.{none_admitted}
use Rattle.query_meaning.specs.Bounds.{Size, IsWithin, table_column_weight}
use Rattle.relational_algebra.specs.Conditions.{condition_cost}
use Rattle.write_meaning.specs.StoredTables.{stored_table}
use Rattle.write_meaning.specs.PlainWrites.{size_after}
use Rattle.write_meaning.specs.RowWrites.{touches, is_touched, can_be_there, holding, IsFate, AreFates, staying_by, staying, begun_by, inserted_row, begun, IsRowWrite}
use Rattle.write_meaning.specs.StoredTables.{size_of}
use Rattle.query_meaning.specs.WriteTyping.{acts}
use Rattle.vra_syntax.specs.declared.cond.Operand.{Operand}
use Rattle.vra_syntax.specs.declared.write.Write.{Write}
use Rattle.vra_syntax.specs.declared.write.Write.TheVariants as write
use Rattle.vschema.specs.declared.catalog.Table.{Table}
use Rattle.vtable.specs.TableForm.{rows_weight}
use Rattle.vtable.specs.declared.table.VRow.{VRow}
use Rattle.write_meaning.specs.declared.fate.Fate.{Fate}
use Rattle.write_meaning.specs.declared.fate.Fate.TheVariants.{Stays, Ends}

weigh_cons : (row : VRow) (rows : List VRow) → rows_weight (row ∷ rows) ≡ weight_of row.cond + rows_weight rows
weigh_cons row rows = sum_by-cons (λ (row : VRow). weight_of row.cond) row rows

weigh_append : (xs ys : List VRow) → rows_weight (xs ++ ys) ≡ rows_weight xs + rows_weight ys
weigh_append xs ys = sum_by-append (λ (row : VRow). weight_of row.cond) xs ys

-- so many rows, so heavy
pub record AreAtMost (rows : List VRow) (count weight : ℕ) : Type 0 where
  pub rows_are : length rows ≤ count
  pub weight_is : rows_weight rows ≤ weight

none_at_most : AreAtMost [] 0 0
none_at_most = record { rows_are = omega arith; weight_is = omega arith }

one_more : (row : VRow) (rows : List VRow) (count heavy : ℕ) → AreAtMost rows count heavy → AreAtMost (row ∷ rows) (count + 1) (weight_of row.cond + heavy)
one_more row rows count heavy h = record { rows_are = let r = h.rows_are in omega (arith, r); weight_is = let e = weigh_cons row rows in let w = h.weight_is in omega (arith, e, w) }

held_by : (row : VRow) (rows : List VRow) (count heavy : ℕ) (b : Bool) → AreAtMost rows count heavy → AreAtMost (cond b (row ∷ rows) rows) (count + 1) (weight_of row.cond + heavy)
held_by row rows count heavy true h = one_more row rows count heavy h
held_by row rows count heavy false h = record { rows_are = let r = h.rows_are in omega (arith, r); weight_is = let w = h.weight_is in omega (arith, w) }

-- dropping rows makes none more
held_at_most : (model : Expr) (table : Table) (rows : List VRow) → AreAtMost (holding model table rows) (length rows) (rows_weight rows)
held_at_most model table [] = none_at_most
held_at_most model table (row ∷ rows) =
    let h = held_by row (holding model table rows) (length rows) (rows_weight rows) (can_be_there model table row) (held_at_most model table rows) in
    record { rows_are = let r = h.rows_are in omega (arith, r); weight_is = let e = weigh_cons row rows in let w = h.weight_is in omega (arith, e, w) }

-- how many rows a row may become, and what each weighs more
abbrev most : Write → ℕ
most (write.Insert name names rows expr) = 1
most (write.Delete name cond expr) = 1
most (write.Update name items cond expr) = 2

abbrev extra : Table → Write → ℕ
extra table (write.Insert name names rows expr) = 0
extra table (write.Delete name cond expr) = weight_of expr + condition_cost cond (table_column_weight table) + 3
extra table (write.Update name items cond expr) = weight_of expr + condition_cost cond (table_column_weight table) + 3

and_false : (a : Bool) → (a && false) ≡ false
and_false true = refl
and_false false = refl

never : (b : Bool) → b ≡ true → b ≡ false → ⊥
never true h k = search rules
never false h k = search rules

module _ (model : Expr) (table : Table) where
  untouched : (name : List ℕ) (names : List (List ℕ)) (rows : List (List Operand)) (expr : Expr) (row : VRow) → is_touched model table (write.Insert name names rows expr) row ≡ false
  untouched name names rows expr row =
      none_admitted model (λ c. satisfies c row.cond && touches c table (write.Insert name names rows expr) row)
      (λ c admitted. ap (λ b. satisfies c row.cond && b) (and_false (acts c table (write.Insert name names rows expr))) ∙ and_false (satisfies c row.cond))

  stays_at_most : (w : Write) (row : VRow) → AreAtMost (row ∷ []) (most w) (most w * (weight_of row.cond + extra table w))
  stays_at_most (write.Insert name names rows expr) row = record { rows_are = omega arith; weight_is = omega arith }
  stays_at_most (write.Delete name it expr) row = record { rows_are = omega arith; weight_is = omega arith }
  stays_at_most (write.Update name items it expr) row = record { rows_are = omega arith; weight_is = omega arith }

  -- what a row becomes
  piece_at_most : (w : Write) (row : VRow) (fate : Fate) → IsFate model table w row fate → AreAtMost (staying_by fate row ++ begun_by fate) (most w) (most w * (weight_of row.cond + extra table w))
  piece_at_most w row Stays is = stays_at_most w row
  piece_at_most (write.Insert name names rows expr) row (Ends begun) is = absurd (never (is_touched model table (write.Insert name names rows expr) row) is.0 (untouched name names rows expr row))
  piece_at_most (write.Delete name it expr) row (Ends begun) is =
      let split = is.1 in
      let h = held_at_most model table (split.rest ∷ []) in
      let r = h.rows_are in let w = h.weight_is in let e = split.rest_is.weight in
      subst (λ rows. AreAtMost rows 1 (1 * (weight_of row.cond + extra table (write.Delete name it expr)))) (sym (split.begun_are ∙ ap (λ xs. holding model table (split.rest ∷ xs)) split.changed_are))
      (record { rows_are = omega (arith, r); weight_is = omega (arith, w, e) })
  piece_at_most (write.Update name items it expr) row (Ends begun) is =
      let split = is.1 in
      let one = split.changed_are in
      let h = held_at_most model table (split.rest ∷ one.0 ∷ []) in
      let r = h.rows_are in let w = h.weight_is in let e = split.rest_is.weight in let f = one.1.weight in
      subst (λ rows. AreAtMost rows 2 (2 * (weight_of row.cond + extra table (write.Update name items it expr)))) (sym (split.begun_are ∙ ap (λ xs. holding model table (split.rest ∷ xs)) one.2))
      (record { rows_are = omega (arith, r); weight_is = omega (arith, w, e, f) })

  -- what rows become
  pub record AreSplit (w : Write) (rows : List VRow) (fates : List Fate) : Type 0 where
    pub rows_are : length (staying rows fates) + length (flat_map begun_by fates) ≤ most w * length rows
    pub weight_is : rows_weight (staying rows fates) + rows_weight (flat_map begun_by fates) ≤ most w * (rows_weight rows + length rows * extra table w)

  split_at_most : (w : Write) (m : ℕ) → most w ≡ m → (k : ℕ) → extra table w ≡ k → (rows : List VRow) (fates : List Fate) → AreFates model table w rows fates
      → (length (staying rows fates) + length (flat_map begun_by fates) ≤ m * length rows)
      × (rows_weight (staying rows fates) + rows_weight (flat_map begun_by fates) ≤ m * (rows_weight rows + length rows * k))
  split_at_most w m m_is k k_is [] [] are = (omega arith, omega arith)
  split_at_most w m m_is k k_is [] (fate ∷ fates) are = absurd are
  split_at_most w m m_is k k_is (row ∷ rows) [] are = absurd are
  split_at_most w m m_is k k_is (row ∷ rows) (fate ∷ fates) are =
      let piece = piece_at_most w row fate are.0 in
      let rest = split_at_most w m m_is k k_is rows fates are.1 in
      let la = length-append (staying_by fate row) (staying rows fates) in
      let lb = length-append (begun_by fate) (flat_map begun_by fates) in
      let lc = length-append (staying_by fate row) (begun_by fate) in
      let wa = weigh_append (staying_by fate row) (staying rows fates) in
      let wb = weigh_append (begun_by fate) (flat_map begun_by fates) in
      let wc = weigh_append (staying_by fate row) (begun_by fate) in
      let wd = weigh_cons row rows in
      let r : length (staying_by fate row ++ begun_by fate) ≤ m = subst (λ n. length (staying_by fate row ++ begun_by fate) ≤ n) m_is piece.rows_are in
      let v : rows_weight (staying_by fate row ++ begun_by fate) ≤ m * (weight_of row.cond + k) = subst (λ n. rows_weight (staying_by fate row ++ begun_by fate) ≤ m * (weight_of row.cond + n)) k_is (subst (λ n. rows_weight (staying_by fate row ++ begun_by fate) ≤ n * (weight_of row.cond + extra table w)) m_is piece.weight_is) in
      let p = rest.0 in let q = rest.1 in
      let e = suc-mul (length rows) k in (
        times_more m (length rows) (length (staying_by fate row ++ staying rows fates) + length (begun_by fate ++ flat_map begun_by fates)) (omega (arith, la, lb, lc, r, p)),
        times_sum m (weight_of row.cond + k) (rows_weight rows + length rows * k) (rows_weight (row ∷ rows) + suc (length rows) * k)
            (rows_weight (staying_by fate row ++ staying rows fates) + rows_weight (begun_by fate ++ flat_map begun_by fates)) (omega (arith, wd, e)) (omega (arith, wa, wb, wc, v, q)),
      ) where
        times_more : (m n x : ℕ) → x ≤ m + m * n → x ≤ m * suc n
        times_more m n x h = let e = mul-suc m n in omega (arith, e, h)

        times_sum : (m a b all x : ℕ) → all ≡ a + b → x ≤ m * a + m * b → x ≤ m * all
        times_sum m a b all x is h = let e = mul-add m a b in subst (λ n. x ≤ m * n) (sym is) (omega (arith, e, h))

  listed_weight : (names : List (List ℕ)) (expr : Expr) (rows : List (List Operand)) → rows_weight (map (inserted_row table names expr) rows) ≡ length rows * weight_of expr
  listed_weight names expr [] = sym (zero-mul (weight_of expr))
  listed_weight names expr (values ∷ rows) =
      weigh_cons (inserted_row table names expr values) (map (inserted_row table names expr) rows)
      ∙ ap (λ n. weight_of expr + n) (listed_weight names expr rows)
      ∙ (let e = suc-mul (length rows) (weight_of expr) in omega (arith, e))

  -- The rows after a write, and their weight, are within the bounds after it.
  pub within_after : (w : Write) (old new : List VRow) (size : Size) → IsRowWrite model table w old new → size.column_weight ≡ table_column_weight table
      → IsWithin (size_of (stored_table table old)) size → IsWithin (size_of (stored_table table new)) (size_after w size)
  within_after w old new size it columns within = by_form w it where
    by_form : (w : Write) → IsRowWrite model table w old new → IsWithin (size_of (stored_table table new)) (size_after w size)
    by_form (write.Insert name names rows expr) it =
        let split = split_at_most (write.Insert name names rows expr) 1 refl 0 refl old it.fates it.are_fates in
        let held = held_at_most model table (map (inserted_row table names expr) rows) in
        let n = length-append (staying old it.fates) (begun model table (write.Insert name names rows expr) it.fates) in
        let n' = length-append (holding model table (map (inserted_row table names expr) rows)) (flat_map begun_by it.fates) in
        let v = weigh_append (staying old it.fates) (begun model table (write.Insert name names rows expr) it.fates) in
        let v' = weigh_append (holding model table (map (inserted_row table names expr) rows)) (flat_map begun_by it.fates) in
        let l = length-map rows (inserted_row table names expr) in
        let lw = listed_weight names expr rows in
        let hr = held.rows_are in let hw = held.weight_is in
        let p = split.0 in let q = split.1 in
        let wr = within.rows in let ww = within.row_weight in
        record {
          rows = subst (λ rows'. length rows' ≤ size.rows + length rows) (sym it.new_are) (omega (arith, n, n', l, hr, p, wr));
          row_weight = subst (λ rows'. rows_weight rows' ≤ size.row_weight + length rows * weight_of expr) (sym it.new_are) (omega (arith, v, v', lw, hw, q, ww));
          column_weight = within.column_weight;
        }
    by_form (write.Delete name test expr) it =
        let k = weight_of expr + condition_cost test (table_column_weight table) + 3 in
        let split = split_at_most (write.Delete name test expr) 1 refl k refl old it.fates it.are_fates in
        let n = length-append (staying old it.fates) (flat_map begun_by it.fates) in
        let v = weigh_append (staying old it.fates) (flat_map begun_by it.fates) in
        let p = split.0 in let q = split.1 in
        let wr = within.rows in let ww = within.row_weight in
        let more : length old * k ≤ size.rows * k = mul-le-mul_right k within.rows in
        record {
          rows = subst (λ rows'. length rows' ≤ size.rows) (sym it.new_are) (omega (arith, n, p, wr));
          row_weight = subst (λ rows'. rows_weight rows' ≤ size.row_weight + size.rows * (weight_of expr + condition_cost test size.column_weight + 3)) (sym it.new_are)
              (subst (λ m. rows_weight (staying old it.fates ++ flat_map begun_by it.fates) ≤ size.row_weight + size.rows * (weight_of expr + condition_cost test m + 3)) (sym columns) (omega (arith, v, q, ww, more)));
          column_weight = within.column_weight;
        }
    by_form (write.Update name items test expr) it =
        let k = weight_of expr + condition_cost test (table_column_weight table) + 3 in
        let split = split_at_most (write.Update name items test expr) 2 refl k refl old it.fates it.are_fates in
        let n = length-append (staying old it.fates) (flat_map begun_by it.fates) in
        let v = weigh_append (staying old it.fates) (flat_map begun_by it.fates) in
        let p = split.0 in let q = split.1 in
        let wr = within.rows in let ww = within.row_weight in
        let more : length old * k ≤ size.rows * k = mul-le-mul_right k within.rows in
        let twice : 2 * size.rows * k ≡ 2 * (size.rows * k) = mul_assoc 2 size.rows k in
        record {
          rows = subst (λ rows'. length rows' ≤ 2 * size.rows) (sym it.new_are) (omega (arith, n, p, wr));
          row_weight = subst (λ rows'. rows_weight rows' ≤ 2 * size.row_weight + 2 * size.rows * (weight_of expr + condition_cost test size.column_weight + 3)) (sym it.new_are)
              (subst (λ m. rows_weight (staying old it.fates ++ flat_map begun_by it.fates) ≤ 2 * size.row_weight + 2 * size.rows * (weight_of expr + condition_cost test m + 3)) (sym columns) (omega (arith, v, q, ww, more, twice)));
          column_weight = within.column_weight;
        }
