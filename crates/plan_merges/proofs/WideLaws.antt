-- Rows that are put together of parts, and relations without columns.
use Rattle.std.proofs.Common.{◌≡◌, ◌∙◌, ℕ, ◌==◌, Bool, true, false, List, [], ◌∷◌, ◌++◌, map, length, Option, Some, None, refl, sym, ap, true≢false, arith}
use Rattle.std.proofs.lemmas.Bool.{eqb-true}
use Rattle.feature_expr.specs.Satisfaction.{satisfies}
use Rattle.values.specs.Value.{kind_of}
use Rattle.values.specs.declared.value.Value.{Value}
use Rattle.plain_relation.specs.Relations.{Cell, Column, row_of}
use Rattle.plain_relation.specs.Values.{same_kind}
use Rattle.relational_algebra.specs.Columns.{in_order_of}
use Rattle.relational_algebra.specs.Operations.{relation_by}
use Rattle.row_conditions.proofs.BoolLaws.{and_first, and_second}
use Rattle.plan_tables.proofs.MemberLaws.{both}
use Rattle.plan_tables.proofs.StandLaws.{are_filled, are_whole}
use Rattle.plan_tables.specs.Tables.{columns_at}
use Rattle.vtable.specs.Answers.{column_at, fits}
use Rattle.vtable.specs.declared.table.VColumn.{VColumn}
use Rattle.vtable.specs.declared.table.VRow.{VRow}

pub row_of-append : (ps qs : List (Option Column)) (xs ys : List (Option Value)) → length xs ≡ length ps → row_of (ps ++ qs) (xs ++ ys) ≡ row_of ps xs ++ row_of qs ys
row_of-append [] qs [] ys h = refl
row_of-append [] qs (x ∷ xs) ys h = absurd (omega (arith, h))
row_of-append (p ∷ ps) qs [] ys h = absurd (omega (arith, h))
row_of-append (None ∷ ps) qs (x ∷ xs) ys h = row_of-append ps qs xs ys (omega (arith, h))
row_of-append (Some p ∷ ps) qs (None ∷ xs) ys h = row_of-append ps qs xs ys (omega (arith, h))
row_of-append (Some p ∷ ps) qs (Some v ∷ xs) ys h = ap (λ row. record { name = p.name; value = v } ∷ row) (row_of-append ps qs xs ys (omega (arith, h)))

pub fits-append : (ps qs : List (Option Column)) (xs ys : List (Option Value)) → fits ps xs ≡ true → fits qs ys ≡ true → fits (ps ++ qs) (xs ++ ys) ≡ true
fits-append [] qs [] ys h k = k
fits-append [] qs (x ∷ xs) ys h k = absurd (true≢false (sym h))
fits-append (None ∷ ps) qs [] ys h k = absurd (true≢false (sym h))
fits-append (Some p ∷ ps) qs [] ys h k = absurd (true≢false (sym h))
fits-append (None ∷ ps) qs (x ∷ xs) ys h k = fits-append ps qs xs ys h k
fits-append (Some p ∷ ps) qs (None ∷ xs) ys h k = absurd (true≢false (sym h))
fits-append (Some p ∷ ps) qs (Some v ∷ xs) ys h k = both _ _ (and_first _ _ h) (fits-append ps qs xs ys (and_second (same_kind (kind_of v) p.kind) _ h) k)

none_step : (c : List ℕ) (k : VColumn) (ks : List VColumn) (x : Option Value) (xs : List (Option Value)) (there : Bool) → satisfies c k.cond ≡ there → columns_at c (k ∷ ks) ≡ [] → (columns_at c ks ≡ [] → fits (map (column_at c) ks) xs ≡ true) → fits (map (column_at c) (k ∷ ks)) (x ∷ xs) ≡ true
none_step c k ks x xs true is h rest = absurd (cc (rw is at h))
none_step c k ks x xs false is h rest = rw is (rest (rw is at h))

-- where no column is there, every row of the right length is filled
none_fits : (c : List ℕ) (ks : List VColumn) (xs : List (Option Value)) → length xs ≡ length ks → columns_at c ks ≡ [] → fits (map (column_at c) ks) xs ≡ true
none_fits c [] [] long h = refl
none_fits c [] (x ∷ xs) long h = absurd (omega (arith, long))
none_fits c (k ∷ ks) [] long h = absurd (omega (arith, long))
none_fits c (k ∷ ks) (x ∷ xs) long h = none_step c k ks x xs (satisfies c k.cond) refl h (none_fits c ks xs (omega (arith, long)))

empty_step : (c : List ℕ) (ks : List VColumn) (row : VRow) (rows : List VRow) (there : Bool) → satisfies c row.cond ≡ there → fits (map (column_at c) ks) row.cells ≡ true → are_filled c ks rows ≡ true → are_filled c ks (row ∷ rows) ≡ true
empty_step c ks row rows true is fit rest = rw is (both _ _ fit rest)
empty_step c ks row rows false is fit rest = rw is rest

pub empty_filled : (c : List ℕ) (ks : List VColumn) (rows : List VRow) → columns_at c ks ≡ [] → are_whole (length ks) rows ≡ true → are_filled c ks rows ≡ true
empty_filled c ks [] h whole = refl
empty_filled c ks (row ∷ rows) h whole =
    empty_step c ks row rows (satisfies c row.cond) refl
    (none_fits c ks row.cells (eqb-true (length row.cells) (length ks) (and_first _ _ whole)) h)
    (empty_filled c ks rows h (and_second (length row.cells == length ks) _ whole))

pub ordered_none : (order : List Column) → in_order_of order [] ≡ []
ordered_none [] = refl
ordered_none (k ∷ ks) = ordered_none ks

-- without columns a relation is absent, whatever its rows
pub by_none : (order columns : List Column) (xs ys : List (List Cell)) → columns ≡ [] → relation_by (in_order_of order columns) xs ≡ relation_by (in_order_of order []) ys
by_none order columns xs ys h = ap (λ k. relation_by (in_order_of order k) xs) h ∙ ap (λ k. relation_by k xs) (ordered_none order) ∙ sym (ap (λ k. relation_by k ys) (ordered_none order))
