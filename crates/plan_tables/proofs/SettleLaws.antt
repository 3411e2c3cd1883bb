-- Columns put together: each pair of name and kind once, and there in just the variants in which one of them is.
use Rattle.std.proofs.Common.{◌≡◌, ◌∙◌, ℕ, Bool, true, false, ◌||◌, List, [], ◌∷◌, ◌++◌, fold, if◌then◌else◌, refl, sym, ap, ap₂, true≢false, ◌&&◌, inl, inr}
use Rattle.std.proofs.lemmas.List.{map-append}
use Rattle.std.proofs.lemmas.List.Elements.{filter-append}
use Rattle.feature_expr.specs.Same.{same_expr}
use Rattle.feature_expr.specs.SameLaws.{same_yes}
use Rattle.feature_expr.specs.Satisfaction.{satisfies, holds_at}
use Rattle.feature_expr.specs.declared.expr.Expr.{Expr, fold-Expr, map-Expr, out-Expr}
use Rattle.feature_expr.specs.declared.expr.Expr.TheFolds.{fold_out-Expr}
use Rattle.feature_expr.specs.declared.expr.Expr.TheOpen.{Expr-F}
use Rattle.feature_expr.specs.declared.expr.Expr as e
use Rattle.plain_relation.specs.Relations.{Column}
use Rattle.relational_algebra.specs.Columns.{among, in_order_of, once, same_column, with_column}
use Rattle.row_conditions.proofs.BoolLaws.{and_first, and_second, or_assoc, or_cases, or_false, or_start}
use Rattle.row_conditions.proofs.FoldingLaws.{and_holds, or_holds, holds_False}
use Rattle.plan_tables.proofs.MemberLaws.{once_parts, same_back}
use Rattle.plan_tables.proofs.OnceLaws.{and_once_holds}
use Rattle.plan_tables.proofs.StandLaws.{columns_at-append}
use Rattle.plan_tables.specs.Tables.{heading, any_of, column_cond, columns_at, columns_under, has_side, headings, is_within, once_each, or_once, settled, settled_column, side_layer, with_column_cond, with_settled}
use Rattle.vtable.specs.declared.table.VColumn.{VColumn}

same_is : (one other : Expr) → same_expr one other ≡ true → one ≡ other
same_is one other h = same_yes one other h

side_holds : (c : List ℕ) (cond expr : Expr) (x : Expr-F Expr) → out-Expr expr ≡ x → side_layer cond x ≡ true → satisfies c expr ≡ true → satisfies c cond ≡ true
side_holds c cond expr Expr-F.False is h k = absurd (true≢false (sym h))
side_holds c cond expr Expr-F.True is h k = absurd (true≢false (sym h))
side_holds c cond expr (Expr-F.Feature i) is h k = absurd (true≢false (sym h))
side_holds c cond expr (Expr-F.Not inner) is h k = absurd (true≢false (sym h))
side_holds c cond expr (Expr-F.And l r) is h k =
    let parts : (satisfies c l && satisfies c r) ≡ true = sym (fold_out-Expr Bool (holds_at c) expr ∙ ap (λ y. holds_at c (map-Expr Expr Bool (fold-Expr Bool (holds_at c)) y)) is) ∙ k in
    elim (or_cases (same_expr cond l) (same_expr cond r) h) [
      | inl here ↦ ap (satisfies c) (same_is cond l here) ∙ and_first _ _ parts
      | inr there ↦ ap (satisfies c) (same_is cond r there) ∙ and_second (satisfies c l) _ parts
    ]
side_holds c cond expr (Expr-F.Or l r) is h k = absurd (true≢false (sym h))

-- what is a condition, or a conjunction with it, holds only where the condition does
within_holds : (c : List ℕ) (cond expr : Expr) → is_within cond expr ≡ true → satisfies c expr ≡ true → satisfies c cond ≡ true
within_holds c cond expr h k = elim (or_cases (same_expr cond expr) (has_side cond expr) h) [
  | inl same ↦ ap (satisfies c) (same_is cond expr same) ∙ k
  | inr side ↦ side_holds c cond expr (out-Expr expr) refl side k
]

left_absorbs : (a b : Bool) → (b ≡ true → a ≡ true) → a ≡ (a || b)
left_absorbs true b f = refl
left_absorbs false true f = f refl
left_absorbs false false f = refl

right_absorbs : (a b : Bool) → (a ≡ true → b ≡ true) → b ≡ (a || b)
right_absorbs true b f = f refl
right_absorbs false b f = refl

once_step : (c : List ℕ) (l r : Expr) (first second : Bool) → is_within l r ≡ first → is_within r l ≡ second → satisfies c (or_once l r) ≡ (satisfies c l || satisfies c r)
once_step c l r true second is is_second = rw is (left_absorbs (satisfies c l) (satisfies c r) (within_holds c l r is))
once_step c l r false true is is_second = rw (is, is_second) (right_absorbs (satisfies c l) (satisfies c r) (within_holds c r l is_second))
once_step c l r false false is is_second = rw (is, is_second) (or_holds c l r)

pub once_holds : (c : List ℕ) (l r : Expr) → satisfies c (or_once l r) ≡ (satisfies c l || satisfies c r)
once_holds c l r = once_step c l r (is_within l r) (is_within r l) refl refl

-- whether there is a column
abbrev pub is_some_column : List Column → Bool
is_some_column [] = false
is_some_column (x ∷ xs) = true

module _ (c : List ℕ) where
  cond_step : (key : Column) (out : Expr) (x : VColumn) (xs : List VColumn) (same there : Bool) → same_column key (heading x) ≡ same → satisfies c x.cond ≡ there → (satisfies c (with_column_cond key out x) || among key (columns_at c xs)) ≡ (satisfies c out || among key (columns_at c (x ∷ xs)))
  cond_step key out x xs false true is there = rw (is, there) (rw is refl)
  cond_step key out x xs false false is there = rw (is, there) refl
  cond_step key out x xs true true is there = rw (is, there) (rw is (ap (λ b. b || among key (columns_at c xs)) (once_holds c out x.cond ∙ ap (λ b. satisfies c out || b) there) ∙ or_assoc (satisfies c out) true (among key (columns_at c xs))))
  cond_step key out x xs true false is there = rw (is, there) (ap (λ b. b || among key (columns_at c xs)) (once_holds c out x.cond ∙ ap (λ b. satisfies c out || b) there ∙ or_false (satisfies c out)))

  cond_from : (key : Column) (out : Expr) (xs : List VColumn) → satisfies c (fold (with_column_cond key) out xs) ≡ (satisfies c out || among key (columns_at c xs))
  cond_from key out [] = sym (or_false (satisfies c out))
  cond_from key out (x ∷ xs) = cond_from key (with_column_cond key out x) xs ∙ cond_step key out x xs (same_column key (heading x)) (satisfies c x.cond) refl refl

  pub cond_holds : (key : Column) (xs : List VColumn) → satisfies c (column_cond key xs) ≡ among key (columns_at c xs)
  cond_holds key xs = cond_from key e.False xs ∙ ap (λ b. b || among key (columns_at c xs)) (holds_False c)

  any_step : (out : Expr) (x : VColumn) (xs : List VColumn) (there : Bool) → satisfies c x.cond ≡ there → (satisfies c (or_once out x.cond) || is_some_column (columns_at c xs)) ≡ (satisfies c out || is_some_column (columns_at c (x ∷ xs)))
  any_step out x xs true there = rw there (ap (λ b. b || is_some_column (columns_at c xs)) (once_holds c out x.cond ∙ ap (λ b. satisfies c out || b) there) ∙ or_assoc (satisfies c out) true (is_some_column (columns_at c xs)))
  any_step out x xs false there = rw there (ap (λ b. b || is_some_column (columns_at c xs)) (once_holds c out x.cond ∙ ap (λ b. satisfies c out || b) there ∙ or_false (satisfies c out)))

  any_from : (out : Expr) (xs : List VColumn) → satisfies c (fold (λ out (column : VColumn). or_once out column.cond) out xs) ≡ (satisfies c out || is_some_column (columns_at c xs))
  any_from out [] = sym (or_false (satisfies c out))
  any_from out (x ∷ xs) = any_from (or_once out x.cond) xs ∙ any_step out x xs (satisfies c x.cond) refl

  pub any_holds : (xs : List VColumn) → satisfies c (any_of xs) ≡ is_some_column (columns_at c xs)
  any_holds xs = any_from e.False xs ∙ ap (λ b. b || is_some_column (columns_at c xs)) (holds_False c)

  under_step : (cond : Expr) (x : VColumn) (xs : List VColumn) (here there : Bool) → satisfies c cond ≡ here → satisfies c x.cond ≡ there → columns_at c (columns_under cond xs) ≡ (if here then columns_at c xs else []) → columns_at c (columns_under cond (x ∷ xs)) ≡ (if here then columns_at c (x ∷ xs) else [])
  under_step cond x xs true true h k rest = rw (and_once_holds c x.cond cond, h, k) (ap (λ ys. heading x ∷ ys) rest)
  under_step cond x xs true false h k rest = rw (and_once_holds c x.cond cond, h, k) rest
  under_step cond x xs false true h k rest = rw (and_once_holds c x.cond cond, h, k) rest
  under_step cond x xs false false h k rest = rw (and_once_holds c x.cond cond, h, k) rest

  -- the columns of a side that is chosen
  pub under_is : (cond : Expr) (xs : List VColumn) (here : Bool) → satisfies c cond ≡ here → columns_at c (columns_under cond xs) ≡ (if here then columns_at c xs else [])
  under_is cond [] true h = refl
  under_is cond [] false h = refl
  under_is cond (x ∷ xs) here h = under_step cond x xs here (satisfies c x.cond) h refl (under_is cond xs here h)

  at_one : (x : VColumn) (there : Bool) → satisfies c x.cond ≡ there → columns_at c (x ∷ []) ≡ (if there then heading x ∷ [] else [])
  at_one x true h = rw h refl
  at_one x false h = rw h refl

  filter_one : (X : List Column) (k : Column) (kept : Bool) → among k X ≡ kept → in_order_of (k ∷ []) X ≡ (if kept then k ∷ [] else [])
  filter_one X k true h = rw h refl
  filter_one X k false h = rw h refl

  module _ (all : List VColumn) where
    settled_step : (out : List VColumn) (x : VColumn) (has : Bool) → among (heading x) (headings out) ≡ has → columns_at c out ≡ in_order_of (headings out) (columns_at c all) → columns_at c (with_settled all out x) ≡ in_order_of (with_column (headings out) (heading x)) (columns_at c all)
    settled_step out x true is h = rw is h
    settled_step out x false is h = rw is (
        columns_at-append c out (settled_column all x ∷ [])
        ∙ ap₂ (λ xs ys. xs ++ ys) h (
        at_one (settled_column all x) (among (heading x) (columns_at c all)) (cond_holds (heading x) all)
        ∙ sym (filter_one (columns_at c all) (heading x) (among (heading x) (columns_at c all)) refl)
        )
        ∙ sym (filter-append (λ column. among column (columns_at c all)) (headings out) (heading x ∷ []))
        )

    headings_step : (out : List VColumn) (x : VColumn) (has : Bool) → among (heading x) (headings out) ≡ has → headings (with_settled all out x) ≡ with_column (headings out) (heading x)
    headings_step out x true is = rw is refl
    headings_step out x false is = rw is (map-append heading out (settled_column all x ∷ []))

    headings_from : (out xs : List VColumn) → headings (fold (with_settled all) out xs) ≡ fold with_column (headings out) (headings xs)
    headings_from out [] = refl
    headings_from out (x ∷ xs) = headings_from (with_settled all out x) xs ∙ ap (λ ys. fold with_column ys (headings xs)) (headings_step out x (among (heading x) (headings out)) refl)

    settled_from : (out xs : List VColumn) → columns_at c out ≡ in_order_of (headings out) (columns_at c all) → columns_at c (fold (with_settled all) out xs) ≡ in_order_of (fold with_column (headings out) (headings xs)) (columns_at c all)
    settled_from out [] h = h
    settled_from out (x ∷ xs) h =
        settled_from (with_settled all out x) xs (
        settled_step out x (among (heading x) (headings out)) refl h
        ∙ ap (λ ys. in_order_of ys (columns_at c all)) (sym (headings_step out x (among (heading x) (headings out)) refl))
        )
        ∙ ap (λ ys. in_order_of (fold with_column ys (headings xs)) (columns_at c all)) (headings_step out x (among (heading x) (headings out)) refl)

pub settled_headings : (all : List VColumn) → headings (settled all) ≡ once (headings all)
settled_headings all = headings_from [] all [] all

pub settled_at : (c : List ℕ) (all : List VColumn) → columns_at c (settled all) ≡ in_order_of (once (headings all)) (columns_at c all)
settled_at c all = settled_from c all [] all refl

pub headings_under : (cond : Expr) (columns : List VColumn) → headings (columns_under cond columns) ≡ headings columns
headings_under cond [] = refl
headings_under cond (x ∷ xs) = ap (λ ys. heading x ∷ ys) (headings_under cond xs)

-- ---- each column once

append_lacks : (x k : Column) (xs : List Column) → among x xs ≡ false → same_column x k ≡ false → among x (xs ++ k ∷ []) ≡ false
append_lacks x k [] h other = rw other refl
append_lacks x k (y ∷ ys) h other = lacks_both (same_column x y) (among x ys) (among x (ys ++ k ∷ [])) h (λ rest. append_lacks x k ys rest other) where
  lacks_both : (a b d : Bool) → (a || b) ≡ false → (b ≡ false → d ≡ false) → (a || d) ≡ false
  lacks_both true b d h f = h
  lacks_both false b d h f = f h

other_back : (x k : Column) (xs : List Column) (same : Bool) → among k (x ∷ xs) ≡ false → same_column x k ≡ same → same_column x k ≡ false
other_back x k xs false h is = is
other_back x k xs true h is = absurd (true≢false (sym (or_start (same_column k x) (among k xs) (same_back x k is)) ∙ h))

tail_lacks : (a b : Bool) → (a || b) ≡ false → b ≡ false
tail_lacks true b h = absurd (true≢false h)
tail_lacks false b h = h

once_cons : (x : Column) (xs : List Column) → among x xs ≡ false → once_each xs ≡ true → once_each (x ∷ xs) ≡ true
once_cons x xs lacks rest = rw lacks rest

pub once_push : (xs : List Column) (k : Column) → once_each xs ≡ true → among k xs ≡ false → once_each (xs ++ k ∷ []) ≡ true
once_push [] k h lacks = refl
once_push (x ∷ xs) k h lacks =
    let parts = once_parts x xs h in
    once_cons x (xs ++ k ∷ []) (append_lacks x k xs parts.0 (other_back x k xs (same_column x k) lacks refl)) (once_push xs k parts.1 (tail_lacks (same_column k x) (among k xs) lacks))

with_once : (xs : List Column) (k : Column) (has : Bool) → among k xs ≡ has → once_each xs ≡ true → once_each (with_column xs k) ≡ true
with_once xs k true is h = rw is h
with_once xs k false is h = rw is (once_push xs k h is)

once_from : (out xs : List Column) → once_each out ≡ true → once_each (fold with_column out xs) ≡ true
once_from out [] h = h
once_from out (x ∷ xs) h = once_from (with_column out x) xs (with_once out x (among x out) refl h)

pub once_once : (xs : List Column) → once_each (once xs) ≡ true
once_once xs = once_from [] xs refl

pub settled_once : (all : List VColumn) → once_each (headings (settled all)) ≡ true
settled_once all = ap once_each (settled_headings all) ∙ once_once (headings all)
