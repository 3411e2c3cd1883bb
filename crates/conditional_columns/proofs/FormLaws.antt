-- The lists that the forms of a query make, settled, are in each variant the columns of the forms' plain types.
use Rattle.std.proofs.Common.{◌≡◌, ◌∙◌, ℕ, Bool, true, false, not, List, [], ◌∷◌, ◌++◌, map, Option, Some, None, refl, ap, if◌then◌else◌, filter}
use Rattle.std.specs.List.{flat_map}
use Rattle.std.proofs.lemmas.Bool.{or_from, or_parts}
use Rattle.feature_expr.specs.Expressions.{not_of}
use Rattle.feature_expr.specs.Satisfaction.{satisfies}
use Rattle.feature_expr.specs.declared.expr.Expr.{Expr}
use Rattle.plain_relation.specs.Relations.{Column}
use Rattle.vra_syntax.specs.declared.items.Item.{Item}
use Rattle.vra_syntax.specs.declared.items.Items.TheVariants.{Listed}
use Rattle.relational_algebra.specs.Columns.{aliased, among, both_sides, in_order_of, merged, named, once, renamed, same_column}
use Rattle.relational_algebra.specs.Items.{given, is_kept, kept, kept_by, kept_in_order, picked, possible_kept}
use Rattle.query_meaning.specs.Bounds.{cond_or_true}
use Rattle.query_meaning.specs.Typing.{columns_at, heading, headings}
use Rattle.query_meaning.specs.declared.typed.TypedColumn.{TypedColumn}
use Rattle.query_meaning.proofs.ColumnSets.{distinct, distinct_from_once, distinct_parts, order_cons, same_itself}
use Rattle.conditional_columns.specs.ColumnLists.{behind_alias, is_some_there, settled, under}
use Rattle.conditional_columns.specs.FormLists.{chosen_list, item_columns, joined_list, kept_list, united_list}
use Rattle.conditional_columns.proofs.Connectives.{holds_True, not_holds}
use Rattle.conditional_columns.proofs.ListLaws.{alias_at, alias_headings, columns_at-append, given_at, given_headings, headings-append, under_at, under_headings}
use Rattle.conditional_columns.proofs.SettleLaws.{settled_at, settled_headings}

-- a list that has these columns in the variant and these in all, settled
settled_as : (c : List ℕ) (list : List TypedColumn) (order columns : List Column) → once (headings list) ≡ order → columns_at c list ≡ columns → columns_at c (settled list) ≡ in_order_of order columns
settled_as c list order columns all there = settled_at c list ∙ ap (λ ks. in_order_of ks (columns_at c list)) all ∙ ap (in_order_of order) there

-- items

kept_if : (c : List ℕ) (cond : Option Expr) → satisfies c (cond_or_true cond) ≡ is_kept c cond
kept_if c None = holds_True c
kept_if c (Some cond) = refl

item_there : (c : List ℕ) (ks : List TypedColumn) (item : Item) → columns_at c (item_columns ks item) ≡ kept_by c (columns_at c ks) item
item_there c ks item =
    given_at c item.column (given item) (cond_or_true item.cond) ks
    ∙ ap (λ b. if b then map (renamed (given item)) (named item.column (columns_at c ks)) else []) (kept_if c item.cond)

items_there : (c : List ℕ) (ks : List TypedColumn) (items : List Item) → columns_at c (kept_list ks items) ≡ kept c (Listed items) (columns_at c ks)
items_there c ks [] = refl
items_there c ks (item ∷ items) =
    columns_at-append c (item_columns ks item) (kept_list ks items)
    ∙ ap (λ xs. xs ++ columns_at c (kept_list ks items)) (item_there c ks item) ∙ ap (λ xs. kept_by c (columns_at c ks) item ++ xs) (items_there c ks items)

items_headings : (ks : List TypedColumn) (items : List Item) → headings (kept_list ks items) ≡ flat_map (picked (headings ks)) items
items_headings ks [] = refl
items_headings ks (item ∷ items) =
    headings-append (item_columns ks item) (kept_list ks items)
    ∙ ap (λ xs. xs ++ headings (kept_list ks items)) (given_headings item.column (given item) (cond_or_true item.cond) ks) ∙ ap (λ xs. picked (headings ks) item ++ xs) (items_headings ks items)

pub select_possible : (ks : List TypedColumn) (items : List Item) → headings (settled (kept_list ks items)) ≡ possible_kept (Listed items) (headings ks)
select_possible ks items = settled_headings (kept_list ks items) ∙ ap once (items_headings ks items)

pub select_there : (c : List ℕ) (ks : List TypedColumn) (items : List Item) → columns_at c (settled (kept_list ks items)) ≡ kept_in_order (possible_kept (Listed items) (headings ks)) c (Listed items) (columns_at c ks)
select_there c ks items = settled_as c (kept_list ks items) (possible_kept (Listed items) (headings ks)) (kept c (Listed items) (columns_at c ks)) (ap once (items_headings ks items)) (items_there c ks items)

-- two sides

two_headings : (one other : Expr) (ls rs : List TypedColumn) → headings (map (under one) ls ++ map (under other) rs) ≡ headings ls ++ headings rs
two_headings one other ls rs =
    headings-append (map (under one) ls) (map (under other) rs)
    ∙ ap (λ xs. xs ++ headings (map (under other) rs)) (under_headings one ls) ∙ ap (λ xs. headings ls ++ xs) (under_headings other rs)

two_there : (c : List ℕ) (one other : Expr) (ls rs : List TypedColumn) → columns_at c (map (under one) ls ++ map (under other) rs) ≡ (if satisfies c one then columns_at c ls else []) ++ (if satisfies c other then columns_at c rs else [])
two_there c one other ls rs =
    columns_at-append c (map (under one) ls) (map (under other) rs)
    ∙ ap (λ xs. xs ++ columns_at c (map (under other) rs)) (under_at c one ls) ∙ ap (λ xs. (if satisfies c one then columns_at c ls else []) ++ xs) (under_at c other rs)

pub join_possible : (any_left any_right : Expr) (ls rs : List TypedColumn) → headings (settled (joined_list any_left any_right ls rs)) ≡ merged (headings ls) (headings rs)
join_possible any_left any_right ls rs = settled_headings (joined_list any_left any_right ls rs) ∙ ap once (two_headings any_right any_left ls rs)

both_there : (left right : List Column) → (if is_some_there right then left else []) ++ (if is_some_there left then right else []) ≡ both_sides left right
both_there [] [] = refl
both_there [] (r ∷ right) = refl
both_there (l ∷ left) [] = refl
both_there (l ∷ left) (r ∷ right) = refl

pub join_there : (c : List ℕ) (any_left any_right : Expr) (ls rs : List TypedColumn) → satisfies c any_left ≡ is_some_there (columns_at c ls) → satisfies c any_right ≡ is_some_there (columns_at c rs)
    → columns_at c (settled (joined_list any_left any_right ls rs)) ≡ in_order_of (merged (headings ls) (headings rs)) (both_sides (columns_at c ls) (columns_at c rs))
join_there c any_left any_right ls rs left right =
    settled_as c (joined_list any_left any_right ls rs) (merged (headings ls) (headings rs)) (both_sides (columns_at c ls) (columns_at c rs)) (ap once (two_headings any_right any_left ls rs))
    (two_there c any_right any_left ls rs
    ∙ ap (λ b. (if b then columns_at c ls else []) ++ (if satisfies c any_left then columns_at c rs else [])) right
    ∙ ap (λ b. (if is_some_there (columns_at c rs) then columns_at c ls else []) ++ (if b then columns_at c rs else [])) left
    ∙ both_there (columns_at c ls) (columns_at c rs))

pub union_possible : (ls rs : List TypedColumn) → headings (settled (united_list ls rs)) ≡ merged (headings ls) (headings rs)
union_possible ls rs = settled_headings (ls ++ rs) ∙ ap once (headings-append ls rs)

pub union_there : (c : List ℕ) (ls rs : List TypedColumn) → columns_at c (settled (united_list ls rs)) ≡ in_order_of (merged (headings ls) (headings rs)) (columns_at c ls ++ columns_at c rs)
union_there c ls rs = settled_as c (ls ++ rs) (merged (headings ls) (headings rs)) (columns_at c ls ++ columns_at c rs) (ap once (headings-append ls rs)) (columns_at-append c ls rs)

pub choice_possible : (expr : Expr) (ls rs : List TypedColumn) → headings (settled (chosen_list expr ls rs)) ≡ merged (headings ls) (headings rs)
choice_possible expr ls rs = settled_headings (chosen_list expr ls rs) ∙ ap once (two_headings expr (not_of expr) ls rs)

either_there : (b : Bool) (left right : List Column) → (if b then left else []) ++ (if not b then right else []) ≡ (if b then left else right)
either_there true [] right = refl
either_there true (l ∷ left) right = ap (λ xs. l ∷ xs) (either_there true left right)
either_there false left right = refl

pub choice_there : (c : List ℕ) (expr : Expr) (ls rs : List TypedColumn) → columns_at c (settled (chosen_list expr ls rs)) ≡ in_order_of (merged (headings ls) (headings rs)) (if satisfies c expr then columns_at c ls else columns_at c rs)
choice_there c expr ls rs =
    settled_as c (chosen_list expr ls rs) (merged (headings ls) (headings rs)) (if satisfies c expr then columns_at c ls else columns_at c rs) (ap once (two_headings expr (not_of expr) ls rs))
    (two_there c expr (not_of expr) ls rs
    ∙ ap (λ b. (if satisfies c expr then columns_at c ls else []) ++ (if b then columns_at c rs else [])) (not_holds c expr)
    ∙ either_there (satisfies c expr) (columns_at c ls) (columns_at c rs))

-- an alias

pub alias_possible : (alias : List ℕ) (ks : List TypedColumn) → headings (settled (map (behind_alias alias) ks)) ≡ once (aliased alias (headings ks))
alias_possible alias ks = settled_headings (map (behind_alias alias) ks) ∙ ap once (alias_headings alias ks)

pub alias_there : (c : List ℕ) (alias : List ℕ) (ks : List TypedColumn) → columns_at c (settled (map (behind_alias alias) ks)) ≡ in_order_of (once (aliased alias (headings ks))) (aliased alias (columns_at c ks))
alias_there c alias ks = settled_as c (map (behind_alias alias) ks) (once (aliased alias (headings ks))) (aliased alias (columns_at c ks)) (ap once (alias_headings alias ks)) (alias_at c alias ks)

-- what is left of a list

left_among : (test : TypedColumn → Bool) (ks : List TypedColumn) (x : Column) → among x (headings ks) ≡ false → among x (headings (filter test ks)) ≡ false
left_among test [] x new = refl
left_among test (k ∷ ks) x new = let apart = or_parts (same_column x (heading k)) (among x (headings ks)) new in kept (test k) apart.0 (left_among test ks x apart.1)
  where
    kept : (b : Bool) → same_column x (heading k) ≡ false → among x (headings (filter test ks)) ≡ false → among x (headings (if b then k ∷ filter test ks else filter test ks)) ≡ false
    kept true other rest = or_from (same_column x (heading k)) (among x (headings (filter test ks))) other rest
    kept false other rest = rest

left_ordered : (test : TypedColumn → Bool) (ks : List TypedColumn) → distinct (headings ks) ≡ true → headings (filter test ks) ≡ in_order_of (headings ks) (headings (filter test ks))
left_ordered test [] d = refl
left_ordered test (k ∷ ks) d = let parts = distinct_parts (heading k) (headings ks) d in kept (test k) parts.0 (left_among test ks (heading k) parts.0) (left_ordered test ks parts.1)
  where
    kept : (b : Bool) → among (heading k) (headings ks) ≡ false → among (heading k) (headings (filter test ks)) ≡ false → headings (filter test ks) ≡ in_order_of (headings ks) (headings (filter test ks))
        → headings (if b then k ∷ filter test ks else filter test ks) ≡ in_order_of (heading k ∷ headings ks) (headings (if b then k ∷ filter test ks else filter test ks))
    kept true new left rest = rw (same_itself (heading k)) (ap (λ hs. heading k ∷ hs) (rest ∙ order_cons (heading k) (headings ks) (headings (filter test ks)) new))
    kept false new left rest = rw (left) rest

pub left_in_order : (test : TypedColumn → Bool) (ks : List TypedColumn) → once (headings ks) ≡ headings ks → headings (filter test ks) ≡ in_order_of (headings ks) (headings (filter test ks))
left_in_order test ks each = left_ordered test ks (distinct_from_once (headings ks) each)
