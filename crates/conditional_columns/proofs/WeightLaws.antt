-- The lists that the forms of a query make weigh no more than the forms' bounds.
use Rattle.std.proofs.Common.{◌≡◌, ℕ, ◌+◌, ◌*◌, ◌≤◌, max, List, [], ◌∷◌, ◌++◌, map, length, refl, sym, subst, arith, true, false, Bool, ap, ◌∙◌, if◌then◌else◌}
use Rattle.std.specs.Prelude.{◌==◌}
use Rattle.std.specs.List.{sum_by}
use Rattle.std.proofs.lemmas.List.{length-map}
use Rattle.std.proofs.lemmas.List.Sums.{sum_by-cons}
use Rattle.std.proofs.lemmas.Nat.{mul-le}
use Rattle.feature_expr.specs.Expressions.{not_of, weight_of}
use Rattle.feature_expr.specs.declared.expr.Expr.{Expr, out-Expr}
use Rattle.feature_expr.specs.declared.expr.Expr as e
use Rattle.vra_syntax.specs.declared.items.Item.{Item}
use Rattle.relational_algebra.specs.Columns.{aliased, once, prefixed}
use Rattle.relational_algebra.specs.Items.{given}
use Rattle.query_meaning.specs.Bounds.{Size, aliased_size, chosen_size, cond_or_true, item_weight, joined_column_weight, listed_size, names_in, united_size, ways}
use Rattle.query_meaning.specs.Typing.{columns_weight, heading, headings}
use Rattle.query_meaning.specs.declared.typed.TypedColumn.{TypedColumn}
use Rattle.query_meaning.proofs.ColumnSets.{distinct_from_once, once_distinct}
use Rattle.std.proofs.lemmas.Bool.Decides.{Decides-eqb}
use Rattle.conditional_columns.specs.ColumnLists.{behind_alias, columns_cost, given_under, has_the_name, settled, under, with_name}
use Rattle.conditional_columns.specs.FormLists.{chosen_list, item_columns, joined_list, kept_list, united_list}
use Rattle.conditional_columns.proofs.Connectives.{not_weighs, weighs_one}
use Rattle.conditional_columns.proofs.FewLaws.{three_at_most}
use Rattle.conditional_columns.proofs.ListLaws as lists
use Rattle.conditional_columns.proofs.ListLaws.{alias_headings, cost-append, given_weight, picked_weight, under_False, under_cost, weighs_each, weighs_some}
use Rattle.conditional_columns.proofs.WaysLaws.{some_names, still_distinct}
use Rattle.conditional_columns.proofs.SettleLaws.{settled_cost, settled_length}

as_many : (ks : List TypedColumn) → length (headings ks) ≡ length ks
as_many ks = length-map ks heading

pub union_weight : (l r : Size) (ls rs : List TypedColumn) → columns_weight ls ≤ l.column_weight → columns_weight rs ≤ r.column_weight → columns_weight (settled (united_list ls rs)) ≤ (united_size (headings ls) (headings rs) l r).column_weight
union_weight l r ls rs left right =
    let cost = settled_cost (ls ++ rs) in
    let parts = cost-append ls rs in
    let a = as_many ls in
    let b = as_many rs in
    omega (arith, cost, parts, a, b, left, right)

under_times : (expr : Expr) (ks : List TypedColumn) (w : ℕ) → weight_of expr ≤ w → columns_cost (map (under expr) ks) ≤ columns_cost ks + length ks * w + length ks
under_times expr ks w most =
    let cost = under_cost expr ks in
    let times = mul-le (length ks) (weight_of expr) (length ks) w (omega arith) most in
    let same = length-map ks (under expr) in
    omega (arith, cost, times, same)

pub choice_weight : (expr : Expr) (l r : Size) (ls rs : List TypedColumn) → columns_weight ls ≤ l.column_weight → columns_weight rs ≤ r.column_weight → columns_weight (settled (chosen_list expr ls rs)) ≤ (chosen_size (headings ls) (headings rs) expr l r).column_weight
choice_weight expr l r ls rs left right =
    let w = weight_of expr in
    let cost = settled_cost (chosen_list expr ls rs) in
    let parts = cost-append (map (under expr) ls) (map (under (not_of expr)) rs) in
    let front = under_times expr ls w (omega arith) in
    let back = under_times (not_of expr) rs (w + 1) (not_weighs expr) in
    let a = as_many ls in
    let b = as_many rs in
    let bound : columns_cost ls + length ls * w + length ls + (columns_cost rs + length rs * (w + 1) + length rs) ≤ l.column_weight + r.column_weight + (length ls + length rs) * (2 * w + 5) = sums l.column_weight r.column_weight (columns_weight ls) (columns_weight rs) (length ls) (length rs) w left right in
    rw (a, b) (omega (arith, cost, parts, front, back, bound))
  where
    sums : (k m x y p q w : ℕ) → x ≤ k → y ≤ m → (x + p) + p * w + p + ((y + q) + q * (w + 1) + q) ≤ k + m + (p + q) * (2 * w + 5)
    sums k m x y p q w h i = omega arith

-- a side of a join under the other side's presence
side_weight : (any : Expr) (ks others : List TypedColumn) → weight_of any + 1 ≤ max 2 (columns_cost others) → (others ≡ [] → any ≡ e.False) → columns_cost (map (under any) ks) ≤ columns_cost ks + length ks * (columns_weight others + length others)
side_weight any ks [] small never =
    let less = subst (λ (x : Expr). columns_weight (map (under x) ks) ≤ columns_weight ks) (sym (never refl)) (under_False ks) in
    let same = length-map ks (under any) in
    omega (arith, less, same)
side_weight any ks (x ∷ others) small never =
    let cost = under_cost any ks in
    let same = length-map ks (under any) in
    let most : weight_of any + 1 ≤ columns_weight (x ∷ others) + length (x ∷ others) = let some = weighs_some x others in omega (arith, some, small) in
    let times : length ks * weight_of any + length ks ≤ length ks * (columns_weight (x ∷ others) + length (x ∷ others)) = next (length ks) (weight_of any) (columns_weight (x ∷ others) + length (x ∷ others)) most in
    omega (arith, cost, same, times)
  where
    next : (n w m : ℕ) → w + 1 ≤ m → n * w + n ≤ n * m
    next n w m h = let p = mul-le n (w + 1) n m (omega arith) h in omega (arith, p)

pub join_weight : (l r : Size) (any_left any_right : Expr) (ls rs : List TypedColumn) → columns_weight ls ≤ l.column_weight → columns_weight rs ≤ r.column_weight
    → weight_of any_left + 1 ≤ max 2 (columns_cost ls) → (ls ≡ [] → any_left ≡ e.False) → weight_of any_right + 1 ≤ max 2 (columns_cost rs) → (rs ≡ [] → any_right ≡ e.False)
    → columns_weight (settled (joined_list any_left any_right ls rs)) ≤ joined_column_weight (headings ls) (headings rs) l r
join_weight l r any_left any_right ls rs left right small_left none_left small_right none_right =
    let cost = settled_cost (joined_list any_left any_right ls rs) in
    let parts = cost-append (map (under any_right) ls) (map (under any_left) rs) in
    let front = side_weight any_right ls rs small_right none_right in
    let back = side_weight any_left rs ls small_left none_left in
    let a = as_many ls in
    let b = as_many rs in
    let one = mul-le (length ls) (columns_weight rs + length rs) (length ls) (r.column_weight + length rs) (omega arith) (omega (arith, right)) in
    let other = mul-le (length rs) (columns_weight ls + length ls) (length rs) (l.column_weight + length ls) (omega arith) (omega (arith, left)) in
    rw (a, b) (omega (arith, cost, parts, front, back, one, other, left, right))

-- what one item keeps, each name and kind of the source standing once
item_cost : (k : ℕ) (ks : List TypedColumn) (item : Item) → once (headings ks) ≡ headings ks → columns_weight ks ≤ k → columns_cost (item_columns ks item) ≤ item_weight k item
item_cost k ks item each within =
    let some = with_name item.column ks in
    let few = three_at_most item.column ks each in
    let cost = under_cost (cond_or_true item.cond) some in
    let same = given_weight (given item) (cond_or_true item.cond) some in
    let count = length-map some (given_under (given item) (cond_or_true item.cond)) in
    let weigh = picked_weight (has_the_name item.column) ks in
    let times = mul-le (length some) (weight_of (cond_or_true item.cond)) 3 (weight_of (cond_or_true item.cond)) few (omega arith) in
    let one = weighs_one (cond_or_true item.cond) in
    omega (arith, few, cost, same, count, weigh, times, within, one)

items_cost : (k : ℕ) (ks : List TypedColumn) (items : List Item) → once (headings ks) ≡ headings ks → columns_weight ks ≤ k → columns_cost (kept_list ks items) ≤ sum_by (item_weight k) items
items_cost k ks [] each within = omega arith
items_cost k ks (item ∷ items) each within =
    let parts = cost-append (item_columns ks item) (kept_list ks items) in
    let one = item_cost k ks item each within in
    let rest = items_cost k ks items each within in
    let whole = sum_by-cons (item_weight k) item items in
    omega (arith, parts, one, rest, whole)

pub select_weight : (k : ℕ) (ks : List TypedColumn) (items : List Item) → once (headings ks) ≡ headings ks → columns_weight ks ≤ k → columns_weight (settled (kept_list ks items)) ≤ sum_by (item_weight k) items
select_weight k ks items each within = let cost = settled_cost (kept_list ks items) in let most = items_cost k ks items each within in omega (arith, cost, most)

-- an alias

alias_length : (alias : List ℕ) (ks : List TypedColumn) → length (map (behind_alias alias) ks) ≡ length ks
alias_length alias ks = length-map ks (behind_alias alias)

alias_same : (alias : List ℕ) (ks : List TypedColumn) → once (aliased alias (headings ks)) ≡ aliased alias (headings ks) → columns_weight (settled (map (behind_alias alias) ks)) ≤ columns_weight ks
alias_same alias ks each =
    let list = map (behind_alias alias) ks in
    let cost = settled_cost list in
    let weight = lists.alias_weight alias ks in
    let count = settled_length list (ap once (alias_headings alias ks) ∙ each ∙ sym (alias_headings alias ks)) in
    omega (arith, cost, weight, count)

alias_many : (alias : List ℕ) (k : ℕ) (ks : List TypedColumn) → columns_weight ks ≤ k → columns_weight (settled (map (behind_alias alias) ks)) ≤ length (map (prefixed alias) (names_in (headings ks))) * (12 + 2 * k)
alias_many alias k [] within = omega arith
alias_many alias k (x ∷ ks) within =
    let all = x ∷ ks in
    let cost = settled_cost (map (behind_alias alias) all) in
    let weight = lists.alias_weight alias all in
    let count = alias_length alias all in
    let each = weighs_each all in
    let some = some_names (heading x) (headings ks) in
    let same = length-map (names_in (headings all)) (prefixed alias) in
    let times = mul-le 1 (12 + 2 * k) (length (map (prefixed alias) (names_in (headings all)))) (12 + 2 * k) (omega (arith, some, same)) (omega arith) in
    omega (arith, cost, weight, count, each, times, within)

alias_by : (b : Bool) (alias : List ℕ) (x : Size) (ks : List TypedColumn) → (ways (map (prefixed alias) (names_in (headings ks))) == 1) ≡ b → once (headings ks) ≡ headings ks → columns_weight ks ≤ x.column_weight
    → columns_weight (settled (map (behind_alias alias) ks)) ≤ (if b then x else listed_size (map (prefixed alias) (names_in (headings ks))) (length (map (prefixed alias) (names_in (headings ks))) * (12 + 2 * x.column_weight)) x).column_weight
alias_by true alias x ks is each within =
    let one : ways (map (prefixed alias) (names_in (headings ks))) ≡ 1 = (Decides-eqb (ways (map (prefixed alias) (names_in (headings ks)))) 1).0 is in
    let same = alias_same alias ks (once_distinct (aliased alias (headings ks)) (still_distinct alias (headings ks) (distinct_from_once (headings ks) each) one)) in
    omega (arith, same, within)
alias_by false alias x ks is each within = alias_many alias x.column_weight ks within

pub alias_weight : (alias : List ℕ) (x : Size) (ks : List TypedColumn) → once (headings ks) ≡ headings ks → columns_weight ks ≤ x.column_weight → columns_weight (settled (map (behind_alias alias) ks)) ≤ (aliased_size (headings ks) alias x).column_weight
alias_weight alias x ks each within = alias_by (ways (map (prefixed alias) (names_in (headings ks))) == 1) alias x ks refl each within
