-- How often a name and kind stands again, and what follows for the names that are repeated.
use Rattle.std.proofs.Common.{◌≡◌, ◌∙◌, ℕ, ◌+◌, ◌≤◌, ◌==◌, Bool, true, false, List, [], ◌∷◌, ◌++◌, fold, length, length-append, refl, sym, ap, true≢false, arith}
use Rattle.std.proofs.lemmas.Bool.{eqb-true}
use Rattle.std.proofs.lemmas.List.{length-map}
use Rattle.std.specs.List.{list_any}
use Rattle.values.specs.declared.column_name.ColName.{ColName}
use Rattle.plain_relation.specs.Relations.{Column, same_name}
use Rattle.query_meaning.specs.Bounds.{shared_count}
use Rattle.relational_algebra.specs.Columns.{among, once, same_column, with_column}
use Rattle.row_conditions.proofs.BoolLaws.{neither}
use Rattle.row_conditions.specs.RowConditions.{columns_weight}
use Rattle.plan_merges.proofs.CountLaws.{count-append, count_cons, one_if, some_rank}
use Rattle.plan_tables.proofs.MemberLaws.{column_is, once_parts, same_back}
use Rattle.plan_tables.proofs.SettleLaws.{settled_headings}
use Rattle.plan_tables.proofs.WeightLaws.{cost_is, settled_costs}
use Rattle.plan_merges.specs.Merges.{count_same, ranked, ranked_behind, repeated_names, with_name}
use Rattle.plan_tables.specs.Tables.{heading, headings, once_each, settled}
use Rattle.plan_merges.specs.declared.way.Ranked.{Ranked}
use Rattle.vtable.specs.declared.table.VColumn.{VColumn}

-- ---- columns of which each stands once

pub none_counted : (key : Column) (xs : List Column) → among key xs ≡ false → count_same key xs ≡ 0
none_counted key [] h = refl
none_counted key (x ∷ xs) h =
    let parts = neither (same_column key x) (among key xs) h in
    let one = count_cons key x xs false parts.0 in
    let rest = none_counted key xs parts.1 in
    omega (arith, one, rest)

once_step : (key x : Column) (xs : List Column) (same : Bool) → same_column key x ≡ same → among x xs ≡ false → count_same key xs ≤ 1 → count_same key (x ∷ xs) ≤ 1
once_step key x xs true is lacks rest =
    let one = count_cons key x xs true is in
    let none = none_counted key xs (ap (λ k. among k xs) (column_is key x is) ∙ lacks) in
    omega (arith, one, none)
once_step key x xs false is lacks rest = let one = count_cons key x xs false is in omega (arith, one, rest)

pub once_counted : (key : Column) (xs : List Column) → once_each xs ≡ true → count_same key xs ≤ 1
once_counted key [] once = omega arith
once_counted key (x ∷ xs) once =
    let parts = once_parts x xs once in
    once_step key x xs (same_column key x) refl parts.0 (once_counted key xs parts.1)

some_counted : (key : Column) (xs : List Column) → among key xs ≡ true → 1 ≤ count_same key xs
some_counted key [] h = absurd (true≢false (sym h))
some_counted key (x ∷ xs) h = step (same_column key x) refl (some_counted key xs) where
  step : (same : Bool) → same_column key x ≡ same → (among key xs ≡ true → 1 ≤ count_same key xs) → 1 ≤ count_same key (x ∷ xs)
  step true is rest = let one = count_cons key x xs true is in omega (arith, one)
  step false is rest = let one = count_cons key x xs false is in let r = rest (rw is at h) in omega (arith, one, r)

not_among : (key : Column) (xs : List Column) (has : Bool) → among key xs ≡ has → count_same key xs ≡ 0 → has ≡ false
not_among key xs false is none = refl
not_among key xs true is none = absurd (let some = some_counted key xs is in omega (arith, some, none))

-- ---- how often columns stand again

-- how often each of the first stands among the second
abbrev crossed : List Column → List Column → ℕ
crossed [] ys = 0
crossed (x ∷ xs) ys = count_same x ys + crossed xs ys

abbrev again : List Column → ℕ
again [] = 0
again (x ∷ xs) = count_same x xs + again xs

swapped : (one other : Column) (a b : Bool) → same_column one other ≡ a → same_column other one ≡ b → a ≡ b
swapped one other true true is back = refl
swapped one other false false is back = refl
swapped one other true false is back = absurd (true≢false (sym (same_back one other is) ∙ back))
swapped one other false true is back = absurd (true≢false (sym (same_back other one back) ∙ is))

crossed_push : (ys before : List Column) (x : Column) → crossed ys (before ++ x ∷ []) ≡ crossed ys before + count_same x ys
crossed_push [] before x = refl
crossed_push (y ∷ ys) before x =
    let rest = crossed_push ys before x in
    let a = count-append y before (x ∷ []) in
    let one = count_cons y x [] (same_column y x) refl in
    let other = count_cons x y ys (same_column x y) refl in
    let same = ap one_if (swapped y x (same_column y x) (same_column x y) refl refl) in
    omega (arith, rest, a, one, other, same)

abbrev rank_total : List Ranked → ℕ
rank_total [] = 0
rank_total (x ∷ xs) = x.rank + rank_total xs

total_is : (before : List Column) (ks : List VColumn) → rank_total (ranked_behind before ks) ≡ crossed (headings ks) before + again (headings ks)
total_is before [] = refl
total_is before (k ∷ ks) =
    let rest = total_is (before ++ heading k ∷ []) ks in
    let pushed = crossed_push (headings ks) before (heading k) in
    omega (arith, rest, pushed)

crossed_none : (xs : List Column) → crossed xs [] ≡ 0
crossed_none [] = refl
crossed_none (x ∷ xs) = let rest = crossed_none xs in omega (arith, rest)

again-append : (xs ys : List Column) → again (xs ++ ys) ≡ again xs + crossed xs ys + again ys
again-append [] ys = omega arith
again-append (x ∷ xs) ys =
    let rest = again-append xs ys in
    let a = count-append x xs ys in
    omega (arith, rest, a)

again_once : (xs : List Column) → once_each xs ≡ true → again xs ≡ 0
again_once [] once = refl
again_once (x ∷ xs) once =
    let parts = once_parts x xs once in
    let none = none_counted x xs parts.0 in
    let rest = again_once xs parts.1 in
    omega (arith, none, rest)

shared_step : (x : Column) (xs ys : List Column) (has : Bool) → among x ys ≡ has → once_each ys ≡ true → crossed xs ys ≤ shared_count xs ys → crossed (x ∷ xs) ys ≤ shared_count (x ∷ xs) ys
shared_step x xs ys true is once rest = rw is (let one = once_counted x ys once in omega (arith, one, rest))
shared_step x xs ys false is once rest = rw is (let none = none_counted x ys is in omega (arith, none, rest))

crossed_shared : (xs ys : List Column) → once_each ys ≡ true → crossed xs ys ≤ shared_count xs ys
crossed_shared [] ys once = omega arith
crossed_shared (x ∷ xs) ys once = shared_step x xs ys (among x ys) refl once (crossed_shared xs ys once)

-- ---- the names that are repeated

push_step : (names : List ColName) (x : Ranked) (first has : Bool) → (x.rank == 0) ≡ first → list_any (same_name x.column.name) names ≡ has → length (with_name names x) ≤ length names + x.rank
push_step names x true has is there = rw is (omega arith)
push_step names x false true is there = rw (is, there) (omega arith)
push_step names x false false is there =
    rw (is, there) (
    let a = length-append names (x.column.name ∷ []) in
    let some = some_rank x.rank false is refl in
    omega (arith, a, some))

names_few : (names : List ColName) (xs : List Ranked) → length (fold with_name names xs) ≤ length names + rank_total xs
names_few names [] = omega arith
names_few names (x ∷ xs) =
    let rest = names_few (with_name names x) xs in
    let one = push_step names x (x.rank == 0) (list_any (same_name x.column.name) names) refl refl in
    omega (arith, rest, one)

-- each of them is one that both sides have
pub repeated_shared : (a b : List Column) (ks : List VColumn) → headings ks ≡ a ++ b → once_each a ≡ true → once_each b ≡ true → length (repeated_names (ranked ks)) ≤ shared_count a b
repeated_shared a b ks is once_a once_b =
    let few = names_few [] (ranked ks) in
    let total = total_is [] ks in
    let none = crossed_none (headings ks) in
    let all = ap again is ∙ again-append a b in
    let l = again_once a once_a in
    let r = again_once b once_b in
    let shared = crossed_shared a b once_b in
    omega (arith, few, total, none, all, l, r, shared)

-- ---- where none is repeated, each column stands once

longer_step : (names : List ColName) (x : Ranked) (first has : Bool) → (x.rank == 0) ≡ first → list_any (same_name x.column.name) names ≡ has → length names ≤ length (with_name names x)
longer_step names x true has is there = rw is (omega arith)
longer_step names x false true is there = rw (is, there) (omega arith)
longer_step names x false false is there = rw (is, there) (let a = length-append names (x.column.name ∷ []) in omega (arith, a))

longer : (names : List ColName) (xs : List Ranked) → length names ≤ length (fold with_name names xs)
longer names [] = omega arith
longer names (x ∷ xs) =
    let rest = longer (with_name names x) xs in
    let one = longer_step names x (x.rank == 0) (list_any (same_name x.column.name) names) refl refl in
    omega (arith, rest, one)

zero_step : (names : List ColName) (x : Ranked) (xs : List Ranked) (first has : Bool) → (x.rank == 0) ≡ first → list_any (same_name x.column.name) names ≡ has → length (fold with_name names (x ∷ xs)) ≡ 0 → x.rank ≡ 0
zero_step names x xs true has is there none = eqb-true x.rank 0 is
zero_step names x xs false true is there none = absurd (some_name names has_some (let l = longer names xs in omega (arith, l, same, none)))
  where
    same : length (fold with_name names (x ∷ xs)) ≡ length (fold with_name names xs)
    same = rw (is, there) refl

    has_some : list_any (same_name x.column.name) names ≡ true
    has_some = there

    some_name : (names : List ColName) → list_any (same_name x.column.name) names ≡ true → length names ≡ 0 → ⊥
    some_name [] h none = true≢false (sym h)
    some_name (n ∷ ns) h none = omega (arith, none)
zero_step names x xs false false is there none = absurd (let l = longer (names ++ x.column.name ∷ []) xs in let a = length-append names (x.column.name ∷ []) in omega (arith, l, a, same, none))
  where
    same : length (fold with_name names (x ∷ xs)) ≡ length (fold with_name (names ++ x.column.name ∷ []) xs)
    same = rw (is, there) refl

no_ranks : (names : List ColName) (xs : List Ranked) → length (fold with_name names xs) ≡ 0 → rank_total xs ≡ 0
no_ranks names [] none = refl
no_ranks names (x ∷ xs) none =
    let one = zero_step names x xs (x.rank == 0) (list_any (same_name x.column.name) names) refl refl none in
    let rest = no_ranks (with_name names x) xs none in
    omega (arith, one, rest)

long_step : (out : List Column) (x : Column) (xs : List Column) (has : Bool) → among x out ≡ has → crossed (x ∷ xs) out + again (x ∷ xs) ≡ 0 → ((new : List Column) → crossed xs new + again xs ≡ 0 → length (fold with_column new xs) ≡ length new + length xs) → length (fold with_column out (x ∷ xs)) ≡ length out + length (x ∷ xs)
long_step out x xs true is none rest = absurd (true≢false (not_among x out true is (omega (arith, none))))
long_step out x xs false is none rest =
    rw is (
    let pushed = crossed_push xs out x in
    let later = rest (out ++ x ∷ []) (omega (arith, pushed, none)) in
    let a = length-append out (x ∷ []) in
    omega (arith, later, a))

as_long : (out xs : List Column) → crossed xs out + again xs ≡ 0 → length (fold with_column out xs) ≡ length out + length xs
as_long out [] none = omega arith
as_long out (x ∷ xs) none = long_step out x xs (among x out) refl none (λ new h. as_long new xs h)

pub unrepeated_weighs : (ks : List VColumn) → length (repeated_names (ranked ks)) ≡ 0 → columns_weight (settled ks) ≤ columns_weight ks
unrepeated_weighs ks none =
    let total = total_is [] ks in
    let zero = no_ranks [] (ranked ks) none in
    let long = as_long [] (headings ks) (omega (arith, total, zero)) in
    let same = ap length (settled_headings ks) in
    let a = length-map (settled ks) heading in
    let b = length-map ks heading in
    let most = settled_costs ks in
    let c = cost_is (settled ks) in
    let d = cost_is ks in
    omega (arith, long, same, a, b, most, c, d)
