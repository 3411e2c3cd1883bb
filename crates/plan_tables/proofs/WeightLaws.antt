-- What the conditions of rows and columns weigh, and those that are made of them.
use Rattle.std.proofs.Common.{◌≡◌, ◌∙◌, ℕ, ◌+◌, ◌*◌, ◌≤◌, Bool, true, false, ◌||◌, List, [], ◌∷◌, ◌++◌, fold, length, Option, Some, None, if◌then◌else◌, refl, sym, ap, subst, true≢false, arith, rules}
use Rattle.std.proofs.lemmas.List.{map-append}
use Rattle.std.proofs.lemmas.List.Sums.{sum_by-append, sum_by-cons}
use Rattle.std.specs.List.{cons_option, filter_map}
use Rattle.feature_expr.specs.Expressions.{and_left, and_of, not_of, or_of, weight_of}
use Rattle.feature_expr.specs.declared.expr.Expr.{Expr, out-Expr}
use Rattle.feature_expr.specs.declared.expr.Expr as e
use Rattle.feature_expr.specs.declared.expr.Expr.TheOpen.{Expr-F}
use Rattle.values.specs.declared.value.Value.{Value}
use Rattle.plain_relation.specs.Relations.{Column}
use Rattle.relational_algebra.specs.Columns.{among, same_column}
use Rattle.row_conditions.proofs.BoolLaws.{neither}
use Rattle.row_conditions.proofs.FoldingLaws.{and_weighs, or_weighs, weight_False, weight_True, weight_pos}
use Rattle.row_conditions.specs.RowConditions.{columns_weight}
use Rattle.plan_tables.proofs.MemberLaws.{among_first, column_is, once_parts, same_back}
use Rattle.plan_tables.proofs.OnceLaws.{once_adds}
use Rattle.plan_tables.proofs.SettleLaws.{settled_once}
use Rattle.plan_tables.specs.Tables.{heading, any_of, column_cond, columns_under, headings, is_false, is_within, once_each, or_once, row_under, settled, settled_column, with_column_cond, with_settled}
use Rattle.vtable.specs.TableForm.{rows_weight}
use Rattle.vtable.specs.declared.table.VColumn.{VColumn}
use Rattle.vtable.specs.declared.table.VRow.{VRow}

-- ---- constants

out_true : out-Expr e.True ≡ Expr-F.True
out_true = search (rules, e.the_lemmas)

out_false : out-Expr e.False ≡ Expr-F.False
out_false = search (rules, e.the_lemmas)

not_false : not_of e.False ≡ e.True
not_false = search (rules, e.the_lemmas)

pub or_none : (r : Expr) → or_of e.False r ≡ r
or_none r = rw out_false refl

right_true : (c : Expr) (x : Expr-F Expr) → weight_of (and_left c e.True x) ≤ weight_of c
right_true c Expr-F.True = let w = weight_True in let p = weight_pos c in omega (arith, w, p)
right_true c Expr-F.False = let w = weight_False in let p = weight_pos c in omega (arith, w, p)
right_true c (Expr-F.Feature i) = rw out_true (omega arith)
right_true c (Expr-F.Not inner) = rw out_true (omega arith)
right_true c (Expr-F.And a b) = rw out_true (omega arith)
right_true c (Expr-F.Or a b) = rw out_true (omega arith)

pub and_True : (c : Expr) → weight_of (and_of c e.True) ≤ weight_of c
and_True c = right_true c (out-Expr c)

right_none : (c : Expr) (x : Expr-F Expr) → and_left c e.False x ≡ e.False
right_none c Expr-F.True = refl
right_none c Expr-F.False = refl
right_none c (Expr-F.Feature i) = rw out_false refl
right_none c (Expr-F.Not inner) = rw out_false refl
right_none c (Expr-F.And a b) = rw out_false refl
right_none c (Expr-F.Or a b) = rw out_false refl

and_none : (c : Expr) → and_of c e.False ≡ e.False
and_none c = right_none c (out-Expr c)

and_False : (c : Expr) → weight_of (and_of c e.False) ≤ weight_of c
and_False c =
    let none = ap weight_of (and_none c) in
    let w = weight_False in
    let p = weight_pos c in
    omega (arith, none, w, p)

-- the negation of no condition adds nothing
pub and_not_False : (c : Expr) → weight_of (and_of c (not_of e.False)) ≤ weight_of c
and_not_False c = rw not_false (and_True c)

-- what is true nowhere isn't false anywhere
pub and_not_none : (c d : Expr) → weight_of (and_of c (not_of (and_of d e.False))) ≤ weight_of c
and_not_none c d = subst (λ x. weight_of (and_of c (not_of x)) ≤ weight_of c) (sym (and_none d)) (and_not_False c)

once_by : (l r : Expr) (first second : Bool) → is_within l r ≡ first → is_within r l ≡ second → weight_of (or_once l r) ≤ weight_of l + weight_of r + 1
once_by l r true second is is_second = rw is (omega arith)
once_by l r false true is is_second = rw (is, is_second) (omega arith)
once_by l r false false is is_second = rw (is, is_second) (or_weighs l r)

pub once_weighs : (l r : Expr) → weight_of (or_once l r) ≤ weight_of l + weight_of r + 1
once_weighs l r = once_by l r (is_within l r) (is_within r l) refl refl

first_by : (r : Expr) (first second : Bool) → is_within e.False r ≡ first → is_within r e.False ≡ second → weight_of (or_once e.False r) ≤ weight_of r
first_by r true second is is_second = rw is (let w = weight_False in let p = weight_pos r in omega (arith, w, p))
first_by r false true is is_second = rw (is, is_second) (omega arith)
first_by r false false is is_second = rw (is, is_second) (let n : weight_of (or_of e.False r) ≡ weight_of r = ap weight_of (or_none r) in omega (arith, n))

-- the first condition of a disjunction is taken as it is
pub once_first : (r : Expr) → weight_of (or_once e.False r) ≤ weight_of r
once_first r = first_by r (is_within e.False r) (is_within r e.False) refl refl

-- ---- columns

-- what they weigh, and one for each
abbrev pub columns_cost : List VColumn → ℕ
columns_cost [] = 0
columns_cost (k ∷ ks) = weight_of k.cond + 1 + columns_cost ks

pub cost_is : (ks : List VColumn) → columns_cost ks ≡ columns_weight ks + length ks
cost_is [] = refl
cost_is (k ∷ ks) =
    let rest = cost_is ks in
    let cons = sum_by-cons (λ (k : VColumn). weight_of k.cond) k ks in
    omega (arith, rest, cons)

pub cost-append : (xs ys : List VColumn) → columns_cost (xs ++ ys) ≡ columns_cost xs + columns_cost ys
cost-append [] ys = omega arith
cost-append (x ∷ xs) ys = let rest = cost-append xs ys in omega (arith, rest)

any_fold : (out : Expr) (ks : List VColumn) → weight_of (fold (λ out (column : VColumn). or_once out column.cond) out ks) ≤ weight_of out + columns_cost ks
any_fold out [] = omega arith
any_fold out (k ∷ ks) =
    let rest = any_fold (or_once out k.cond) ks in
    let here = once_weighs out k.cond in
    omega (arith, rest, here)

pub any_weighs : (ks : List VColumn) → weight_of (any_of ks) ≤ 1 + columns_cost ks
any_weighs ks = let all = any_fold e.False ks in let w = weight_False in omega (arith, all, w)

-- where some column is there, too
pub and_any : (c : Expr) (ks : List VColumn) → weight_of (and_of c (any_of ks)) ≤ weight_of c + columns_cost ks
and_any c [] = let n = and_False c in omega (arith, n)
and_any c (k ∷ ks) =
    let all = any_fold (or_once e.False k.cond) ks in
    let one = once_first k.cond in
    let both = and_weighs c (any_of (k ∷ ks)) in
    omega (arith, all, one, both)

-- a condition that adds so much at most to those of columns
pub under_weighs : (cond : Expr) (more : ℕ) → ((c : Expr) → weight_of (and_of c cond) ≤ weight_of c + more) → (ks : List VColumn) → columns_cost (columns_under cond ks) ≤ columns_cost ks + length ks * more
under_weighs cond more adds [] = omega arith
under_weighs cond more adds (k ∷ ks) =
    let rest = under_weighs cond more adds ks in
    let one = once_adds cond more adds k.cond in
    omega (arith, rest, one)

-- ---- columns of which each name and kind stands once

abbrev pub cost_if : Bool → VColumn → ℕ
cost_if b k = if b then weight_of k.cond + 1 else 0

-- what the columns of a name and kind weigh, and one for each
abbrev matched_cost : Column → List VColumn → ℕ
matched_cost key [] = 0
matched_cost key (k ∷ ks) = cost_if (same_column key (heading k)) k + matched_cost key ks

abbrev keys_cost : List Column → List VColumn → ℕ
keys_cost [] all = 0
keys_cost (key ∷ keys) all = matched_cost key all + keys_cost keys all

keys-append : (xs ys : List Column) (all : List VColumn) → keys_cost (xs ++ ys) all ≡ keys_cost xs all + keys_cost ys all
keys-append [] ys all = omega arith
keys-append (x ∷ xs) ys all = let rest = keys-append xs ys all in omega (arith, rest)

cond_step : (key : Column) (out : Expr) (k : VColumn) (same : Bool) → same_column key (heading k) ≡ same → weight_of (with_column_cond key out k) ≤ weight_of out + cost_if same k
cond_step key out k true is = rw is (let w = once_weighs out k.cond in omega (arith, w))
cond_step key out k false is = rw is (omega arith)

cond_fold : (key : Column) (out : Expr) (ks : List VColumn) → weight_of (fold (with_column_cond key) out ks) ≤ weight_of out + matched_cost key ks
cond_fold key out [] = omega arith
cond_fold key out (k ∷ ks) =
    let rest = cond_fold key (with_column_cond key out k) ks in
    let here = cond_step key out k (same_column key (heading k)) refl in
    omega (arith, rest, here)

found_step : (key : Column) (k : VColumn) (ks : List VColumn) (same : Bool) → same_column key (heading k) ≡ same → among key (headings (k ∷ ks)) ≡ true → (among key (headings ks) ≡ true → weight_of (column_cond key ks) + 1 ≤ matched_cost key ks) → weight_of (column_cond key (k ∷ ks)) + 1 ≤ cost_if same k + matched_cost key ks
found_step key k ks true is h rest =
    let all = cond_fold key (with_column_cond key e.False k) ks in
    let one : weight_of (with_column_cond key e.False k) ≤ weight_of k.cond = rw is (once_first k.cond) in
    omega (arith, all, one)
found_step key k ks false is h rest = rw is (let later = rest (rw is at h) in omega (arith, later))

cond_found : (key : Column) (ks : List VColumn) → among key (headings ks) ≡ true → weight_of (column_cond key ks) + 1 ≤ matched_cost key ks
cond_found key [] h = absurd (true≢false (sym h))
cond_found key (k ∷ ks) h = found_step key k ks (same_column key (heading k)) refl h (cond_found key ks)

module _ (all : List VColumn) where
  settled_step : (out : List VColumn) (x : VColumn) (has : Bool) → among (heading x) (headings out) ≡ has → among (heading x) (headings all) ≡ true → columns_cost out ≤ keys_cost (headings out) all → columns_cost (with_settled all out x) ≤ keys_cost (headings (with_settled all out x)) all
  settled_step out x true is found h = rw is h
  settled_step out x false is found h =
      rw is (
      let a = cost-append out (settled_column all x ∷ []) in
      let b = ap (λ ks. keys_cost ks all) (map-append heading out (settled_column all x ∷ [])) in
      let c = keys-append (headings out) (heading x ∷ []) all in
      let one = cond_found (heading x) all found in
      omega (arith, a, b, c, one, h))

  settled_fold : (out xs : List VColumn) → ((key : Column) → among key (headings xs) ≡ true → among key (headings all) ≡ true) → columns_cost out ≤ keys_cost (headings out) all → columns_cost (fold (with_settled all) out xs) ≤ keys_cost (headings (fold (with_settled all) out xs)) all
  settled_fold out [] found h = h
  settled_fold out (x ∷ xs) found h =
      settled_fold (with_settled all out x) xs (λ key there. found key (there_too (same_column key (heading x)) (among key (headings xs)) there))
      (settled_step out x (among (heading x) (headings out)) refl (found (heading x) (here (heading x) (headings xs))) h)
    where
      there_too : (a b : Bool) → b ≡ true → (a || b) ≡ true
      there_too true b k = refl
      there_too false b k = k

      here : (key : Column) (ks : List Column) → among key (key ∷ ks) ≡ true
      here key ks = among_first key ks

abbrev hits : List Column → VColumn → ℕ
hits [] k = 0
hits (key ∷ keys) k = cost_if (same_column key (heading k)) k + hits keys k

turned : (one other : Column) (b : Bool) → same_column other one ≡ b → same_column one other ≡ false → b ≡ false
turned one other false is h = refl
turned one other true is h = absurd (true≢false (sym (same_back other one is) ∙ h))

no_hit : (key : Column) (k : VColumn) → same_column (heading k) key ≡ false → cost_if (same_column key (heading k)) k ≡ 0
no_hit key k h = ap (λ b. cost_if b k) (turned (heading k) key (same_column key (heading k)) refl h)

no_hits : (k : VColumn) (keys : List Column) → among (heading k) keys ≡ false → hits keys k ≡ 0
no_hits k [] h = refl
no_hits k (key ∷ keys) h =
    let parts = neither (same_column (heading k) key) (among (heading k) keys) h in
    let one = no_hit key k parts.0 in
    let rest = no_hits k keys parts.1 in
    omega (arith, one, rest)

hit_step : (k : VColumn) (key : Column) (keys : List Column) (same : Bool) → same_column key (heading k) ≡ same → among key keys ≡ false → hits keys k ≤ weight_of k.cond + 1 → cost_if same k + hits keys k ≤ weight_of k.cond + 1
hit_step k key keys true is lacks rest = let none = no_hits k keys (ap (λ x. among x keys) (sym (column_is key (heading k) is)) ∙ lacks) in omega (arith, none)
hit_step k key keys false is lacks rest = omega (arith, rest)

one_hit : (k : VColumn) (keys : List Column) → once_each keys ≡ true → hits keys k ≤ weight_of k.cond + 1
one_hit k [] once = omega arith
one_hit k (key ∷ keys) once =
    let parts = once_parts key keys once in
    hit_step k key keys (same_column key (heading k)) refl parts.0 (one_hit k keys parts.1)

keys_split : (keys : List Column) (k : VColumn) (ks : List VColumn) → keys_cost keys (k ∷ ks) ≡ hits keys k + keys_cost keys ks
keys_split [] k ks = refl
keys_split (key ∷ keys) k ks = let rest = keys_split keys k ks in omega (arith, rest)

keys_none : (keys : List Column) → keys_cost keys [] ≡ 0
keys_none [] = refl
keys_none (key ∷ keys) = let rest = keys_none keys in omega (arith, rest)

keys_within : (keys : List Column) (all : List VColumn) → once_each keys ≡ true → keys_cost keys all ≤ columns_cost all
keys_within keys [] once = let none = keys_none keys in omega (arith, none)
keys_within keys (k ∷ ks) once =
    let split = keys_split keys k ks in
    let one = one_hit k keys once in
    let rest = keys_within keys ks once in
    omega (arith, split, one, rest)

pub settled_costs : (all : List VColumn) → columns_cost (settled all) ≤ columns_cost all
settled_costs all =
    let made = settled_fold all [] all (λ key h. h) (omega arith) in
    let most = keys_within (headings (settled all)) all (settled_once all) in
    omega (arith, made, most)

-- ---- rows

abbrev pub made_weight : Option VRow → ℕ
made_weight None = 0
made_weight (Some row) = weight_of row.cond

made_one : (r : Option VRow) (rows : List VRow) → rows_weight (cons_option r rows) ≡ made_weight r + rows_weight rows
made_one None rows = omega arith
made_one (Some row) rows = sum_by-cons (λ (row : VRow). weight_of row.cond) row rows

one_more : (r : Option VRow) (rows : List VRow) → length (cons_option r rows) ≤ 1 + length rows
one_more None rows = omega arith
one_more (Some row) rows = omega arith

pub made_fewer : (f : VRow → Option VRow) (rows : List VRow) → length (filter_map f rows) ≤ length rows
made_fewer f [] = omega arith
made_fewer f (row ∷ rows) =
    let one = one_more (f row) (filter_map f rows) in
    let rest = made_fewer f rows in
    omega (arith, one, rest)

-- rows that are made one of each add so much at most to it
pub made_rows : (f : VRow → Option VRow) (more : ℕ) → ((row : VRow) → made_weight (f row) ≤ weight_of row.cond + more) → (rows : List VRow) → rows_weight (filter_map f rows) ≤ rows_weight rows + length rows * more
made_rows f more adds [] = omega arith
made_rows f more adds (row ∷ rows) =
    let one = adds row in
    let rest = made_rows f more adds rows in
    let here = made_one (f row) (filter_map f rows) in
    let cons = sum_by-cons (λ (row : VRow). weight_of row.cond) row rows in
    omega (arith, one, rest, here, cons)

pub rows-append : (xs ys : List VRow) → rows_weight (xs ++ ys) ≡ rows_weight xs + rows_weight ys
rows-append xs ys = sum_by-append (λ (row : VRow). weight_of row.cond) xs ys

row_by : (cells : List (Option Value)) (cond : Expr) (none : Bool) → is_false cond ≡ none → made_weight (row_under cells cond) ≤ weight_of cond
row_by cells cond true is = rw is (omega arith)
row_by cells cond false is = rw is (omega arith)

pub row_weighs : (cells : List (Option Value)) (cond : Expr) → made_weight (row_under cells cond) ≤ weight_of cond
row_weighs cells cond = row_by cells cond (is_false cond) refl
