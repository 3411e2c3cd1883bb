-- How often names stand among columns, and what follows for the ways in which a row becomes several.
use Rattle.std.proofs.Common.{◌≡◌, ◌∙◌, ℕ, zero, suc, ◌+◌, ◌*◌, ◌^◌, ◌≤◌, ◌==◌, max, Bool, true, false, ◌||◌, List, [], ◌∷◌, ◌++◌, fold, length, append_assoc, count_by, if◌then◌else◌, refl, sym, ap, subst, true≢false, arith}
use Rattle.std.proofs.Math.Nat.{pow-succ'}
use Rattle.std.proofs.lemmas.Nat.{mul-le}
use Rattle.std.proofs.lemmas.List.Sums.{sum_by-cons}
use Rattle.std.specs.List.{AllByRecursion, list_any}
use Rattle.feature_expr.specs.Expressions.{weight_of}
use Rattle.values.specs.declared.column_name.ColName.{ColName}
use Rattle.plain_relation.specs.Relations.{Column, same_name}
use Rattle.query_meaning.specs.Bounds.{distinct_names, ways}
use Rattle.relational_algebra.specs.Columns.{once, same_column}
use Rattle.row_conditions.proofs.BoolLaws.{neither}
use Rattle.row_conditions.proofs.NameLaws.{name_is, name_same}
use Rattle.plan_tables.proofs.MemberLaws.{column_same}
use Rattle.plan_merges.proofs.WayWeights.{name_cost, names_add, ways_product}
use Rattle.plan_tables.proofs.WeightLaws.{columns_cost, cost_if}
use Rattle.plan_merges.specs.Merges.{count_same, last_rank, ranked, ranked_behind, repeated_names, with_name}
use Rattle.plan_tables.specs.Tables.{heading, headings}
use Rattle.plan_merges.specs.declared.way.Ranked.{Ranked}
use Rattle.vtable.specs.declared.table.VColumn.{VColumn}

abbrev pub one_if : Bool → ℕ
one_if b = if b then 1 else 0

pub name_back : (one other : ColName) → same_name one other ≡ true → same_name other one ≡ true
name_back one other h = subst (λ n. same_name other n ≡ true) (sym (name_is one other h)) (name_same other)

-- ---- names of which each stands once

abbrev pub names_once : List ColName → Bool
names_once [] = true
names_once (name ∷ names) = if list_any (same_name name) names then false else names_once names

names_parts_by : (name : ColName) (names : List ColName) (has : Bool) → list_any (same_name name) names ≡ has → names_once (name ∷ names) ≡ true → (list_any (same_name name) names ≡ false) × (names_once names ≡ true)
names_parts_by name names true is h = absurd (true≢false (sym (rw is at h)))
names_parts_by name names false is h = (is, rw is at h)

names_parts : (name : ColName) (names : List ColName) → names_once (name ∷ names) ≡ true → (list_any (same_name name) names ≡ false) × (names_once names ≡ true)
names_parts name names h = names_parts_by name names (list_any (same_name name) names) refl h

names_cons : (name : ColName) (names : List ColName) → list_any (same_name name) names ≡ false → names_once names ≡ true → names_once (name ∷ names) ≡ true
names_cons name names lacks rest = rw lacks rest

turned : (one other : ColName) (b : Bool) → same_name other one ≡ b → same_name one other ≡ false → b ≡ false
turned one other false is h = refl
turned one other true is h = absurd (true≢false (sym (name_back other one is) ∙ h))

both_lack : (a b d : Bool) → (a || b) ≡ false → (b ≡ false → d ≡ false) → (a || d) ≡ false
both_lack true b d h f = h
both_lack false b d h f = f h

push_lacks : (name new : ColName) (names : List ColName) → same_name name new ≡ false → list_any (same_name name) names ≡ false → list_any (same_name name) (names ++ new ∷ []) ≡ false
push_lacks name new [] other h = rw other refl
push_lacks name new (n ∷ names) other h = both_lack (same_name name n) (list_any (same_name name) names) (list_any (same_name name) (names ++ new ∷ [])) h (push_lacks name new names other)

names_push : (names : List ColName) (new : ColName) → names_once names ≡ true → list_any (same_name new) names ≡ false → names_once (names ++ new ∷ []) ≡ true
names_push [] new h lacks = refl
names_push (n ∷ names) new h lacks =
    let parts = names_parts n names h in
    let apart = neither (same_name new n) (list_any (same_name new) names) lacks in
    names_cons n (names ++ new ∷ []) (push_lacks n new names (turned new n (same_name n new) refl apart.0) parts.0) (names_push names new parts.1 apart.1)

repeat_step : (names : List ColName) (x : Ranked) (first has : Bool) → (x.rank == 0) ≡ first → list_any (same_name x.column.name) names ≡ has → names_once names ≡ true → names_once (with_name names x) ≡ true
repeat_step names x true has is there h = rw is h
repeat_step names x false true is there h = rw (is, there) h
repeat_step names x false false is there h = rw (is, there) (names_push names x.column.name h there)

repeat_fold : (names : List ColName) (xs : List Ranked) → names_once names ≡ true → names_once (fold with_name names xs) ≡ true
repeat_fold names [] h = h
repeat_fold names (x ∷ xs) h = repeat_fold (with_name names x) xs (repeat_step names x (x.rank == 0) (list_any (same_name x.column.name) names) refl refl h)

repeated_once : (xs : List Ranked) → names_once (repeated_names xs) ≡ true
repeated_once xs = repeat_fold [] xs refl

-- ---- a repeated name has a column of a greater rank

last_more : (name : ColName) (x : Ranked) (xs : List Ranked) (same : Bool) → same_name x.column.name name ≡ same → last_rank name xs ≤ last_rank name (x ∷ xs)
last_more name x xs true is = rw is (omega arith)
last_more name x xs false is = rw is (omega arith)

last_here : (x : Ranked) (xs : List Ranked) → x.rank ≤ last_rank x.column.name (x ∷ xs)
last_here x xs = rw (name_same x.column.name) (omega arith)

pub some_rank : (n : ℕ) (first : Bool) → (n == 0) ≡ first → first ≡ false → 1 ≤ n
some_rank zero first is h = absurd (true≢false (is ∙ h))
some_rank (suc n) first is h = omega arith

ranks_push : (columns : List Ranked) (names : List ColName) (new : ColName) → AllByRecursion (λ name. 1 ≤ last_rank name columns) names → 1 ≤ last_rank new columns → AllByRecursion (λ name. 1 ≤ last_rank name columns) (names ++ new ∷ [])
ranks_push columns [] new all one = (one, tt)
ranks_push columns (n ∷ names) new all one = (all.0, ranks_push columns names new all.1 one)

module _ (columns : List Ranked) where
  abbrev AreRanked : List ColName → Type 0
  AreRanked names = AllByRecursion (λ name. 1 ≤ last_rank name columns) names

  ranked_step : (names : List ColName) (x : Ranked) (first has : Bool) → (x.rank == 0) ≡ first → list_any (same_name x.column.name) names ≡ has → x.rank ≤ last_rank x.column.name columns → AreRanked names → AreRanked (with_name names x)
  ranked_step names x true has is there most all = rw is all
  ranked_step names x false true is there most all = rw (is, there) all
  ranked_step names x false false is there most all =
      rw (is, there) (
      let some = some_rank x.rank false is refl in
      ranks_push columns names x.column.name all (omega (arith, some, most)))

  ranked_fold : (names : List ColName) (xs : List Ranked) → ((name : ColName) → last_rank name xs ≤ last_rank name columns) → AreRanked names → AreRanked (fold with_name names xs)
  ranked_fold names [] within all = all
  ranked_fold names (x ∷ xs) within all =
      ranked_fold (with_name names x) xs (λ name. let a = within name in let b = last_more name x xs (same_name x.column.name name) refl in omega (arith, a, b))
      (ranked_step names x (x.rank == 0) (list_any (same_name x.column.name) names) refl refl (let a = within x.column.name in let b = last_here x xs in omega (arith, a, b)) all)

  repeated_ranked : AreRanked (repeated_names columns)
  repeated_ranked = ranked_fold [] columns (λ name. omega arith) tt

  many : (names : List ColName) → AreRanked names → 1 + length names ≤ ways_product columns names
  many [] all = omega arith
  many (name ∷ names) all =
      let rest = many names all.1 in
      let one = all.0 in
      let product = mul-le 2 (ways_product columns names) (last_rank name columns + 1) (ways_product columns names) (omega (arith, one)) (omega arith) in
      omega (arith, rest, product)

  -- with one way alone no name is repeated
  pub fewer_names : 1 + length (repeated_names columns) ≤ ways_product columns (repeated_names columns)
  fewer_names = many (repeated_names columns) repeated_ranked

-- ---- the last rank, by how often a name and kind stands

count-both : (key : Column) (xs ys : List Column) → count_same key (xs ++ ys) ≡ count_same key xs + count_same key ys
count-both key [] ys = omega arith
count-both key (x ∷ xs) ys = step (same_column key x) refl (count-both key xs ys) where
  step : (b : Bool) → same_column key x ≡ b → count_same key (xs ++ ys) ≡ count_same key xs + count_same key ys → count_same key (x ∷ (xs ++ ys)) ≡ count_same key (x ∷ xs) + count_same key ys
  step true is h = rw is (omega (arith, h))
  step false is h = rw is h

pub count-append : (key : Column) (xs ys : List Column) → count_same key (xs ++ ys) ≡ count_same key xs + count_same key ys
count-append key xs ys = count-both key xs ys

pub count_cons : (key x : Column) (xs : List Column) (same : Bool) → same_column key x ≡ same → count_same key (x ∷ xs) ≡ one_if same + count_same key xs
count_cons key x xs true is = rw is (omega arith)
count_cons key x xs false is = rw is (omega arith)

module _ (most : ColName → ℕ) where
  last_step : (name : ColName) (x : Ranked) (xs : List Ranked) (same : Bool) → same_name x.column.name name ≡ same → x.rank + 1 ≤ most x.column.name → last_rank name xs + 1 ≤ max 1 (most name) → last_rank name (x ∷ xs) + 1 ≤ max 1 (most name)
  last_step name x xs true is here rest =
      rw is (
      let same : most x.column.name ≡ most name = ap most (name_is x.column.name name is) in
      omega (arith, here, rest, same))
  last_step name x xs false is here rest = rw is rest

  pub last_within : (name : ColName) (before : List Column) (ks : List VColumn) → ((key : Column) → count_same key (before ++ headings ks) ≤ most key.name) → last_rank name (ranked_behind before ks) + 1 ≤ max 1 (most name)
  last_within name before [] counted = omega arith
  last_within name before (k ∷ ks) counted =
      let x : Ranked = record { column = k; rank = count_same (heading k) before } in
      last_step name x (ranked_behind (before ++ heading k ∷ []) ks) (same_name k.name name) refl
      (let c = counted (heading k) in
      let a = count-append (heading k) before (headings (k ∷ ks)) in
      let s = count_cons (heading k) (heading k) (headings ks) true (column_same (heading k)) in
      omega (arith, c, a, s))
      (last_within name (before ++ heading k ∷ []) ks (λ key. subst (λ xs. count_same key xs ≤ most key.name) (sym (append_assoc before (heading k ∷ []) (headings ks))) (counted key)))

-- ---- what repeated names add

abbrev pub ranks_add : List Ranked → List ColName → ℕ
ranks_add columns [] = 0
ranks_add columns (name ∷ names) = 2 + last_rank name columns + ranks_add columns names

abbrev names_cost : List ColName → List Ranked → ℕ
names_cost [] xs = 0
names_cost (name ∷ names) xs = name_cost name xs + names_cost names xs

add_split : (columns : List Ranked) (names : List ColName) → names_add columns names ≡ ranks_add columns names + names_cost names columns
add_split columns [] = refl
add_split columns (name ∷ names) = let rest = add_split columns names in omega (arith, rest)

abbrev name_hits : List ColName → Ranked → ℕ
name_hits [] x = 0
name_hits (name ∷ names) x = cost_if (same_name x.column.name name) x.column + name_hits names x

no_name_hits : (names : List ColName) (x : Ranked) → list_any (same_name x.column.name) names ≡ false → name_hits names x ≡ 0
no_name_hits [] x h = refl
no_name_hits (name ∷ names) x h =
    let parts = neither (same_name x.column.name name) (list_any (same_name x.column.name) names) h in
    let one : cost_if (same_name x.column.name name) x.column ≡ 0 = ap (λ b. cost_if b x.column) parts.0 in
    let rest = no_name_hits names x parts.1 in
    omega (arith, one, rest)

name_hit_step : (name : ColName) (names : List ColName) (x : Ranked) (same : Bool) → same_name x.column.name name ≡ same → list_any (same_name name) names ≡ false → name_hits names x ≤ weight_of x.column.cond + 1 → cost_if same x.column + name_hits names x ≤ weight_of x.column.cond + 1
name_hit_step name names x true is lacks rest = let none = no_name_hits names x (ap (λ n. list_any (same_name n) names) (name_is x.column.name name is) ∙ lacks) in omega (arith, none)
name_hit_step name names x false is lacks rest = omega (arith, rest)

one_name_hit : (names : List ColName) (x : Ranked) → names_once names ≡ true → name_hits names x ≤ weight_of x.column.cond + 1
one_name_hit [] x once = omega arith
one_name_hit (name ∷ names) x once =
    let parts = names_parts name names once in
    name_hit_step name names x (same_name x.column.name name) refl parts.0 (one_name_hit names x parts.1)

cost_split : (names : List ColName) (x : Ranked) (xs : List Ranked) → names_cost names (x ∷ xs) ≡ name_hits names x + names_cost names xs
cost_split [] x xs = refl
cost_split (name ∷ names) x xs = let rest = cost_split names x xs in omega (arith, rest)

cost_none : (names : List ColName) → names_cost names [] ≡ 0
cost_none [] = refl
cost_none (name ∷ names) = let rest = cost_none names in omega (arith, rest)

names_within : (names : List ColName) (before : List Column) (ks : List VColumn) → names_once names ≡ true → names_cost names (ranked_behind before ks) ≤ columns_cost ks
names_within names before [] once = let none = cost_none names in omega (arith, none)
names_within names before (k ∷ ks) once =
    let x : Ranked = record { column = k; rank = count_same (heading k) before } in
    let split = cost_split names x (ranked_behind (before ++ heading k ∷ []) ks) in
    let one = one_name_hit names x once in
    let rest = names_within names (before ++ heading k ∷ []) ks once in
    omega (arith, split, one, rest)

pub repeated_add : (ks : List VColumn) → names_add (ranked ks) (repeated_names (ranked ks)) ≤ ranks_add (ranked ks) (repeated_names (ranked ks)) + columns_cost ks
repeated_add ks =
    let split = add_split (ranked ks) (repeated_names (ranked ks)) in
    let cost = names_within (repeated_names (ranked ks)) [] ks (repeated_once (ranked ks)) in
    omega (arith, split, cost)

pub ranks_few : (columns : List Ranked) (names : List ColName) → ((name : ColName) → last_rank name columns ≤ 1) → ranks_add columns names ≤ 3 * length names
ranks_few columns [] few = omega arith
ranks_few columns (name ∷ names) few = let one = few name in let rest = ranks_few columns names few in omega (arith, one, rest)

pub product_few : (columns : List Ranked) (names : List ColName) → ((name : ColName) → last_rank name columns ≤ 1) → ways_product columns names ≤ 2 ^ length names
product_few columns [] few = omega arith
product_few columns (name ∷ names) few =
    let one = few name in
    let rest = product_few columns names few in
    let product = mul-le (last_rank name columns + 1) (ways_product columns names) 2 (2 ^ length names) (omega (arith, one)) rest in
    let power : 2 ^ suc (length names) ≡ 2 * 2 ^ length names = pow-succ' 2 (length names) in
    omega (arith, product, power)

-- ---- where the names are given so often

abbrev name_counts : List ColName → List ColName → ℕ
name_counts [] given = 0
name_counts (name ∷ names) given = count_by (same_name name) given + name_counts names given

abbrev given_hits : List ColName → ColName → ℕ
given_hits [] n = 0
given_hits (name ∷ names) n = one_if (same_name name n) + given_hits names n

no_given : (names : List ColName) (n : ColName) → list_any (same_name n) names ≡ false → given_hits names n ≡ 0
no_given [] n h = refl
no_given (name ∷ names) n h =
    let parts = neither (same_name n name) (list_any (same_name n) names) h in
    let one : one_if (same_name name n) ≡ 0 = ap one_if (turned n name (same_name name n) refl parts.0) in
    let rest = no_given names n parts.1 in
    omega (arith, one, rest)

given_step : (name : ColName) (names : List ColName) (n : ColName) (same : Bool) → same_name name n ≡ same → list_any (same_name name) names ≡ false → given_hits names n ≤ 1 → one_if same + given_hits names n ≤ 1
given_step name names n true is lacks rest = let none = no_given names n (ap (λ m. list_any (same_name m) names) (sym (name_is name n is)) ∙ lacks) in omega (arith, none)
given_step name names n false is lacks rest = omega (arith, rest)

one_given : (names : List ColName) (n : ColName) → names_once names ≡ true → given_hits names n ≤ 1
one_given [] n once = omega arith
one_given (name ∷ names) n once =
    let parts = names_parts name names once in
    given_step name names n (same_name name n) refl parts.0 (one_given names n parts.1)

pub count_more : (name n : ColName) (ns : List ColName) (same : Bool) → same_name name n ≡ same → count_by (same_name name) (n ∷ ns) ≡ one_if same + count_by (same_name name) ns
count_more name n ns same is = sum_by-cons (λ x. if same_name name x then 1 else 0) n ns ∙ ap (λ b. one_if b + count_by (same_name name) ns) is

given_split : (names : List ColName) (n : ColName) (ns : List ColName) → name_counts names (n ∷ ns) ≡ given_hits names n + name_counts names ns
given_split [] n ns = refl
given_split (name ∷ names) n ns =
    let rest = given_split names n ns in
    let one = count_more name n ns (same_name name n) refl in
    omega (arith, rest, one)

counts_none : (names : List ColName) → name_counts names [] ≡ 0
counts_none [] = refl
counts_none (name ∷ names) = let rest = counts_none names in omega (arith, rest)

counts_within : (names given : List ColName) → names_once names ≡ true → name_counts names given ≤ length given
counts_within names [] once = let none = counts_none names in omega (arith, none)
counts_within names (n ∷ ns) once =
    let split = given_split names n ns in
    let one = one_given names n once in
    let rest = counts_within names ns once in
    omega (arith, split, one, rest)

module _ (columns : List Ranked) (given : List ColName) (within : (name : ColName) → last_rank name columns + 1 ≤ max 1 (count_by (same_name name) given)) where
  ranks_counted : (names : List ColName) → AreRanked columns names → ranks_add columns names ≤ 2 * name_counts names given
  ranks_counted [] all = omega arith
  ranks_counted (name ∷ names) all =
      let rest = ranks_counted names all.1 in
      let one = all.0 in
      let most = within name in
      omega (arith, rest, one, most)

  pub ranks_given : ranks_add columns (repeated_names columns) ≤ 2 * length given
  ranks_given =
      let all = ranks_counted (repeated_names columns) (repeated_ranked columns) in
      let most = counts_within (repeated_names columns) given (repeated_once columns) in
      omega (arith, all, most)

-- ---- a product over names, and one over more names of greater factors

abbrev product_of : (ColName → ℕ) → List ColName → ℕ
product_of f [] = 1
product_of f (name ∷ names) = f name * product_of f names

-- one for the name
abbrev without : ColName → (ColName → ℕ) → ColName → ℕ
without name f n = if same_name name n then 1 else f n

without_none : (name : ColName) (f : ColName → ℕ) (names : List ColName) → list_any (same_name name) names ≡ false → product_of f names ≡ product_of (without name f) names
without_none name f [] h = refl
without_none name f (n ∷ names) h =
    let parts = neither (same_name name n) (list_any (same_name name) names) h in
    let here : f n ≡ without name f n = sym (other parts.0) in
    ap (λ x. x * product_of f names) here ∙ ap (λ x. without name f n * x) (without_none name f names parts.1)
  where
    other : same_name name n ≡ false → without name f n ≡ f n
    other is = rw is refl

taken_step : (name : ColName) (f : ColName → ℕ) (most : ℕ) (n : ColName) (names : List ColName) (same : Bool) → same_name name n ≡ same → f name ≤ most → 1 ≤ most → list_any (same_name n) names ≡ false → product_of f names ≤ most * product_of (without name f) names → product_of f (n ∷ names) ≤ most * product_of (without name f) (n ∷ names)
taken_step name f most n names true is within some lacks rest =
    let same : name ≡ n = name_is name n is in
    let here : without name f n ≡ 1 = rw is refl in
    let others = without_none name f names (ap (λ m. list_any (same_name m) names) same ∙ lacks) in
    let factor : f n ≡ f name = ap f (sym same) in
    let product = mul-le (f n) (product_of f names) most (product_of (without name f) names) (omega (arith, factor, within)) (omega (arith, others)) in
    let one : without name f n * product_of (without name f) names ≡ product_of (without name f) names = ap (λ x. x * product_of (without name f) names) here ∙ one_times (product_of (without name f) names) in
    subst (λ x. product_of f (n ∷ names) ≤ most * x) (sym one) product
  where
    one_times : (x : ℕ) → 1 * x ≡ x
    one_times x = omega arith
taken_step name f most n names false is within some lacks rest =
    let here : without name f n ≡ f n = rw is refl in
    let product = mul-le (f n) (product_of f names) (f n) (most * product_of (without name f) names) (omega arith) rest in
    subst (λ x. product_of f (n ∷ names) ≤ most * (x * product_of (without name f) names)) (sym here) (swapped (f n) most (product_of (without name f) names) (f n * product_of f names) product)
  where
    swapped : (a b d x : ℕ) → x ≤ a * (b * d) → x ≤ b * (a * d)
    swapped a b d x h = omega (arith, h)

product_taken : (name : ColName) (f : ColName → ℕ) (most : ℕ) (names : List ColName) → f name ≤ most → 1 ≤ most → names_once names ≡ true → product_of f names ≤ most * product_of (without name f) names
product_taken name f most [] within some once = omega (arith, some)
product_taken name f most (n ∷ names) within some once =
    let parts = names_parts n names once in
    taken_step name f most n names (same_name name n) refl within some parts.0 (product_taken name f most names within some parts.1)

product_ones : (f : ColName → ℕ) (names : List ColName) → ((name : ColName) → f name ≤ 1) → product_of f names ≤ 1
product_ones f [] h = omega arith
product_ones f (name ∷ names) h = mul-le (f name) (product_of f names) 1 1 (h name) (product_ones f names h)

has_one : (g : ColName → ℕ) (name : ColName) (others : List ColName) → AllByRecursion (λ name. 1 ≤ g name) others → list_any (same_name name) others ≡ true → 1 ≤ g name
has_one g name [] all h = absurd (true≢false (sym h))
has_one g name (other ∷ others) all h = by_name (same_name name other) refl (has_one g name others all.1)
  where
    by_name : (same : Bool) → same_name name other ≡ same → (list_any (same_name name) others ≡ true → 1 ≤ g name) → 1 ≤ g name
    by_name true is rest = subst (λ n. 1 ≤ g n) (sym (name_is name other is)) all.0
    by_name false is rest = rest (rw is at h)

pub product_within : (f g : ColName → ℕ) (names others : List ColName) → names_once names ≡ true → AllByRecursion (λ name. 1 ≤ g name) others → ((name : ColName) → f name ≤ (if list_any (same_name name) others then g name else 1)) → product_of f names ≤ product_of g others
product_within f g names [] once some within = product_ones f names within
product_within f g names (other ∷ others) once some within =
    let taken = product_taken other f (g other) names (first (within other)) some.0 once in
    let rest = product_within (without other f) g names others once some.1 (λ name. later name (same_name other name) refl (within name)) in
    let product = mul-le (g other) (product_of (without other f) names) (g other) (product_of g others) (omega arith) rest in
    omega (arith, taken, product)
  where
    first : f other ≤ (if list_any (same_name other) (other ∷ others) then g other else 1) → f other ≤ g other
    first h = rw (name_same other) at h

    one_or : (name : ColName) (has : Bool) → AllByRecursion (λ name. 1 ≤ g name) others → list_any (same_name name) others ≡ has → 1 ≤ (if has then g name else 1)
    one_or name false all is = omega arith
    one_or name true all is = has_one g name others all is

    later : (name : ColName) (same : Bool) → same_name other name ≡ same → f name ≤ (if list_any (same_name name) (other ∷ others) then g name else 1) → without other f name ≤ (if list_any (same_name name) others then g name else 1)
    later name true is h = rw is (one_or name (list_any (same_name name) others) some.1 refl)
    later name false is h = rw is (rw (turned other name (same_name name other) refl is) at h)

-- ---- the ways that names give

ways_fold : (given : List ColName) (product : ℕ) (names : List ColName) → fold (λ product name. product * count_by (same_name name) given) product names ≡ product * product_of (λ name. count_by (same_name name) given) names
ways_fold given product [] = omega arith
ways_fold given product (name ∷ names) =
    let rest = ways_fold given (product * count_by (same_name name) given) names in
    omega (arith, rest)

ways_are : (given : List ColName) → ways given ≡ product_of (λ name. count_by (same_name name) given) (distinct_names given)
ways_are given = let all = ways_fold given 1 (distinct_names given) in omega (arith, all)

has_step : (name n : ColName) (ns : List ColName) (has : Bool) → list_any (same_name n) ns ≡ has → list_any (same_name name) (distinct_names ns) ≡ list_any (same_name name) ns → list_any (same_name name) (distinct_names (n ∷ ns)) ≡ list_any (same_name name) (n ∷ ns)
has_step name n ns false is rest = rw is (ap (λ b. same_name name n || b) rest)
has_step name n ns true is rest = rw is (rest ∙ sym (twice (same_name name n) refl))
  where
    twice : (same : Bool) → same_name name n ≡ same → (same || list_any (same_name name) ns) ≡ list_any (same_name name) ns
    twice true same = sym (ap (λ m. list_any (same_name m) ns) (name_is name n same) ∙ is)
    twice false same = refl

pub distinct_has : (name : ColName) (ns : List ColName) → list_any (same_name name) (distinct_names ns) ≡ list_any (same_name name) ns
distinct_has name [] = refl
distinct_has name (n ∷ ns) = has_step name n ns (list_any (same_name n) ns) refl (distinct_has name ns)

not_counted : (name : ColName) (ns : List ColName) → list_any (same_name name) ns ≡ false → count_by (same_name name) ns ≡ 0
not_counted name [] h = refl
not_counted name (n ∷ ns) h =
    let parts = neither (same_name name n) (list_any (same_name name) ns) h in
    let one = count_more name n ns false parts.0 in
    let rest = not_counted name ns parts.1 in
    omega (arith, one, rest)

some_step : (given : List ColName) (n : ColName) (ns : List ColName) (has : Bool) → list_any (same_name n) ns ≡ has → ((name : ColName) → count_by (same_name name) (n ∷ ns) ≤ count_by (same_name name) given) → AllByRecursion (λ name. 1 ≤ count_by (same_name name) given) (distinct_names ns) → AllByRecursion (λ name. 1 ≤ count_by (same_name name) given) (distinct_names (n ∷ ns))
some_step given n ns true is within rest = rw is rest
some_step given n ns false is within rest =
    rw is (let most = within n in let one = count_more n n ns true (name_same n) in omega (arith, most, one), rest)

some_counted : (given ns : List ColName) → ((name : ColName) → count_by (same_name name) ns ≤ count_by (same_name name) given) → AllByRecursion (λ name. 1 ≤ count_by (same_name name) given) (distinct_names ns)
some_counted given [] within = tt
some_counted given (n ∷ ns) within =
    some_step given n ns (list_any (same_name n) ns) refl within
    (some_counted given ns (λ name. let most = within name in let one = count_more name n ns (same_name name n) refl in omega (arith, most, one)))

module _ (columns : List Ranked) (given : List ColName) (within : (name : ColName) → last_rank name columns + 1 ≤ max 1 (count_by (same_name name) given)) where
  by_given : (name : ColName) (has : Bool) → list_any (same_name name) given ≡ has → last_rank name columns + 1 ≤ (if has then count_by (same_name name) given else 1)
  by_given name true is =
      let most = within name in
      let some = has_one (λ name. count_by (same_name name) given) name (distinct_names given) (some_counted given given (λ name. omega arith)) (distinct_has name given ∙ is) in
      omega (arith, most, some)
  by_given name false is = let most = within name in let none = not_counted name given is in omega (arith, most, none)

  product_is : (names : List ColName) → ways_product columns names ≡ product_of (λ name. last_rank name columns + 1) names
  product_is [] = refl
  product_is (name ∷ names) = ap (λ n. (last_rank name columns + 1) * n) (product_is names)

  pub product_given : ways_product columns (repeated_names columns) ≤ ways given
  product_given =
      let most = product_within (λ name. last_rank name columns + 1) (λ name. count_by (same_name name) given) (repeated_names columns) (distinct_names given) (repeated_once columns)
      (some_counted given given (λ name. omega arith))
      (λ name. subst (λ b. last_rank name columns + 1 ≤ (if b then count_by (same_name name) given else 1)) (sym (distinct_has name given)) (by_given name (list_any (same_name name) given) refl)) in
      let one = product_is (repeated_names columns) in
      let other = ways_are given in
      omega (arith, most, one, other)
