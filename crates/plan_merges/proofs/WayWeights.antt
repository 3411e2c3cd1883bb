-- In how many ways a row becomes several, and what the conditions of these ways add to its own.
use Rattle.std.proofs.Common.{◌≡◌, ◌∙◌, ℕ, zero, suc, ◌+◌, ◌*◌, ◌≤◌, ◌<◌, ◌==◌, Bool, true, false, ◌&&◌, List, [], ◌∷◌, ◌++◌, map, fold, length, length-append, refl, sym, ap, subst, ◌⊎◌, inl, inr, arith}
use Rattle.std.proofs.lemmas.Bool.{eqb-true}
use Rattle.std.proofs.lemmas.List.{length-map}
use Rattle.std.specs.List.{AllByRecursion, flat_map}
use Rattle.feature_expr.specs.Expressions.{and_of, not_of, weight_of}
use Rattle.feature_expr.specs.declared.expr.Expr.{Expr}
use Rattle.feature_expr.specs.declared.expr.Expr as e
use Rattle.values.specs.declared.column_name.ColName.{ColName}
use Rattle.plain_relation.specs.Relations.{same_name}
use Rattle.row_conditions.proofs.BoolLaws.{and_false}
use Rattle.row_conditions.proofs.FoldingLaws.{and_weighs, not_weighs, weight_False, weight_True}
use Rattle.plan_tables.proofs.WeightLaws.{and_True, and_not_False, cost_if, made_fewer, made_rows, made_weight, once_first, once_weighs, row_weighs, rows-append}
use Rattle.plan_merges.specs.Merges.{all_ways, cells_taken, last_rank, none_ranked, rank_cond, row_taken, rows_taken, way_with, ways_of, ways_ranked, with_rank}
use Rattle.plan_merges.specs.declared.way.Ranked.{Ranked}
use Rattle.plan_merges.specs.declared.way.Way.{Way}
use Rattle.vtable.specs.TableForm.{rows_weight}
use Rattle.vtable.specs.declared.table.VColumn.{VColumn}
use Rattle.vtable.specs.declared.table.VRow.{VRow}

-- ---- how many ways

ranked_count : (name : ColName) (columns : List Ranked) (rank : ℕ) (ways : List Way) → length (ways_ranked name columns rank ways) ≡ rank * length ways
ranked_count name columns zero ways = omega arith
ranked_count name columns (suc rank) ways =
    let rest = ranked_count name columns rank ways in
    let a = length-append (ways_ranked name columns rank ways) (map (way_with (rank_cond name (suc rank) columns) name (suc rank)) ways) in
    let m = length-map ways (way_with (rank_cond name (suc rank) columns) name (suc rank)) in
    omega (arith, rest, a, m)

name_count : (name : ColName) (columns : List Ranked) (ways : List Way) → length (ways_of name columns ways) ≡ (last_rank name columns + 1) * length ways
name_count name columns ways =
    let rest = ranked_count name columns (last_rank name columns) ways in
    let none : List Way = map (way_with (none_ranked name columns (last_rank name columns)) name 0) ways in
    let a = length-append none (ways_ranked name columns (last_rank name columns) ways) in
    let m = length-map ways (way_with (none_ranked name columns (last_rank name columns)) name 0) in
    omega (arith, rest, a, m)

abbrev pub ways_product : List Ranked → List ColName → ℕ
ways_product columns [] = 1
ways_product columns (name ∷ names) = (last_rank name columns + 1) * ways_product columns names

pub all_count : (columns : List Ranked) (names : List ColName) → length (all_ways names columns) ≡ ways_product columns names
all_count columns [] = refl
all_count columns (name ∷ names) = name_count name columns (all_ways names columns) ∙ ap (λ n. (last_rank name columns + 1) * n) (all_count columns names)

-- ---- what the columns of a name and rank weigh

module _ (name : ColName) where
  abbrev rank_cost : ℕ → List Ranked → ℕ
  rank_cost rank [] = 0
  rank_cost rank (x ∷ xs) = cost_if (same_name x.column.name name && (x.rank == rank)) x.column + rank_cost rank xs

  -- those of the name
  abbrev pub name_cost : List Ranked → ℕ
  name_cost [] = 0
  name_cost (x ∷ xs) = cost_if (same_name x.column.name name) x.column + name_cost xs

  -- those of so many ranks, from 1
  abbrev ranks_cost : List Ranked → ℕ → ℕ
  ranks_cost xs zero = 0
  ranks_cost xs (suc rank) = ranks_cost xs rank + rank_cost (suc rank) xs

  abbrev one_cost : Ranked → ℕ → ℕ
  one_cost x zero = 0
  one_cost x (suc rank) = one_cost x rank + cost_if (same_name x.column.name name && (x.rank == suc rank)) x.column

  unequal : (a b : ℕ) (t : Bool) → (a == b) ≡ t → b < a → t ≡ false
  unequal a b false is h = refl
  unequal a b true is h = absurd (let same = eqb-true a b is in omega (arith, same, h))

  one_above : (x : Ranked) (rank : ℕ) → rank < x.rank → one_cost x rank ≡ 0
  one_above x zero below = refl
  one_above x (suc rank) below =
      let rest = one_above x rank (omega (arith, below)) in
      let other : (x.rank == suc rank) ≡ false = unequal x.rank (suc rank) (x.rank == suc rank) refl below in
      let none : cost_if (same_name x.column.name name && (x.rank == suc rank)) x.column ≡ 0 = ap (λ b. cost_if (same_name x.column.name name && b) x.column) other ∙ ap (λ b. cost_if b x.column) (and_false (same_name x.column.name name)) in
      omega (arith, rest, none)

  one_step : (x : Ranked) (rank : ℕ) (same here : Bool) → same_name x.column.name name ≡ same → (x.rank == suc rank) ≡ here → one_cost x rank ≤ cost_if (same_name x.column.name name) x.column → one_cost x rank + cost_if (same && here) x.column ≤ cost_if (same_name x.column.name name) x.column
  one_step x rank false here is at rest = omega (arith, rest)
  one_step x rank true false is at rest = omega (arith, rest)
  one_step x rank true true is at rest =
      let same = eqb-true x.rank (suc rank) at in
      let none = one_above x rank (omega (arith, same)) in
      let all : cost_if (same_name x.column.name name) x.column ≡ weight_of x.column.cond + 1 = ap (λ b. cost_if b x.column) is in
      omega (arith, none, all)

  one_within : (x : Ranked) (rank : ℕ) → one_cost x rank ≤ cost_if (same_name x.column.name name) x.column
  one_within x zero = omega arith
  one_within x (suc rank) = one_step x rank (same_name x.column.name name) (x.rank == suc rank) refl refl (one_within x rank)

  ranks_split : (x : Ranked) (xs : List Ranked) (rank : ℕ) → ranks_cost (x ∷ xs) rank ≡ one_cost x rank + ranks_cost xs rank
  ranks_split x xs zero = refl
  ranks_split x xs (suc rank) = let rest = ranks_split x xs rank in omega (arith, rest)

  ranks_none : (rank : ℕ) → ranks_cost [] rank ≡ 0
  ranks_none zero = refl
  ranks_none (suc rank) = let rest = ranks_none rank in omega (arith, rest)

  ranks_within : (xs : List Ranked) (rank : ℕ) → ranks_cost xs rank ≤ name_cost xs
  ranks_within [] rank = let none = ranks_none rank in omega (arith, none)
  ranks_within (x ∷ xs) rank =
      let split = ranks_split x xs rank in
      let one = one_within x rank in
      let rest = ranks_within xs rank in
      omega (arith, split, one, rest)

  less_if : (same here : Bool) (k : VColumn) → cost_if (same && here) k ≤ cost_if same k
  less_if false here k = omega arith
  less_if true true k = omega arith
  less_if true false k = omega arith

  rank_within : (rank : ℕ) (xs : List Ranked) → rank_cost rank xs ≤ name_cost xs
  rank_within rank [] = omega arith
  rank_within rank (x ∷ xs) =
      let one = less_if (same_name x.column.name name) (x.rank == rank) x.column in
      let rest = rank_within rank xs in
      omega (arith, one, rest)

  -- ---- what the conditions of a name's ways weigh

  rank_step : (rank : ℕ) (out : Expr) (x : Ranked) (wanted : Bool) → (same_name x.column.name name && (x.rank == rank)) ≡ wanted → weight_of (with_rank name rank out x) ≤ weight_of out + cost_if wanted x.column
  rank_step rank out x true is = rw is (let w = once_weighs out x.column.cond in omega (arith, w))
  rank_step rank out x false is = rw is (omega arith)

  rank_fold : (rank : ℕ) (out : Expr) (xs : List Ranked) → weight_of (fold (with_rank name rank) out xs) ≤ weight_of out + rank_cost rank xs
  rank_fold rank out [] = omega arith
  rank_fold rank out (x ∷ xs) =
      let rest = rank_fold rank (with_rank name rank out x) xs in
      let here = rank_step rank out x (same_name x.column.name name && (x.rank == rank)) refl in
      omega (arith, rest, here)

  rank_weighs : (rank : ℕ) (xs : List Ranked) → weight_of (rank_cond name rank xs) ≤ 1 + name_cost xs
  rank_weighs rank xs =
      let all = rank_fold rank e.False xs in
      let most = rank_within rank xs in
      let w = weight_False in
      omega (arith, all, most, w)

  found_step : (rank : ℕ) (x : Ranked) (xs : List Ranked) (wanted : Bool) → (same_name x.column.name name && (x.rank == rank)) ≡ wanted → (rank_cond name rank xs ≡ e.False) ⊎ (weight_of (rank_cond name rank xs) + 1 ≤ rank_cost rank xs) → (rank_cond name rank (x ∷ xs) ≡ e.False) ⊎ (weight_of (rank_cond name rank (x ∷ xs)) + 1 ≤ cost_if wanted x.column + rank_cost rank xs)
  found_step rank x xs true is rest = inr (
      let all = rank_fold rank (with_rank name rank e.False x) xs in
      let one : weight_of (with_rank name rank e.False x) ≤ weight_of x.column.cond = rw is (once_first x.column.cond) in
      omega (arith, all, one))
  found_step rank x xs false is rest = rw is (elim rest [ inl none ↦ inl none | inr some ↦ inr (omega (arith, some)) ])

  rank_found : (rank : ℕ) (xs : List Ranked) → (rank_cond name rank xs ≡ e.False) ⊎ (weight_of (rank_cond name rank xs) + 1 ≤ rank_cost rank xs)
  rank_found rank [] = inl refl
  rank_found rank (x ∷ xs) = found_step rank x xs (same_name x.column.name name && (x.rank == rank)) refl (rank_found rank xs)

  and_not : (c : Expr) (rank : ℕ) (xs : List Ranked) → weight_of (and_of c (not_of (rank_cond name rank xs))) ≤ weight_of c + rank_cost rank xs + 1
  and_not c rank xs =
      elim (rank_found rank xs) [
        | inl none ↦ subst (λ x. weight_of (and_of c (not_of x)) ≤ weight_of c + rank_cost rank xs + 1) (sym none) (let n = and_not_False c in omega (arith, n))
        | inr some ↦
            let n = not_weighs (rank_cond name rank xs) in
            let a = and_weighs c (not_of (rank_cond name rank xs)) in
            omega (arith, some, n, a)
      ]

  none_step : (rank : ℕ) (xs : List Ranked) → weight_of (none_ranked name xs rank) ≤ 1 + rank + ranks_cost xs rank
  none_step zero xs = let w = weight_True in omega (arith, w)
  none_step (suc rank) xs =
      let rest = none_step rank xs in
      let here = and_not (none_ranked name xs rank) (suc rank) xs in
      omega (arith, rest, here)

  none_weighs : (rank : ℕ) (xs : List Ranked) → weight_of (none_ranked name xs rank) ≤ 1 + rank + name_cost xs
  none_weighs rank xs =
      let all = none_step rank xs in
      let most = ranks_within xs rank in
      omega (arith, all, most)

-- a way whose condition adds no more to another
pub record Adds (more : ℕ) (way : Way) : Type 0 where
  pub adds : (c : Expr) → weight_of (and_of c way.cond) ≤ weight_of c + more

-- what all the ways of the names may add
abbrev pub names_add : List Ranked → List ColName → ℕ
names_add columns [] = 0
names_add columns (name ∷ names) = 2 + last_rank name columns + name_cost name columns + names_add columns names

with_adds : (cond : Expr) (name : ColName) (rank more total : ℕ) (way : Way) → weight_of cond + more + 1 ≤ total → Adds more way → Adds total (way_with cond name rank way)
with_adds cond name rank more total way within way_adds = record {
  adds = λ c.
      let inner = way_adds.adds cond in
      let outer = and_weighs c (and_of cond way.cond) in
      omega (arith, inner, outer, within);
}

map_add : (cond : Expr) (name : ColName) (rank more total : ℕ) (ways : List Way) → weight_of cond + more + 1 ≤ total → AllByRecursion (Adds more) ways → AllByRecursion (Adds total) (map (way_with cond name rank) ways)
map_add cond name rank more total [] within all = tt
map_add cond name rank more total (way ∷ ways) within all = (with_adds cond name rank more total way within all.0, map_add cond name rank more total ways within all.1)

both_add : (total : ℕ) (xs ys : List Way) → AllByRecursion (Adds total) xs → AllByRecursion (Adds total) ys → AllByRecursion (Adds total) (xs ++ ys)
both_add total [] ys a b = b
both_add total (x ∷ xs) ys a b = (a.0, both_add total xs ys a.1 b)

ranked_add : (name : ColName) (columns : List Ranked) (more total : ℕ) (ways : List Way) (rank : ℕ) → 1 + name_cost name columns + more + 1 ≤ total → AllByRecursion (Adds more) ways → AllByRecursion (Adds total) (ways_ranked name columns rank ways)
ranked_add name columns more total ways zero within all = tt
ranked_add name columns more total ways (suc rank) within all =
    let w = rank_weighs name (suc rank) columns in
    both_add total (ways_ranked name columns rank ways) (map (way_with (rank_cond name (suc rank) columns) name (suc rank)) ways)
    (ranked_add name columns more total ways rank within all)
    (map_add (rank_cond name (suc rank) columns) name (suc rank) more total ways (omega (arith, w, within)) all)

pub all_add : (columns : List Ranked) (names : List ColName) → AllByRecursion (Adds (names_add columns names)) (all_ways names columns)
all_add columns [] = (record { adds = λ c. let w = and_True c in omega (arith, w) }, tt)
all_add columns (name ∷ names) =
    let last = last_rank name columns in
    let rest = all_add columns names in
    let w = none_weighs name last columns in
    both_add (names_add columns (name ∷ names)) (map (way_with (none_ranked name columns last) name 0) (all_ways names columns)) (ways_ranked name columns last (all_ways names columns))
    (map_add (none_ranked name columns last) name 0 (names_add columns names) (names_add columns (name ∷ names)) (all_ways names columns) (omega (arith, w)) rest)
    (ranked_add name columns (names_add columns names) (names_add columns (name ∷ names)) (all_ways names columns) last (omega arith) rest)

-- ---- the rows in these ways

taken_count : (to columns : List VColumn) (rows : List VRow) (ways : List Way) → length (flat_map (rows_taken to columns rows) ways) ≤ length ways * length rows
taken_count to columns rows [] = omega arith
taken_count to columns rows (way ∷ ways) =
    let rest = taken_count to columns rows ways in
    let one = made_fewer (row_taken to columns way) rows in
    let a = length-append (rows_taken to columns rows way) (flat_map (rows_taken to columns rows) ways) in
    omega (arith, rest, one, a)

row_adds : (to columns : List VColumn) (more : ℕ) (way : Way) → Adds more way → (row : VRow) → made_weight (row_taken to columns way row) ≤ weight_of row.cond + more
row_adds to columns more way way_adds row =
    let made = row_weighs (cells_taken to columns way.ranks row.cells) (and_of row.cond way.cond) in
    let most = way_adds.adds row.cond in
    omega (arith, made, most)

taken_weighs : (to columns : List VColumn) (rows : List VRow) (more : ℕ) (ways : List Way) → AllByRecursion (Adds more) ways → rows_weight (flat_map (rows_taken to columns rows) ways) ≤ length ways * (rows_weight rows + length rows * more)
taken_weighs to columns rows more [] all = omega arith
taken_weighs to columns rows more (way ∷ ways) all =
    let rest = taken_weighs to columns rows more ways all.1 in
    let one = made_rows (row_taken to columns way) more (row_adds to columns more way all.0) rows in
    let a = rows-append (rows_taken to columns rows way) (flat_map (rows_taken to columns rows) ways) in
    omega (arith, rest, one, a)

module _ (to columns : List VColumn) (rows : List VRow) (xs : List Ranked) (names : List ColName) where
  pub merged_count : length (flat_map (rows_taken to columns rows) (all_ways names xs)) ≤ ways_product xs names * length rows
  merged_count = subst (λ n. length (flat_map (rows_taken to columns rows) (all_ways names xs)) ≤ n * length rows) (all_count xs names) (taken_count to columns rows (all_ways names xs))

  pub merged_weighs : rows_weight (flat_map (rows_taken to columns rows) (all_ways names xs)) ≤ ways_product xs names * (rows_weight rows + length rows * names_add xs names)
  merged_weighs = subst (λ n. rows_weight (flat_map (rows_taken to columns rows) (all_ways names xs)) ≤ n * (rows_weight rows + length rows * names_add xs names)) (all_count xs names) (taken_weighs to columns rows (names_add xs names) (all_ways names xs) (all_add xs names))
