-- The tables of items, of an alias and of a join are within their bounds.
use Rattle.std.proofs.Common.{◌≡◌, ◌∙◌, ℕ, suc, ◌+◌, ◌*◌, ◌^◌, ◌≤◌, ◌<◌, ◌==◌, inl, inr, Bool, true, false, ◌&&◌, ◌||◌, List, [], ◌∷◌, ◌++◌, map, length, length-append, count_by, Option, Some, None, if◌then◌else◌, refl, sym, ap, ap₂, subst, true≢false, arith}
use Rattle.std.proofs.lemmas.Bool.{eqb-true}
use Rattle.std.proofs.lemmas.List.{length-map, map-append}
use Rattle.std.proofs.lemmas.List.Sums.{sum_by-cons}
use Rattle.std.proofs.lemmas.Nat.{mul-le}
use Rattle.std.proofs.Math.Nat.{pow-le-pow_right}
use Rattle.std.specs.List.{flat_map, list_any, sum_by}
use Rattle.feature_expr.specs.Expressions.{and_of, weight_of}
use Rattle.feature_expr.specs.declared.expr.Expr.{Expr}
use Rattle.values.specs.declared.column_name.ColName.{ColName}
use Rattle.values.specs.declared.value.Kind.{Kind}
use Rattle.values.specs.declared.value.Kind.TheVariants as sort
use Rattle.plain_relation.specs.Relations.{Column, same_name}
use Rattle.plain_relation.specs.Values.{same_kind}
use Rattle.query_meaning.specs.Bounds.{IsWithin, Size, aliased_size, cond_or_true, item_weight, joined_column_weight, joined_size, kept_size, listed_size, names_in, shared_count, ways}
use Rattle.relational_algebra.specs.Columns.{prefixed, same_column}
use Rattle.relational_algebra.specs.Conditions.{condition_cost}
use Rattle.relational_algebra.specs.Items.{given}
use Rattle.row_conditions.proofs.BoolLaws.{or_cases}
use Rattle.row_conditions.proofs.FoldingLaws.{and_weighs, weight_pos}
use Rattle.row_conditions.proofs.NameLaws.{name_is, name_same}
use Rattle.row_conditions.proofs.TruthWeights.{slots_weight-append, slots_within, truth_weighs}
use Rattle.row_conditions.specs.RowConditions.{columns_weight}
use Rattle.row_conditions.specs.Truths.{slots_of, truth_of}
use Rattle.plan_tables.proofs.SettleLaws.{headings_under}
use Rattle.plan_merges.proofs.CountLaws.{count-append, count_cons, count_more, distinct_has, fewer_names, last_within, name_back, one_if, product_few, product_given, ranks_few, ranks_given, repeated_add}
use Rattle.plan_merges.proofs.PairLaws.{once_counted, repeated_shared, unrepeated_weighs}
use Rattle.plan_merges.proofs.WayWeights.{merged_count, merged_weighs, names_add, ways_product}
use Rattle.plan_tables.proofs.WeightLaws.{and_any, columns_cost, cost-append, cost_is, made_fewer, made_rows, made_weight, row_weighs, rows-append, settled_costs, under_weighs}
use Rattle.plan_merges.specs.Merges.{aliased_column, aliased_table, columns_of_item, cond_of_item, count_same, items_table, joined_table, kept_table, last_rank, merged_table, pair_meeting, pairs_of_row, pairs_table, ranked, repeated_names, row_of_items}
use Rattle.plan_tables.specs.StoredRows.{size_of}
use Rattle.plan_tables.specs.Tables.{heading, any_of, columns_under, headings, once_each, settled}
use Rattle.plan_merges.specs.declared.way.Ranked.{Ranked}
use Rattle.vra_syntax.specs.declared.cond.Cond.{Cond}
use Rattle.vra_syntax.specs.declared.items.Item.{Item}
use Rattle.vra_syntax.specs.declared.items.Items.{Items}
use Rattle.vra_syntax.specs.declared.items.Items.TheVariants.{All, Listed}
use Rattle.vtable.specs.TableForm.{rows_weight}
use Rattle.vtable.specs.declared.table.VColumn.{VColumn}
use Rattle.vtable.specs.declared.table.VRow.{VRow}
use Rattle.vtable.specs.declared.table.VTable.{VTable}

-- ---- a name and kind, by its parts

abbrev key_of : ColName → Kind → Column
key_of name kind = record { name = name; kind = kind }

kind_step : (name : ColName) (k : VColumn) (kind : Kind) → same_name k.name name ≡ true → k.kind ≡ kind → same_kind kind kind ≡ true → same_column (key_of name kind) (heading k) ≡ true
kind_step name k kind named is same = both_true (same_name name k.name) (same_kind kind k.kind) (name_back k.name name named) (ap (same_kind kind) is ∙ same) where
  both_true : (a b : Bool) → a ≡ true → b ≡ true → (a && b) ≡ true
  both_true true b h k = k
  both_true false b h k = absurd (true≢false (sym h))

-- ---- a name has a column of each kind at most

abbrev named_count : ColName → List VColumn → ℕ
named_count name [] = 0
named_count name (k ∷ ks) = one_if (same_name k.name name) + named_count name ks

abbrev kinds_count : ColName → List VColumn → ℕ
kinds_count name ks = count_same (key_of name sort.Int) (headings ks) + count_same (key_of name sort.Text) (headings ks) + count_same (key_of name sort.Bool) (headings ks)

at_least_one : (key : Column) (k : VColumn) (ks : List VColumn) → count_same key (headings ks) ≤ count_same key (headings (k ∷ ks))
at_least_one key k ks = let one = count_cons key (heading k) (headings ks) (same_column key (heading k)) refl in omega (arith, one)

named_step : (name : ColName) (k : VColumn) (ks : List VColumn) (named : Bool) (kind : Kind) → same_name k.name name ≡ named → k.kind ≡ kind → named_count name ks ≤ kinds_count name ks → one_if named + named_count name ks ≤ kinds_count name (k ∷ ks)
named_step name k ks false kind is at rest =
    let a = at_least_one (key_of name sort.Int) k ks in
    let b = at_least_one (key_of name sort.Text) k ks in
    let c = at_least_one (key_of name sort.Bool) k ks in
    omega (arith, rest, a, b, c)
named_step name k ks true sort.Int is at rest =
    let a = count_cons (key_of name sort.Int) (heading k) (headings ks) true (kind_step name k sort.Int is at refl) in
    let b = at_least_one (key_of name sort.Text) k ks in
    let c = at_least_one (key_of name sort.Bool) k ks in
    omega (arith, rest, a, b, c)
named_step name k ks true sort.Text is at rest =
    let a = at_least_one (key_of name sort.Int) k ks in
    let b = count_cons (key_of name sort.Text) (heading k) (headings ks) true (kind_step name k sort.Text is at refl) in
    let c = at_least_one (key_of name sort.Bool) k ks in
    omega (arith, rest, a, b, c)
named_step name k ks true sort.Bool is at rest =
    let a = at_least_one (key_of name sort.Int) k ks in
    let b = at_least_one (key_of name sort.Text) k ks in
    let c = count_cons (key_of name sort.Bool) (heading k) (headings ks) true (kind_step name k sort.Bool is at refl) in
    omega (arith, rest, a, b, c)

named_kinds : (name : ColName) (ks : List VColumn) → named_count name ks ≤ kinds_count name ks
named_kinds name [] = omega arith
named_kinds name (k ∷ ks) = named_step name k ks (same_name k.name name) k.kind refl refl (named_kinds name ks)

named_few : (name : ColName) (ks : List VColumn) → once_each (headings ks) ≡ true → named_count name ks ≤ 3
named_few name ks once =
    let all = named_kinds name ks in
    let a = once_counted (key_of name sort.Int) (headings ks) once in
    let b = once_counted (key_of name sort.Text) (headings ks) once in
    let c = once_counted (key_of name sort.Bool) (headings ks) once in
    omega (arith, all, a, b, c)

-- ---- items

item_cond : (cond : Option Expr) (k : Expr) → weight_of (cond_of_item cond k) ≤ weight_of k + weight_of (cond_or_true cond) + 1
item_cond None k = omega arith
item_cond (Some kept) k = let w = and_weighs kept k in omega (arith, w)

item_step : (item : Item) (k : VColumn) (ks : List VColumn) (named : Bool) → same_name k.name item.column ≡ named → columns_cost (columns_of_item ks item) ≤ columns_weight ks + named_count item.column ks * (weight_of (cond_or_true item.cond) + 2) → columns_cost (columns_of_item (k ∷ ks) item) ≤ columns_weight (k ∷ ks) + (one_if named + named_count item.column ks) * (weight_of (cond_or_true item.cond) + 2)
item_step item k ks true is rest =
    rw is (
    let one = item_cond item.cond k.cond in
    let cons = sum_by-cons (λ (k : VColumn). weight_of k.cond) k ks in
    omega (arith, one, cons, rest))
item_step item k ks false is rest = rw is (let cons = sum_by-cons (λ (k : VColumn). weight_of k.cond) k ks in omega (arith, cons, rest))

item_cost : (item : Item) (ks : List VColumn) → columns_cost (columns_of_item ks item) ≤ columns_weight ks + named_count item.column ks * (weight_of (cond_or_true item.cond) + 2)
item_cost item [] = omega arith
item_cost item (k ∷ ks) = item_step item k ks (same_name k.name item.column) refl (item_cost item ks)

item_weighs : (item : Item) (ks : List VColumn) → once_each (headings ks) ≡ true → columns_cost (columns_of_item ks item) + 2 ≤ item_weight (columns_weight ks) item
item_weighs item ks once =
    let w = weight_of (cond_or_true item.cond) in
    let all = item_cost item ks in
    let few = mul-le (named_count item.column ks) (w + 2) 3 (w + 2) (named_few item.column ks once) (omega arith) in
    omega (arith, all, few)

items_weigh : (items : List Item) (ks : List VColumn) → once_each (headings ks) ≡ true → columns_cost (flat_map (columns_of_item ks) items) + 2 * length items ≤ sum_by (item_weight (columns_weight ks)) items
items_weigh [] ks once = omega arith
items_weigh (item ∷ items) ks once =
    let one = item_weighs item ks once in
    let rest = items_weigh items ks once in
    let both = cost-append (columns_of_item ks item) (flat_map (columns_of_item ks) items) in
    let cons = sum_by-cons (item_weight (columns_weight ks)) item items in
    omega (arith, one, rest, both, cons)

times_one : (m n : ℕ) → m ≡ 1 → m * n ≡ n
times_one m n is = ap (λ x. x * n) is ∙ once_more n where
  once_more : (n : ℕ) → 1 * n ≡ n
  once_more n = omega arith

key_step : (key : Column) (item : Item) (k : VColumn) (ks : List VColumn) (named here : Bool) → same_name k.name item.column ≡ named → same_column key (key_of (given item) k.kind) ≡ here → count_same key (headings (columns_of_item ks item)) ≤ one_if (same_name key.name (given item)) * count_same (key_of item.column key.kind) (headings ks) → count_same key (headings (columns_of_item (k ∷ ks) item)) ≤ one_if (same_name key.name (given item)) * count_same (key_of item.column key.kind) (headings (k ∷ ks))
key_step key item k ks false here is at rest =
    rw is (
    let more = at_least_one (key_of item.column key.kind) k ks in
    let product = mul-le (one_if (same_name key.name (given item))) (count_same (key_of item.column key.kind) (headings ks)) (one_if (same_name key.name (given item))) (count_same (key_of item.column key.kind) (headings (k ∷ ks))) (omega arith) more in
    omega (arith, rest, product))
key_step key item k ks true false is at rest =
    rw is (
    let one = count_cons key (key_of (given item) k.kind) (headings (columns_of_item ks item)) false at in
    let more = at_least_one (key_of item.column key.kind) k ks in
    let product = mul-le (one_if (same_name key.name (given item))) (count_same (key_of item.column key.kind) (headings ks)) (one_if (same_name key.name (given item))) (count_same (key_of item.column key.kind) (headings (k ∷ ks))) (omega arith) more in
    omega (arith, rest, product, one))
key_step key item k ks true true is at rest =
    rw is (
    let parts = both_parts (same_name key.name (given item)) (same_kind key.kind k.kind) at in
    let one = count_cons key (key_of (given item) k.kind) (headings (columns_of_item ks item)) true at in
    let here : same_column (key_of item.column key.kind) (heading k) ≡ true = both_true (same_name item.column k.name) (same_kind key.kind k.kind) (name_back k.name item.column is) parts.1 in
    let other = count_cons (key_of item.column key.kind) (heading k) (headings ks) true here in
    let hit : one_if (same_name key.name (given item)) ≡ 1 = ap one_if parts.0 in
    let part = times_one (one_if (same_name key.name (given item))) (count_same (key_of item.column key.kind) (headings ks)) hit in
    let whole = times_one (one_if (same_name key.name (given item))) (count_same (key_of item.column key.kind) (headings (k ∷ ks))) hit in
    omega (arith, rest, one, other, part, whole))
  where
    both_parts : (a b : Bool) → (a && b) ≡ true → (a ≡ true) × (b ≡ true)
    both_parts true b h = (refl, h)
    both_parts false b h = absurd (true≢false (sym h))

    both_true : (a b : Bool) → a ≡ true → b ≡ true → (a && b) ≡ true
    both_true true b h k = k
    both_true false b h k = absurd (true≢false (sym h))

key_counted : (key : Column) (item : Item) (ks : List VColumn) → count_same key (headings (columns_of_item ks item)) ≤ one_if (same_name key.name (given item)) * count_same (key_of item.column key.kind) (headings ks)
key_counted key item [] = omega arith
key_counted key item (k ∷ ks) = key_step key item k ks (same_name k.name item.column) (same_column key (key_of (given item) k.kind)) refl refl (key_counted key item ks)

item_counted : (key : Column) (item : Item) (ks : List VColumn) → once_each (headings ks) ≡ true → count_same key (headings (columns_of_item ks item)) ≤ one_if (same_name key.name (given item))
item_counted key item ks once =
    let all = key_counted key item ks in
    let few = once_counted (key_of item.column key.kind) (headings ks) once in
    let product = mul-le (one_if (same_name key.name (given item))) (count_same (key_of item.column key.kind) (headings ks)) (one_if (same_name key.name (given item))) 1 (omega arith) few in
    omega (arith, all, product)

items_counted : (key : Column) (items : List Item) (ks : List VColumn) → once_each (headings ks) ≡ true → count_same key (headings (flat_map (columns_of_item ks) items)) ≤ count_by (same_name key.name) (map given items)
items_counted key [] ks once = omega arith
items_counted key (item ∷ items) ks once =
    let one = item_counted key item ks once in
    let rest = items_counted key items ks once in
    let split = ap (count_same key) (map-append heading (columns_of_item ks item) (flat_map (columns_of_item ks) items)) in
    let both = count-append key (headings (columns_of_item ks item)) (headings (flat_map (columns_of_item ks) items)) in
    let more = count_more key.name (given item) (map given items) (same_name key.name (given item)) refl in
    omega (arith, one, rest, split, both, more)

-- what a table whose names are given so often becomes, once each name and kind stands once
merged_sized : (names : List ColName) (columns : ℕ) (t : VTable) (x : Size) → ((key : Column) → count_same key (headings t.columns) ≤ count_by (same_name key.name) names) → columns_cost t.columns + 2 * length names ≤ columns → length t.rows ≤ x.rows → rows_weight t.rows ≤ x.row_weight → IsWithin (size_of (merged_table t)) (listed_size names columns x)
merged_sized names columns t x counted within rows weight =
    let product = product_given (ranked t.columns) names (λ name. last_within (λ n. count_by (same_name n) names) name [] t.columns counted) in
    let given_add = ranks_given (ranked t.columns) names (λ name. last_within (λ n. count_by (same_name n) names) name [] t.columns counted) in
    let adds = repeated_add t.columns in
    let few = merged_count (settled t.columns) t.columns t.rows (ranked t.columns) (repeated_names (ranked t.columns)) in
    let light = merged_weighs (settled t.columns) t.columns t.rows (ranked t.columns) (repeated_names (ranked t.columns)) in
    let f = ways_product (ranked t.columns) (repeated_names (ranked t.columns)) in
    let n = mul-le f (length t.rows) (ways names) x.rows product rows in
    let w = mul-le f (rows_weight t.rows) (ways names) x.row_weight product weight in
    let each = mul-le (length t.rows) (names_add (ranked t.columns) (repeated_names (ranked t.columns))) x.rows columns rows (omega (arith, given_add, adds, within)) in
    let all = mul-le f (length t.rows * names_add (ranked t.columns) (repeated_names (ranked t.columns))) (ways names) (x.rows * columns) product each in
    let own = settled_costs t.columns in
    let cost = cost_is (settled t.columns) in
    record {
      rows = omega (arith, few, n);
      row_weight = omega (arith, light, w, all);
      column_weight = omega (arith, own, cost, within);
    }

rows_kept : (columns : List VColumn) (items : List Item) (rows : List VRow) → rows_weight (map (row_of_items columns items) rows) ≡ rows_weight rows
rows_kept columns items [] = refl
rows_kept columns items (row ∷ rows) =
    let rest = rows_kept columns items rows in
    let a = sum_by-cons (λ (row : VRow). weight_of row.cond) row rows in
    let b = sum_by-cons (λ (row : VRow). weight_of row.cond) (row_of_items columns items row) (map (row_of_items columns items) rows) in
    omega (arith, rest, a, b)

pub keep_sized : (items : Items) (t : VTable) → once_each (headings t.columns) ≡ true → IsWithin (size_of (kept_table items t)) (kept_size items (size_of t))
keep_sized All t once = record { rows = omega arith; row_weight = omega arith; column_weight = omega arith }
keep_sized (Listed items) t once =
    let weigh = items_weigh items t.columns once in
    let long = length-map items given in
    let rows = length-map t.rows (row_of_items t.columns items) in
    let same = rows_kept t.columns items t.rows in
    merged_sized (map given items) (sum_by (item_weight (columns_weight t.columns)) items) (items_table items t) (size_of t) (λ key. items_counted key items t.columns once) (omega (arith, weigh, long)) (omega (arith, rows)) (omega (arith, same))

-- ---- an alias

module _ (alias : List ℕ) (key : Column) where
  abbrev alias_if : Bool → ℕ → ℕ
  alias_if b n = if b then n else 0

  -- how often the key stands among the columns of these names under the alias
  abbrev alias_count : List ColName → List VColumn → ℕ
  alias_count [] ks = 0
  alias_count (name ∷ names) ks = alias_if (same_name key.name (prefixed alias name)) (count_same (key_of name key.kind) (headings ks)) + alias_count names ks

  abbrev alias_hits : List ColName → VColumn → ℕ
  alias_hits [] k = 0
  alias_hits (name ∷ names) k = alias_if (same_name key.name (prefixed alias name)) (one_if (same_column (key_of name key.kind) (heading k))) + alias_hits names k

  split_step : (name : ColName) (k : VColumn) (ks : List VColumn) (same : Bool) → alias_if same (count_same (key_of name key.kind) (headings (k ∷ ks))) ≡ alias_if same (one_if (same_column (key_of name key.kind) (heading k))) + alias_if same (count_same (key_of name key.kind) (headings ks))
  split_step name k ks true = count_cons (key_of name key.kind) (heading k) (headings ks) (same_column (key_of name key.kind) (heading k)) refl
  split_step name k ks false = refl

  alias_split : (names : List ColName) (k : VColumn) (ks : List VColumn) → alias_count names (k ∷ ks) ≡ alias_hits names k + alias_count names ks
  alias_split [] k ks = refl
  alias_split (name ∷ names) k ks =
      let rest = alias_split names k ks in
      let one = split_step name k ks (same_name key.name (prefixed alias name)) in
      omega (arith, rest, one)

  hit_here : (name : ColName) (k : VColumn) → same_name k.name name ≡ true → same_column key (heading (aliased_column alias k)) ≡ true → alias_if (same_name key.name (prefixed alias name)) (one_if (same_column (key_of name key.kind) (heading k))) ≡ 1
  hit_here name k named here =
      let parts = both_parts (same_name key.name (prefixed alias k.name)) (same_kind key.kind k.kind) here in
      let same : k.name ≡ name = name_is k.name name named in
      let by_name : same_name key.name (prefixed alias name) ≡ true = ap (λ n. same_name key.name (prefixed alias n)) (sym same) ∙ parts.0 in
      let by_key : same_column (key_of name key.kind) (heading k) ≡ true = both_true (same_name name k.name) (same_kind key.kind k.kind) (name_back k.name name named) parts.1 in
      ap₂ (λ a b. alias_if a (one_if b)) by_name by_key
    where
      both_parts : (a b : Bool) → (a && b) ≡ true → (a ≡ true) × (b ≡ true)
      both_parts true b h = (refl, h)
      both_parts false b h = absurd (true≢false (sym h))

      both_true : (a b : Bool) → a ≡ true → b ≡ true → (a && b) ≡ true
      both_true true b h k = k
      both_true false b h k = absurd (true≢false (sym h))

  hit_found : (names : List ColName) (k : VColumn) → list_any (same_name k.name) names ≡ true → same_column key (heading (aliased_column alias k)) ≡ true → 1 ≤ alias_hits names k
  hit_found [] k named here = absurd (true≢false (sym named))
  hit_found (name ∷ names) k named here =
      elim (or_cases (same_name k.name name) (list_any (same_name k.name) names) named) [
        | inl first ↦ let one = hit_here name k first here in omega (arith, one)
        | inr later ↦ let rest = hit_found names k later here in omega (arith, rest)
      ]

  hit_step : (names : List ColName) (k : VColumn) (here : Bool) → same_column key (heading (aliased_column alias k)) ≡ here → list_any (same_name k.name) names ≡ true → one_if here ≤ alias_hits names k
  hit_step names k true is named = hit_found names k named is
  hit_step names k false is named = omega arith

  alias_counted : (names : List ColName) (ks : List VColumn) → ((name : ColName) → list_any (same_name name) (map (λ (column : Column). column.name) (headings ks)) ≡ true → list_any (same_name name) names ≡ true) → count_same key (headings (map (aliased_column alias) ks)) ≤ alias_count names ks
  alias_counted names [] named = omega arith
  alias_counted names (k ∷ ks) named =
      let rest = alias_counted names ks (λ name h. named name (there_too (same_name name k.name) (list_any (same_name name) (map (λ (column : Column). column.name) (headings ks))) h)) in
      let one = hit_step names k (same_column key (heading (aliased_column alias k))) refl (named k.name (here (same_name k.name k.name) (list_any (same_name k.name) (map (λ (column : Column). column.name) (headings ks))) (name_same k.name))) in
      let cons = count_cons key (heading (aliased_column alias k)) (headings (map (aliased_column alias) ks)) (same_column key (heading (aliased_column alias k))) refl in
      let split = alias_split names k ks in
      omega (arith, rest, one, cons, split)
    where
      there_too : (a b : Bool) → b ≡ true → (a || b) ≡ true
      there_too true b h = refl
      there_too false b h = h

      here : (a b : Bool) → a ≡ true → (a || b) ≡ true
      here true b h = refl
      here false b h = absurd (true≢false (sym h))

  name_step : (name : ColName) (names : List ColName) (ks : List VColumn) (same : Bool) → same_name key.name (prefixed alias name) ≡ same → once_each (headings ks) ≡ true → alias_count names ks ≤ count_by (same_name key.name) (map (prefixed alias) names) → alias_if same (count_same (key_of name key.kind) (headings ks)) + alias_count names ks ≤ count_by (same_name key.name) (map (prefixed alias) (name ∷ names))
  name_step name names ks true is once rest =
      let more = count_more key.name (prefixed alias name) (map (prefixed alias) names) true is in
      let one = once_counted (key_of name key.kind) (headings ks) once in
      omega (arith, rest, more, one)
  name_step name names ks false is once rest = let more = count_more key.name (prefixed alias name) (map (prefixed alias) names) false is in omega (arith, rest, more)

  alias_few : (names : List ColName) (ks : List VColumn) → once_each (headings ks) ≡ true → alias_count names ks ≤ count_by (same_name key.name) (map (prefixed alias) names)
  alias_few [] ks once = omega arith
  alias_few (name ∷ names) ks once = name_step name names ks (same_name key.name (prefixed alias name)) refl once (alias_few names ks once)

  pub alias_given : (ks : List VColumn) → once_each (headings ks) ≡ true → count_same key (headings (map (aliased_column alias) ks)) ≤ count_by (same_name key.name) (map (prefixed alias) (names_in (headings ks)))
  alias_given ks once =
      let names = map (λ (column : Column). column.name) (headings ks) in
      let all = alias_counted (names_in (headings ks)) ks (λ name h. distinct_has name (map (λ (column : Column). column.name) (headings ks)) ∙ h) in
      let few = alias_few (names_in (headings ks)) ks once in
      omega (arith, all, few)

alias_weight : (alias : List ℕ) (ks : List VColumn) → columns_weight (map (aliased_column alias) ks) ≡ columns_weight ks
alias_weight alias [] = refl
alias_weight alias (k ∷ ks) =
    let rest = alias_weight alias ks in
    let a = sum_by-cons (λ (k : VColumn). weight_of k.cond) k ks in
    let b = sum_by-cons (λ (k : VColumn). weight_of k.cond) (aliased_column alias k) (map (aliased_column alias) ks) in
    omega (arith, rest, a, b)

columns_few : (ks : List VColumn) → length ks ≤ columns_weight ks
columns_few [] = omega arith
columns_few (k ∷ ks) =
    let rest = columns_few ks in
    let cons = sum_by-cons (λ (k : VColumn). weight_of k.cond) k ks in
    let one = weight_pos k.cond in
    omega (arith, rest, cons, one)

module _ (alias : List ℕ) (t : VTable) (once : once_each (headings t.columns) ≡ true) where
  abbrev wide : VTable
  wide = record { columns = map (aliased_column alias) t.columns; rows = t.rows }

  abbrev names : List ColName
  names = map (prefixed alias) (names_in (headings t.columns))

  counted : (key : Column) → count_same key (headings wide.columns) ≤ count_by (same_name key.name) names
  counted key = alias_given alias key t.columns once

  wide_cost : columns_cost wide.columns ≤ 2 * columns_weight t.columns
  wide_cost =
      let cost = cost_is wide.columns in
      let same = alias_weight alias t.columns in
      let long = length-map t.columns (aliased_column alias) in
      let few = columns_few t.columns in
      omega (arith, cost, same, long, few)

  names_some : (ns : List ColName) (w c : ℕ) → (ways ns == 1) ≡ false → c ≤ 2 * w → c + 2 * length ns ≤ length ns * (12 + 2 * w)
  names_some [] w c many few = absurd (true≢false many)
  names_some (n ∷ ns) w c many few = let product = mul-le 1 (12 + 2 * w) (length (n ∷ ns)) (12 + 2 * w) (omega arith) (omega arith) in rest (length ns) product
    where
      rest : (m : ℕ) → 1 * (12 + 2 * w) ≤ suc m * (12 + 2 * w) → c + 2 * suc m ≤ suc m * (12 + 2 * w)
      rest m product = omega (arith, few, product)

  no_names : (m : ℕ) → 1 + m ≤ 1 → m ≡ 0
  no_names m h = omega (arith, h)

  alone : (b : Bool) → (ways names == 1) ≡ b → IsWithin (size_of (merged_table wide)) (if b then size_of t else listed_size names (length names * (12 + 2 * columns_weight t.columns)) (size_of t))
  alone false is = merged_sized names (length names * (12 + 2 * columns_weight t.columns)) wide (size_of t) counted (names_some names (columns_weight t.columns) (columns_cost wide.columns) is wide_cost) (omega arith) (omega arith)
  alone true is =
      let product = product_given (ranked wide.columns) names (λ name. last_within (λ n. count_by (same_name n) names) name [] wide.columns counted) in
      let one = eqb-true (ways names) 1 is in
      let fewer = fewer_names (ranked wide.columns) in
      let none : length (repeated_names (ranked wide.columns)) ≡ 0 = omega (arith, product, one, fewer) in
      let single : ways_product (ranked wide.columns) (repeated_names (ranked wide.columns)) ≤ 1 = omega (arith, product, one) in
      let few = merged_count (settled wide.columns) wide.columns t.rows (ranked wide.columns) (repeated_names (ranked wide.columns)) in
      let light = merged_weighs (settled wide.columns) wide.columns t.rows (ranked wide.columns) (repeated_names (ranked wide.columns)) in
      let nothing = adds_none (ranked wide.columns) (repeated_names (ranked wide.columns)) none in
      let own = unrepeated_weighs wide.columns none in
      let same = alias_weight alias t.columns in
      let rows = mul-le (ways_product (ranked wide.columns) (repeated_names (ranked wide.columns))) (length t.rows) 1 (length t.rows) single (omega arith) in
      let each = mul-le (length t.rows) (names_add (ranked wide.columns) (repeated_names (ranked wide.columns))) (length t.rows) 0 (omega arith) (omega (arith, nothing)) in
      let weight = mul-le (ways_product (ranked wide.columns) (repeated_names (ranked wide.columns))) (rows_weight t.rows + length t.rows * names_add (ranked wide.columns) (repeated_names (ranked wide.columns))) 1 (rows_weight t.rows + 0) single (omega (arith, each)) in
      record {
        rows = omega (arith, few, rows);
        row_weight = omega (arith, light, weight);
        column_weight = omega (arith, own, same);
      }
    where
      adds_none : (xs : List Ranked) (ns : List ColName) → length ns ≡ 0 → names_add xs ns ≡ 0
      adds_none xs [] none = refl
      adds_none xs (n ∷ ns) none = absurd (omega (arith, none))

  pub alias_sized : IsWithin (size_of (aliased_table alias t)) (aliased_size (headings t.columns) alias (size_of t))
  alias_sized = alone (ways names == 1) refl

-- ---- a join

two_counted : (a b : List Column) (key : Column) → once_each a ≡ true → once_each b ≡ true → count_same key (a ++ b) ≤ 2
two_counted a b key once_a once_b =
    let both = count-append key a b in
    let l = once_counted key a once_a in
    let r = once_counted key b once_b in
    omega (arith, both, l, r)

module _ (cond : Cond) (l r : VTable) (once_l : once_each (headings l.columns) ≡ true) (once_r : once_each (headings r.columns) ≡ true) where
  abbrev a : List Column
  a = headings l.columns

  abbrev b : List Column
  b = headings r.columns

  abbrev both : VTable
  both = pairs_table cond l r

  abbrev weight : ℕ
  weight = joined_column_weight a b (size_of l) (size_of r)

  both_headings : headings both.columns ≡ a ++ b
  both_headings =
      map-append heading (columns_under (any_of r.columns) l.columns) (columns_under (any_of l.columns) r.columns)
      ∙ ap₂ (λ xs ys. xs ++ ys) (headings_under (any_of r.columns) l.columns) (headings_under (any_of l.columns) r.columns)

  -- exactly the bound
  side_cost : (ks others : List VColumn) → columns_cost (columns_under (any_of others) ks) ≤ columns_weight ks + length (headings ks) * (columns_weight others + length (headings others) + 1)
  side_cost ks others =
      let under = under_weighs (any_of others) (columns_weight others + length (headings others)) (λ c. let any = and_any c others in let cost = cost_is others in let long = length-map others heading in omega (arith, any, cost, long)) ks in
      let cost = cost_is ks in
      let long : length (headings ks) ≡ length ks = length-map ks heading in
      subst (λ n. columns_cost (columns_under (any_of others) ks) ≤ columns_weight ks + n * (columns_weight others + length (headings others) + 1)) (sym long)
      (omega (arith, under, cost))

  both_cost : columns_cost both.columns ≤ weight
  both_cost =
      let left = side_cost l.columns r.columns in
      let right = side_cost r.columns l.columns in
      let all = cost-append (columns_under (any_of r.columns) l.columns) (columns_under (any_of l.columns) r.columns) in
      omega (arith, left, right, all)

  last_one : (name : ColName) → last_rank name (ranked both.columns) ≤ 1
  last_one name =
      let most = last_within (λ n. 2) name [] both.columns (λ key. subst (λ xs. count_same key xs ≤ 2) (sym both_headings) (two_counted a b key once_l once_r)) in
      omega (arith, most)

  abbrev repeats : List ColName
  repeats = repeated_names (ranked both.columns)

  few_repeats : length repeats ≤ shared_count a b
  few_repeats = repeated_shared a b both.columns both_headings once_l once_r

  ways_few : ways_product (ranked both.columns) repeats ≤ 2 ^ shared_count a b
  ways_few =
      let product = product_few (ranked both.columns) repeats last_one in
      let power = pow-le-pow_right (lt) few_repeats in
      omega (arith, product, power)
    where
      lt : 0 < 2
      lt = omega arith

  adds_by : (ns : List ColName) (s k : ℕ) → length ns ≤ s → names_add (ranked both.columns) ns ≤ 3 * length ns + k → names_add (ranked both.columns) ns ≤ s * (k + 3)
  adds_by [] s k few most = omega arith
  adds_by (n ∷ ns) s k few most =
      let product = mul-le 1 k s k (omega (arith, few)) (omega arith) in
      omega (arith, few, most, product)

  adds_few : names_add (ranked both.columns) repeats ≤ shared_count a b * (weight + 3)
  adds_few = adds_by repeats (shared_count a b) weight few_repeats (
      let add = repeated_add both.columns in
      let ranks = ranks_few (ranked both.columns) repeats last_one in
      let cost = both_cost in
      omega (arith, add, ranks, cost))

  sides_within : columns_weight l.columns + columns_weight r.columns ≤ weight
  sides_within = omega arith

  pair_row : (row other : VRow) → made_weight (pair_meeting cond l.columns r.columns row other) ≤ weight_of other.cond + (weight_of row.cond + (2 + condition_cost cond weight))
  pair_row row other =
      let slots : weight_of (truth_of (slots_of l.columns row.cells ++ slots_of r.columns other.cells) cond) ≤ condition_cost cond weight =
      truth_weighs (slots_of l.columns row.cells ++ slots_of r.columns other.cells) weight
      (let split = slots_weight-append (slots_of l.columns row.cells) (slots_of r.columns other.cells) in
      let left = slots_within l.columns row.cells in
      let right = slots_within r.columns other.cells in
      let sides = sides_within in
      omega (arith, split, left, right, sides)) cond in
      let rows = and_weighs row.cond other.cond in
      let all = and_weighs (and_of row.cond other.cond) (truth_of (slots_of l.columns row.cells ++ slots_of r.columns other.cells) cond) in
      let made = row_weighs (row.cells ++ other.cells) (and_of (and_of row.cond other.cond) (truth_of (slots_of l.columns row.cells ++ slots_of r.columns other.cells) cond)) in
      omega (arith, slots, rows, all, made)

  pairs_few : (rows : List VRow) → length (flat_map (pairs_of_row cond l.columns r) rows) ≤ length rows * length r.rows
  pairs_few [] = omega arith
  pairs_few (row ∷ rows) =
      let one = made_fewer (pair_meeting cond l.columns r.columns row) r.rows in
      let rest = pairs_few rows in
      let split = length-append (pairs_of_row cond l.columns r row) (flat_map (pairs_of_row cond l.columns r) rows) in
      omega (arith, one, rest, split)

  pairs_weigh : (rows : List VRow) → rows_weight (flat_map (pairs_of_row cond l.columns r) rows) ≤ length r.rows * rows_weight rows + length rows * (rows_weight r.rows + length r.rows * (2 + condition_cost cond weight))
  pairs_weigh [] = omega arith
  pairs_weigh (row ∷ rows) =
      let one = made_rows (pair_meeting cond l.columns r.columns row) (weight_of row.cond + (2 + condition_cost cond weight)) (pair_row row) r.rows in
      let rest = pairs_weigh rows in
      let split = rows-append (pairs_of_row cond l.columns r row) (flat_map (pairs_of_row cond l.columns r) rows) in
      let cons : rows_weight (row ∷ rows) ≡ weight_of row.cond + rows_weight rows = sum_by-cons (λ (row : VRow). weight_of row.cond) row rows in
      subst (λ n. rows_weight (pairs_of_row cond l.columns r row ++ flat_map (pairs_of_row cond l.columns r) rows) ≤ length r.rows * n + length (row ∷ rows) * (rows_weight r.rows + length r.rows * (2 + condition_cost cond weight))) (sym cons)
      (omega (arith, one, rest, split))

  pub join_sized : IsWithin (size_of (joined_table cond l r)) (joined_size a b cond (size_of l) (size_of r))
  join_sized =
      let n = length l.rows in
      let m = length r.rows in
      let f = ways_product (ranked both.columns) repeats in
      let d = 2 ^ shared_count a b in
      let few = merged_count (settled both.columns) both.columns both.rows (ranked both.columns) repeats in
      let light = merged_weighs (settled both.columns) both.columns both.rows (ranked both.columns) repeats in
      let pairs = pairs_few l.rows in
      let weigh = pairs_weigh l.rows in
      let rows = mul-le f (length both.rows) d (n * m) ways_few pairs in
      let each = mul-le (length both.rows) (names_add (ranked both.columns) repeats) (n * m) (shared_count a b * (weight + 3)) pairs adds_few in
      let total = mul-le f (rows_weight both.rows + length both.rows * names_add (ranked both.columns) repeats) d (m * rows_weight l.rows + n * (rows_weight r.rows + m * (2 + condition_cost cond weight)) + n * m * (shared_count a b * (weight + 3))) ways_few (omega (arith, weigh, each)) in
      let own = settled_costs both.columns in
      let cost = cost_is (settled both.columns) in
      let most = both_cost in
      record {
        rows = omega (arith, few, rows);
        row_weight = omega (arith, light, total);
        column_weight = omega (arith, own, cost, most);
      }
