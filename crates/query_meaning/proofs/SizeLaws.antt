-- Bounds never fall when a part's do, form by form and for a whole plan or query in the sizes of the tables, and they don't
-- depend on the values of parameters.
use Rattle.std.proofs.Common.{◌≡◌, ℕ, ◌+◌, ◌*◌, ◌^◌, ◌≤◌, ◌==◌, Bool, true, false, List, [], length, map, refl, sym, ◌∙◌, ap, subst, arith, if◌then◌else◌}
use Rattle.std.specs.List.{sum_by}
use Rattle.std.proofs.lemmas.List.Sums.{sum_by-le-sum_by}
use Rattle.std.proofs.lemmas.Nat.{mul-le}
use Rattle.feature_expr.specs.Expressions.{weight_of}
use Rattle.feature_expr.specs.declared.expr.Expr.{Expr}
use Rattle.values.specs.declared.column_name.ColName.{ColName}
use Rattle.values.specs.declared.value.Value.{Value}
use Rattle.plain_relation.specs.Relations.{Column}
use Rattle.vra_syntax.specs.Binding.{bound_cond, bound_cond_step, bound_operand, bound_query}
use Rattle.vra_syntax.specs.declared.cond.Cond.{Cond, map-Cond, roll-Cond}
use Rattle.vra_syntax.specs.declared.cond.Cond.TheFolds.{fold-roll-Cond, ind-Cond}
use Rattle.vra_syntax.specs.declared.cond.Cond.TheOpen.{Cond-F}
use Rattle.vra_syntax.specs.declared.items.Item.{Item}
use Rattle.vra_syntax.specs.declared.items.Items.{Items}
use Rattle.vra_syntax.specs.declared.items.Items.TheVariants.{All, Listed}
use Rattle.vra_syntax.specs.declared.query.Query.{Query}
use Rattle.vschema.specs.declared.catalog.Table.{Table}
use Rattle.relational_algebra.specs.Columns.{aliased, merged, once, prefixed}
use Rattle.relational_algebra.specs.Conditions.{condition_cost, cost_step}
use Rattle.relational_algebra.specs.Items.{given, possible_kept}
use Rattle.query_meaning.specs.Bounds.{IsWithin, PairedPart, Size, SizedPart, aliased_size, chosen_size, excepted_size, filtered_size, item_weight, joined_column_weight, joined_size, kept_size, listed_size, names_in, no_size, pairs_bound, pairs_step, plan_size, plan_size_step, query_size, shared_count, united_size, ways}
use Rattle.query_meaning.specs.Plans.{bound_plan, plan_of}
use Rattle.query_meaning.specs.Sources.{Source, catalog_source}
use Rattle.query_meaning.specs.declared.plan.Plan.{Plan}
use Rattle.query_meaning.specs.declared.plan.Plan.TheOpen.{Plan-F}
use Rattle.query_meaning.proofs.BindLaws.{plan_of_bound, same_fold}
use Rattle.query_meaning.proofs.PlanFolds.{Keeps, related}
use Rattle.query_meaning.proofs.PlanLaws.{same_size}
use denote.Hole.Carrier

-- what a condition costs grows with what the columns weigh

squared : (j k : ℕ) → j ≤ k → (j + 8) * (j + 8) ≤ (k + 8) * (k + 8)
squared j k le = mul-le (j + 8) (j + 8) (k + 8) (k + 8) (omega arith) (omega arith)

module _ (j k : ℕ) (le : j ≤ k) where
  abbrev Grows : Cond → Type 0
  Grows c = condition_cost c j ≤ condition_cost c k

  grows_rolled : (x : Cond-F Cond) → cost_step j (map-Cond Cond ℕ (λ c. condition_cost c j) x) ≤ cost_step k (map-Cond Cond ℕ (λ c. condition_cost c k) x) → Grows (roll-Cond x)
  grows_rolled x h = subst (λ n. n ≤ condition_cost (roll-Cond x) k) (sym (fold-roll-Cond ℕ (cost_step j) x)) (subst (λ n. cost_step j (map-Cond Cond ℕ (λ c. condition_cost c j) x) ≤ n) (sym (fold-roll-Cond ℕ (cost_step k) x)) h)

  more : (n a b x y : ℕ) → a ≤ x → b ≤ y → n + a + b ≤ n + x + y
  more n a b x y h i = omega arith

  grows_layer : (y : Cond-F ((c : Cond) × Grows c)) → Grows (roll-Cond (map-Cond ((c : Cond) × Grows c) Cond (λ e. e.0) y))
  grows_layer (Cond-F.Cmp left sign right) = grows_rolled (Cond-F.Cmp left sign right) (squared j k le)
  grows_layer (Cond-F.Not x) = grows_rolled (Cond-F.Not x.0) (more 1 0 _ 0 _ (omega arith) x.1)
  grows_layer (Cond-F.And l r) = grows_rolled (Cond-F.And l.0 r.0) (more 1 _ _ _ _ l.1 r.1)
  grows_layer (Cond-F.Or l r) = grows_rolled (Cond-F.Or l.0 r.0) (more 1 _ _ _ _ l.1 r.1)
  grows_layer (Cond-F.Choice expr l r) = grows_rolled (Cond-F.Choice expr l.0 r.0) (more (2 * weight_of expr + 4) _ _ _ _ l.1 r.1)
  grows_layer Cond-F.True = grows_rolled Cond-F.True (omega arith)
  grows_layer Cond-F.False = grows_rolled Cond-F.False (omega arith)

  pub cost_grows : (c : Cond) → condition_cost c j ≤ condition_cost c k
  cost_grows = ind-Cond Grows (λ x y is. subst (λ z. Grows (roll-Cond z)) is (grows_layer y))

-- and doesn't depend on the values of its parameters

module _ (values : List Value) (columns : ℕ) where
  abbrev cost : Cond → ℕ
  cost c = condition_cost c columns

  abbrev Stays : Cond → Type 0
  Stays c = cost (bound_cond values c) ≡ cost c

  stays_rolled : (x : Cond-F Cond) → cost (bound_cond_step values (map-Cond Cond Cond (bound_cond values) x)) ≡ cost_step columns (map-Cond Cond ℕ cost x) → Stays (roll-Cond x)
  stays_rolled x f = ap cost (fold-roll-Cond Cond (bound_cond_step values) x) ∙ f ∙ sym (fold-roll-Cond ℕ (cost_step columns) x)

  stays_layer : (y : Cond-F ((c : Cond) × Stays c)) → Stays (roll-Cond (map-Cond ((c : Cond) × Stays c) Cond (λ e. e.0) y))
  unfolding roll-Cond Carrier.roll
  stays_layer (Cond-F.Cmp left sign right) = stays_rolled (Cond-F.Cmp left sign right) (fold-roll-Cond ℕ (cost_step columns) (Cond-F.Cmp (bound_operand values left) sign (bound_operand values right)))
  stays_layer (Cond-F.Not x) = stays_rolled (Cond-F.Not x.0) (fold-roll-Cond ℕ (cost_step columns) (Cond-F.Not (bound_cond values x.0)) ∙ ap (λ n. 1 + n) x.1)
  stays_layer (Cond-F.And l r) = stays_rolled (Cond-F.And l.0 r.0) (fold-roll-Cond ℕ (cost_step columns) (Cond-F.And (bound_cond values l.0) (bound_cond values r.0)) ∙ ap (λ n. 1 + n + cost (bound_cond values r.0)) l.1 ∙ ap (λ n. 1 + cost l.0 + n) r.1)
  stays_layer (Cond-F.Or l r) = stays_rolled (Cond-F.Or l.0 r.0) (fold-roll-Cond ℕ (cost_step columns) (Cond-F.Or (bound_cond values l.0) (bound_cond values r.0)) ∙ ap (λ n. 1 + n + cost (bound_cond values r.0)) l.1 ∙ ap (λ n. 1 + cost l.0 + n) r.1)
  stays_layer (Cond-F.Choice expr l r) = stays_rolled (Cond-F.Choice expr l.0 r.0) (fold-roll-Cond ℕ (cost_step columns) (Cond-F.Choice expr (bound_cond values l.0) (bound_cond values r.0)) ∙ ap (λ n. 2 * weight_of expr + 4 + n + cost (bound_cond values r.0)) l.1 ∙ ap (λ n. 2 * weight_of expr + 4 + cost l.0 + n) r.1)
  stays_layer Cond-F.True = stays_rolled Cond-F.True (fold-roll-Cond ℕ (cost_step columns) Cond-F.True)
  stays_layer Cond-F.False = stays_rolled Cond-F.False (fold-roll-Cond ℕ (cost_step columns) Cond-F.False)

  pub cost_stays : (c : Cond) → condition_cost (bound_cond values c) columns ≡ condition_cost c columns
  cost_stays = ind-Cond Stays (λ x y is. subst (λ z. Stays (roll-Cond z)) is (stays_layer y))

-- the forms

pub filtered_within : (c : Cond) (x y : Size) → IsWithin x y → IsWithin (filtered_size c x) (filtered_size c y)
filtered_within c x y within =
    let cost = cost_grows x.column_weight y.column_weight within.column_weight c in
    let product = mul-le x.rows (1 + condition_cost c x.column_weight) y.rows (1 + condition_cost c y.column_weight) within.rows (omega arith) in
    record { rows = within.rows; row_weight = omega (arith, within.row_weight); column_weight = within.column_weight }

listed_within : (names : List ColName) (j k : ℕ) (x y : Size) → j ≤ k → IsWithin x y → IsWithin (listed_size names j x) (listed_size names k y)
listed_within names j k x y le within =
    let f = ways names in
    let rows = mul-le f x.rows f y.rows (omega arith) within.rows in
    let weight = mul-le f x.row_weight f y.row_weight (omega arith) within.row_weight in
    let columns = mul-le (f * x.rows) j (f * y.rows) k rows le in
    record { rows = rows; row_weight = omega arith; column_weight = le }

items_grow : (j k : ℕ) → j ≤ k → (items : List Item) → sum_by (item_weight j) items ≤ sum_by (item_weight k) items
items_grow j k le items = sum_by-le-sum_by (item_weight j) (item_weight k) items (λ item. omega arith)

pub kept_within : (items : Items) (x y : Size) → IsWithin x y → IsWithin (kept_size items x) (kept_size items y)
kept_within All x y within = within
kept_within (Listed items) x y within = listed_within (map given items) (sum_by (item_weight x.column_weight) items) (sum_by (item_weight y.column_weight) items) x y (items_grow x.column_weight y.column_weight within.column_weight items) within

join_columns_grow : (a b : List Column) (l r m s : Size) → IsWithin l m → IsWithin r s → joined_column_weight a b l r ≤ joined_column_weight a b m s
join_columns_grow a b l r m s left right =
    let one = mul-le (length a) (r.column_weight + length b + 1) (length a) (s.column_weight + length b + 1) (omega arith) (omega (arith, right.column_weight)) in
    let other = mul-le (length b) (l.column_weight + length a + 1) (length b) (m.column_weight + length a + 1) (omega arith) (omega (arith, left.column_weight)) in
    omega (arith, left.column_weight, right.column_weight)

pub joined_within : (a b : List Column) (c : Cond) (l r m s : Size) → IsWithin l m → IsWithin r s → IsWithin (joined_size a b c l r) (joined_size a b c m s)
joined_within a b c l r m s left right =
    let columns = join_columns_grow a b l r m s left right in
    let cost = cost_grows (joined_column_weight a b l r) (joined_column_weight a b m s) columns c in
    let d = 2 ^ shared_count a b in
    let shared = mul-le (shared_count a b) (joined_column_weight a b l r + 3) (shared_count a b) (joined_column_weight a b m s + 3) (omega arith) (omega arith) in
    let one = mul-le r.rows l.row_weight s.rows m.row_weight right.rows left.row_weight in
    let other = mul-le l.rows r.row_weight m.rows s.row_weight left.rows right.row_weight in
    let pairs = mul-le l.rows r.rows m.rows s.rows left.rows right.rows in
    let each = mul-le (l.rows * r.rows) (2 + shared_count a b * (joined_column_weight a b l r + 3) + condition_cost c (joined_column_weight a b l r)) (m.rows * s.rows) (2 + shared_count a b * (joined_column_weight a b m s + 3) + condition_cost c (joined_column_weight a b m s)) pairs (omega arith) in
    record {
      rows = mul-le (d * l.rows) r.rows (d * m.rows) s.rows (mul-le d l.rows d m.rows (omega arith) left.rows) right.rows;
      row_weight = mul-le d _ d _ (omega arith) (omega arith);
      column_weight = columns;
    }

pub united_within : (a b : List Column) (l r m s : Size) → IsWithin l m → IsWithin r s → IsWithin (united_size a b l r) (united_size a b m s)
united_within a b l r m s left right =
    let one = mul-le l.rows (l.column_weight + length a + 1) m.rows (m.column_weight + length a + 1) left.rows (omega (arith, left.column_weight)) in
    let other = mul-le r.rows (r.column_weight + length b + 1) s.rows (s.column_weight + length b + 1) right.rows (omega (arith, right.column_weight)) in
    record {
      rows = omega (arith, left.rows, right.rows);
      row_weight = omega (arith, left.row_weight, right.row_weight);
      column_weight = omega (arith, left.column_weight, right.column_weight);
    }

pub excepted_within : (a b : List Column) (l r m s : Size) → IsWithin l m → IsWithin r s → IsWithin (excepted_size a b l r) (excepted_size a b m s)
excepted_within a b l r m s left right =
    let each = mul-le r.rows (l.column_weight + r.column_weight + 4 * (length a + length b) + 8) s.rows (m.column_weight + s.column_weight + 4 * (length a + length b) + 8) right.rows (omega (arith, left.column_weight, right.column_weight)) in
    let all = mul-le l.rows (4 + r.row_weight + r.rows * (l.column_weight + r.column_weight + 4 * (length a + length b) + 8)) m.rows (4 + s.row_weight + s.rows * (m.column_weight + s.column_weight + 4 * (length a + length b) + 8)) left.rows (omega (arith, right.row_weight)) in
    record { rows = left.rows; row_weight = omega (arith, left.row_weight); column_weight = left.column_weight }

if_within : (b : Bool) (p q x y : Size) → IsWithin p x → IsWithin q y → IsWithin (if b then p else q) (if b then x else y)
if_within true p q x y one other = one
if_within false p q x y one other = other

pub aliased_within : (a : List Column) (name : List ℕ) (x y : Size) → IsWithin x y → IsWithin (aliased_size a name x) (aliased_size a name y)
aliased_within a name x y within =
    let names = map (prefixed name) (names_in a) in
    if_within (ways names == 1) x (listed_size names (length names * (12 + 2 * x.column_weight)) x) y (listed_size names (length names * (12 + 2 * y.column_weight)) y) within
    (listed_within names (length names * (12 + 2 * x.column_weight)) (length names * (12 + 2 * y.column_weight)) x y (mul-le (length names) (12 + 2 * x.column_weight) (length names) (12 + 2 * y.column_weight) (omega arith) (omega (arith, within.column_weight))) within)

pub chosen_within : (a b : List Column) (expr : Expr) (l r m s : Size) → IsWithin l m → IsWithin r s → IsWithin (chosen_size a b expr l r) (chosen_size a b expr m s)
chosen_within a b expr l r m s left right =
    let each = mul-le (l.rows + r.rows) (weight_of expr + 2) (m.rows + s.rows) (weight_of expr + 2) (omega (arith, left.rows, right.rows)) (omega arith) in
    record {
      rows = omega (arith, left.rows, right.rows);
      row_weight = omega (arith, left.row_weight, right.row_weight);
      column_weight = omega (arith, left.column_weight, right.column_weight);
    }

-- whole plans and queries, in the sizes of the tables

pub record PartWithin (one other : SizedPart) : Type 0 where
  pub possible : one.possible ≡ other.possible
  pub size : IsWithin one.size other.size

pub record PairsWithin (one other : PairedPart) : Type 0 where
  pub part : PartWithin one.part other.part
  pub pairs : one.pairs ≤ other.pairs

moved : (form : List Column → List Column → Size) (z : Size) (a b x y : List Column) → a ≡ x → b ≡ y → IsWithin z (form a b) → IsWithin z (form x y)
moved form z a b x y e f within = subst (λ k. IsWithin z (form x k)) f (subst (λ k. IsWithin z (form k b)) e within)

none_within : (x : Size) → IsWithin x x
none_within x = record { rows = omega arith; row_weight = omega arith; column_weight = omega arith }

module _ (sources : ℕ → Source) (sizes others : ℕ → Size) (within : (table : ℕ) → IsWithin (sizes table) (others table)) where
  abbrev φ : Plan-F SizedPart → SizedPart
  φ = plan_size_step sources sizes

  abbrev ψ : Plan-F SizedPart → SizedPart
  ψ = plan_size_step sources others

  keeps_within : Keeps SizedPart SizedPart φ ψ PartWithin
  keeps_within = record {
    scan = λ table. record { possible = refl; size = within table };
    filter = λ x y c h. record { possible = h.possible; size = filtered_within c x.size y.size h.size };
    keep = λ x y items h. record { possible = ap (possible_kept items) h.possible; size = kept_within items x.size y.size h.size };
    join = λ a b x y c h k. record { possible = both_merged _ _ _ _ h.possible k.possible; size = moved (λ p q. joined_size p q c x.size y.size) _ a.possible b.possible x.possible y.possible h.possible k.possible (joined_within a.possible b.possible c a.size b.size x.size y.size h.size k.size) };
    union = λ a b x y h k. record { possible = both_merged _ _ _ _ h.possible k.possible; size = moved (λ p q. united_size p q x.size y.size) _ a.possible b.possible x.possible y.possible h.possible k.possible (united_within a.possible b.possible a.size b.size x.size y.size h.size k.size) };
    except = λ a b x y h k. record { possible = h.possible; size = moved (λ p q. excepted_size p q x.size y.size) _ a.possible b.possible x.possible y.possible h.possible k.possible (excepted_within a.possible b.possible a.size b.size x.size y.size h.size k.size) };
    rename = λ x y name h. record { possible = ap (λ k. once (aliased name k)) h.possible; size = moved (λ p q. aliased_size p name y.size) _ x.possible [] y.possible [] h.possible refl (aliased_within x.possible name x.size y.size h.size) };
    choose = λ expr a b x y h k. record { possible = both_merged _ _ _ _ h.possible k.possible; size = moved (λ p q. chosen_size p q expr x.size y.size) _ a.possible b.possible x.possible y.possible h.possible k.possible (chosen_within a.possible b.possible expr a.size b.size x.size y.size h.size k.size) };
    nothing = record { possible = refl; size = none_within no_size };
  }
    where
      both_merged : (a b x y : List Column) → a ≡ x → b ≡ y → merged a b ≡ merged x y
      both_merged a b x y e f = ap (λ k. merged k b) e ∙ ap (merged x) f

  pub plan_size_grows : (p : Plan) → IsWithin (plan_size sources sizes p) (plan_size sources others p)
  plan_size_grows p = (related SizedPart SizedPart φ ψ PartWithin keeps_within p).size

  paired : (a b x y : ℕ) (l r s t : Size) → a ≤ x → b ≤ y → IsWithin l s → IsWithin r t → a + b + l.rows * r.rows ≤ x + y + s.rows * t.rows
  paired a b x y l r s t h k left right = let product = mul-le l.rows r.rows s.rows t.rows left.rows right.rows in omega arith

  keeps_pairs : Keeps PairedPart PairedPart (pairs_step sources sizes) (pairs_step sources others) PairsWithin
  keeps_pairs = record {
    scan = λ table. record { part = keeps_within.scan table; pairs = omega arith };
    filter = λ x y c h. record { part = keeps_within.filter x.part y.part c h.part; pairs = h.pairs };
    keep = λ x y items h. record { part = keeps_within.keep x.part y.part items h.part; pairs = h.pairs };
    join = λ a b x y c h k. record { part = keeps_within.join a.part b.part x.part y.part c h.part k.part; pairs = paired a.pairs b.pairs x.pairs y.pairs a.part.size b.part.size x.part.size y.part.size h.pairs k.pairs h.part.size k.part.size };
    union = λ a b x y h k. record { part = keeps_within.union a.part b.part x.part y.part h.part k.part; pairs = omega (arith, h.pairs, k.pairs) };
    except = λ a b x y h k. record { part = keeps_within.except a.part b.part x.part y.part h.part k.part; pairs = omega (arith, h.pairs, k.pairs) };
    rename = λ x y name h. record { part = keeps_within.rename x.part y.part name h.part; pairs = h.pairs };
    choose = λ expr a b x y h k. record { part = keeps_within.choose expr a.part b.part x.part y.part h.part k.part; pairs = omega (arith, h.pairs, k.pairs) };
    nothing = record { part = keeps_within.nothing; pairs = omega arith };
  }

  pub pairs_grow : (p : Plan) → pairs_bound sources sizes p ≤ pairs_bound sources others p
  pairs_grow p = (related PairedPart PairedPart (pairs_step sources sizes) (pairs_step sources others) PairsWithin keeps_pairs p).pairs

pub query_size_grows : (tables : List Table) (sizes others : ℕ → Size) (query : Query) → ((table : ℕ) → IsWithin (sizes table) (others table)) → IsWithin (query_size tables sizes query) (query_size tables others query)
query_size_grows tables sizes others query within =
    subst (λ (x : Size). IsWithin x (query_size tables others query)) (same_size tables sizes query)
    (subst (λ (y : Size). IsWithin (plan_size (catalog_source tables) sizes (plan_of tables query)) y) (same_size tables others query)
    (plan_size_grows (catalog_source tables) sizes others within (plan_of tables query)))

-- the values of parameters don't count

module _ (sources : ℕ → Source) (sizes : ℕ → Size) (values : List Value) where
  abbrev with_cost : SizedPart → ℕ → SizedPart
  with_cost x cost = record { possible = x.possible; size = record x.size { row_weight = x.size.row_weight + x.size.rows * (1 + cost) } }

  abbrev joined_with : SizedPart → SizedPart → ℕ → SizedPart
  joined_with a b cost =
      let shared = shared_count a.possible b.possible in
      let columns = joined_column_weight a.possible b.possible a.size b.size in
      record {
        possible = merged a.possible b.possible;
        size = record {
          rows = 2 ^ shared * a.size.rows * b.size.rows;
          row_weight = 2 ^ shared * (b.size.rows * a.size.row_weight + a.size.rows * b.size.row_weight + a.size.rows * b.size.rows * (2 + shared * (columns + 3) + cost));
          column_weight = columns;
        };
      }

  filter_stays : (x : SizedPart) (c : Cond) → plan_size_step sources sizes (Plan-F.Filter x (bound_cond values c)) ≡ plan_size_step sources sizes (Plan-F.Filter x c)
  filter_stays x c = ap (with_cost x) (cost_stays values x.size.column_weight c)

  join_stays : (a b : SizedPart) (c : Cond) → plan_size_step sources sizes (Plan-F.Join a b (bound_cond values c)) ≡ plan_size_step sources sizes (Plan-F.Join a b c)
  join_stays a b c = ap (joined_with a b) (cost_stays values (joined_column_weight a.possible b.possible a.size b.size) c)

  pub plan_size_stays : (p : Plan) → plan_size sources sizes (bound_plan values p) ≡ plan_size sources sizes p
  plan_size_stays p = ap (λ (part : SizedPart). part.size) (same_fold SizedPart values (plan_size_step sources sizes) (record { filter = filter_stays; join = join_stays }) p)

  abbrev paired_with : ℕ → SizedPart → PairedPart
  paired_with pairs part = record { part = part; pairs = pairs }

  pub pairs_stay : (p : Plan) → pairs_bound sources sizes (bound_plan values p) ≡ pairs_bound sources sizes p
  pairs_stay p = ap (λ (paired : PairedPart). paired.pairs) (same_fold PairedPart values (pairs_step sources sizes) (record {
    filter = λ x c. ap (paired_with x.pairs) (filter_stays x.part c);
    join = λ a b c. ap (paired_with (a.pairs + b.pairs + a.part.size.rows * b.part.size.rows)) (join_stays a.part b.part c);
  }) p)

pub query_size_stays : (tables : List Table) (sizes : ℕ → Size) (values : List Value) (query : Query) → query_size tables sizes (bound_query values query) ≡ query_size tables sizes query
query_size_stays tables sizes values query =
    sym (same_size tables sizes (bound_query values query)) ∙ ap (plan_size (catalog_source tables) sizes) (plan_of_bound tables values query)
    ∙ plan_size_stays (catalog_source tables) sizes values (plan_of tables query) ∙ same_size tables sizes query
