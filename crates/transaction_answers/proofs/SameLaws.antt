-- Over databases whose tables have the same rows a query means relations with the same rows.
use Rattle.std.proofs.Common.{◌≡◌, ℕ, Bool, true, false, not, if◌then◌else◌, List, [], ◌∷◌, ◌++◌, map, filter, Option, Some, None, refl, sym, ap, ap₂, subst, subst₂}
use Rattle.std.specs.List.{list_any}
use Rattle.feature_expr.specs.Satisfaction.{satisfies}
use Rattle.plain_relation.specs.Relations.{Cell, Column, Relation, absent, relation_with}
use Rattle.query_meaning.specs.Meaning.{MeantPart, meaning, meaning_step, table_in}
use Rattle.query_meaning.specs.PossibleColumns.{possible_step}
use Rattle.query_meaning.specs.Sources.{number_of}
use Rattle.relational_algebra.specs.Columns.{aliased, both_sides, in_order_of}
use Rattle.relational_algebra.specs.Conditions.{holds}
use Rattle.relational_algebra.specs.Items.{kept_cells, kept_in_order}
use Rattle.relational_algebra.specs.Operations.{aliased_relation, aliased_row, chosen, excepted, filtered, joined, laid, pairs, projected, relation_by, same_row, selected, united}
use Rattle.transaction_answers.proofs.MemberLaws.{same_any, same_filter, same_filters, same_map, same_pairs}
use Rattle.vra_syntax.specs.declared.cond.Cond.{Cond}
use Rattle.vra_syntax.specs.declared.items.Items.{Items}
use Rattle.vra_syntax.specs.declared.items.Items.TheVariants.{All, Listed}
use Rattle.vra_syntax.specs.declared.query.Query.{Query, fold-Query, roll-Query, map-Query}
use Rattle.vra_syntax.specs.declared.query.Query.TheFolds.{fold-roll-Query, ind-Query}
use Rattle.vra_syntax.specs.declared.query.Query.TheOpen.{Query-F}
use Rattle.vschema.specs.declared.catalog.Table.{Table}
use Rattle.write_meaning.proofs.SetLaws.{Same, same_both}
use Rattle.write_meaning.specs.Members.{SameRows}

same_itself : (r : Relation) → SameRows r r
same_itself r = record { columns = refl; rows = λ row. ((λ x. x), (λ x. x)) }

-- ---- the operators

with_columns : (columns : List Column) (xs ys : List (List Cell)) → Same xs ys → SameRows (relation_with columns xs) (relation_with columns ys)
with_columns [] xs ys same = record { columns = refl; rows = λ row. (λ h. h, λ h. h) }
with_columns (column ∷ columns) xs ys same = record { columns = refl; rows = same }

with_same : (columns others : List Column) (xs ys : List (List Cell)) → columns ≡ others → Same xs ys → SameRows (relation_with columns xs) (relation_with others ys)
with_same columns others xs ys is same = subst (λ ks. SameRows (relation_with columns xs) (relation_with ks ys)) is (with_columns columns xs ys same)

by_same : (columns others : List Column) (xs ys : List (List Cell)) → columns ≡ others → Same xs ys → SameRows (relation_by columns xs) (relation_by others ys)
by_same columns others xs ys is same = subst (λ ks. SameRows (relation_by columns xs) (relation_by ks ys)) is (with_columns columns (map (laid columns) xs) (map (laid columns) ys) (same_map (laid columns) xs ys same))

module _ (c : List ℕ) where
  filtered_same : (x : Cond) (one other : Relation) → SameRows one other → SameRows (filtered c x one) (filtered c x other)
  filtered_same x one other same = with_same one.columns other.columns (filter (holds c x) one.rows) (filter (holds c x) other.rows) same.columns (same_filter (holds c x) one.rows other.rows same.rows)

  projected_same : (order : List Column) (items : Items) (one other : Relation) → SameRows one other → SameRows (projected order c items one) (projected order c items other)
  projected_same order All one other same = same
  projected_same order (Listed items) one other same =
      by_same (kept_in_order order c (Listed items) one.columns) (kept_in_order order c (Listed items) other.columns) (map (kept_cells c (Listed items)) one.rows) (map (kept_cells c (Listed items)) other.rows)
      (ap (kept_in_order order c (Listed items)) same.columns) (same_map (kept_cells c (Listed items)) one.rows other.rows same.rows)

  selected_same : (order : List Column) (items : Items) (x : Cond) (one other : Relation) → SameRows one other → SameRows (selected order c items x one) (selected order c items x other)
  selected_same order items x one other same = projected_same order items (filtered c x one) (filtered c x other) (filtered_same x one other same)

  joined_same : (order : List Column) (x : Cond) (left left' right right' : Relation) → SameRows left left' → SameRows right right' → SameRows (joined order c x left right) (joined order c x left' right')
  joined_same order x left left' right right' h k =
      by_same (in_order_of order (both_sides left.columns right.columns)) (in_order_of order (both_sides left'.columns right'.columns)) (filter (holds c x) (pairs left.rows right.rows)) (filter (holds c x) (pairs left'.rows right'.rows))
      (ap₂ (λ ls rs. in_order_of order (both_sides ls rs)) h.columns k.columns)
      (same_filter (holds c x) (pairs left.rows right.rows) (pairs left'.rows right'.rows) (same_pairs left.rows left'.rows right.rows right'.rows h.rows k.rows))

united_same : (order : List Column) (left left' right right' : Relation) → SameRows left left' → SameRows right right' → SameRows (united order left right) (united order left' right')
united_same order left left' right right' h k =
    by_same (in_order_of order (left.columns ++ right.columns)) (in_order_of order (left'.columns ++ right'.columns)) (left.rows ++ right.rows) (left'.rows ++ right'.rows)
    (ap₂ (λ ls rs. in_order_of order (ls ++ rs)) h.columns k.columns) (same_both left.rows left'.rows right.rows right'.rows h.rows k.rows)

excepted_same : (left left' right right' : Relation) → SameRows left left' → SameRows right right' → SameRows (excepted left right) (excepted left' right')
excepted_same left left' right right' h k =
    with_same left.columns left'.columns (filter (λ row. not (list_any (same_row row) right.rows)) left.rows) (filter (λ row. not (list_any (same_row row) right'.rows)) left'.rows) h.columns
    (same_filters (λ row. not (list_any (same_row row) right.rows)) (λ row. not (list_any (same_row row) right'.rows)) left.rows left'.rows (λ row. ap not (same_any (same_row row) right.rows right'.rows k.rows)) h.rows)

aliased_same : (order : List Column) (alias : List ℕ) (one other : Relation) → SameRows one other → SameRows (aliased_relation order alias one) (aliased_relation order alias other)
aliased_same order alias one other same =
    by_same (in_order_of order (aliased alias one.columns)) (in_order_of order (aliased alias other.columns)) (map (aliased_row alias) one.rows) (map (aliased_row alias) other.rows)
    (ap (λ ks. in_order_of order (aliased alias ks)) same.columns) (same_map (aliased_row alias) one.rows other.rows same.rows)

chosen_same : (order : List Column) (holds : Bool) (left left' right right' : Relation) → SameRows left left' → SameRows right right' → SameRows (chosen order (if holds then left else right)) (chosen order (if holds then left' else right'))
chosen_same order true left left' right right' h k = by_same (in_order_of order left.columns) (in_order_of order left'.columns) left.rows left'.rows (ap (in_order_of order) h.columns) h.rows
chosen_same order false left left' right right' h k = by_same (in_order_of order right.columns) (in_order_of order right'.columns) right.rows right'.rows (ap (in_order_of order) k.columns) k.rows

table_same : (one other : ℕ → Relation) (number : Option ℕ) → ((number : ℕ) → SameRows (one number) (other number)) → SameRows (table_in one number) (table_in other number)
table_same one other None same = same_itself absent
table_same one other (Some number) same = same number

-- ---- the queries

-- a part of the query, over either database
record IsSamePart (one other : MeantPart) : Type 0 where
  pub possible : one.possible ≡ other.possible
  pub rows : SameRows one.relation other.relation

module _ (c : List ℕ) (tables : List Table) (one other : ℕ → Relation) (same : (number : ℕ) → SameRows (one number) (other number)) where
  abbrev part : (ℕ → Relation) → Query → MeantPart
  part database query = fold-Query MeantPart (meaning_step c tables database) query

  abbrev InQuery : Query → Type 0
  InQuery query = IsSamePart (part one query) (part other query)

  query_as : (node : Query-F Query) → IsSamePart (meaning_step c tables one (map-Query Query MeantPart (part one) node)) (meaning_step c tables other (map-Query Query MeantPart (part other) node)) → InQuery (roll-Query node)
  query_as node it = subst₂ IsSamePart (sym (fold-roll-Query MeantPart (meaning_step c tables one) node)) (sym (fold-roll-Query MeantPart (meaning_step c tables other) node)) it

  -- the same operator on the same columns
  in_order : (order other_order : List Column) (a b : List Column → Relation) → order ≡ other_order → ((columns : List Column) → SameRows (a columns) (b columns)) → SameRows (a order) (b other_order)
  in_order order other_order a b is rows = subst (λ columns. SameRows (a order) (b columns)) is (rows order)

  query_step : (y : Query-F ((x : Query) × InQuery x)) → InQuery (roll-Query (map-Query ((x : Query) × InQuery x) Query (λ x. x.0) y))
  query_step (Query-F.Table name) = query_as (Query-F.Table name) (record { possible = refl; rows = table_same one other (number_of tables name) same })
  query_step (Query-F.Select items source x) =
      let a = part one source.0 in
      let b = part other source.0 in
      let order = ap (λ columns. possible_step tables (Query-F.Select items columns x)) source.1.possible in
      query_as (Query-F.Select items source.0 x) (record {
        possible = order;
        rows = in_order (possible_step tables (Query-F.Select items a.possible x)) (possible_step tables (Query-F.Select items b.possible x)) (λ columns. selected columns c items x a.relation) (λ columns. selected columns c items x b.relation) order
            (λ columns. selected_same c columns items x a.relation b.relation source.1.rows);
      })
  query_step (Query-F.Join left right x) =
      let a = part one left.0 in
      let b = part other left.0 in
      let a' = part one right.0 in
      let b' = part other right.0 in
      let order = ap₂ (λ ls rs. possible_step tables (Query-F.Join ls rs x)) left.1.possible right.1.possible in
      query_as (Query-F.Join left.0 right.0 x) (record {
        possible = order;
        rows = in_order (possible_step tables (Query-F.Join a.possible a'.possible x)) (possible_step tables (Query-F.Join b.possible b'.possible x)) (λ columns. joined columns c x a.relation a'.relation) (λ columns. joined columns c x b.relation b'.relation) order
            (λ columns. joined_same c columns x a.relation b.relation a'.relation b'.relation left.1.rows right.1.rows);
      })
  query_step (Query-F.Union left right) =
      let a = part one left.0 in
      let b = part other left.0 in
      let a' = part one right.0 in
      let b' = part other right.0 in
      let order = ap₂ (λ ls rs. possible_step tables (Query-F.Union ls rs)) left.1.possible right.1.possible in
      query_as (Query-F.Union left.0 right.0) (record {
        possible = order;
        rows = in_order (possible_step tables (Query-F.Union a.possible a'.possible)) (possible_step tables (Query-F.Union b.possible b'.possible)) (λ columns. united columns a.relation a'.relation) (λ columns. united columns b.relation b'.relation) order
            (λ columns. united_same columns a.relation b.relation a'.relation b'.relation left.1.rows right.1.rows);
      })
  query_step (Query-F.Except left right) =
      let a = part one left.0 in
      let b = part other left.0 in
      let a' = part one right.0 in
      let b' = part other right.0 in
      query_as (Query-F.Except left.0 right.0) (record {
        possible = ap₂ (λ ls rs. possible_step tables (Query-F.Except ls rs)) left.1.possible right.1.possible;
        rows = excepted_same a.relation b.relation a'.relation b'.relation left.1.rows right.1.rows;
      })
  query_step (Query-F.Alias source name) =
      let a = part one source.0 in
      let b = part other source.0 in
      let order = ap (λ columns. possible_step tables (Query-F.Alias columns name)) source.1.possible in
      query_as (Query-F.Alias source.0 name) (record {
        possible = order;
        rows = in_order (possible_step tables (Query-F.Alias a.possible name)) (possible_step tables (Query-F.Alias b.possible name)) (λ columns. aliased_relation columns name a.relation) (λ columns. aliased_relation columns name b.relation) order
            (λ columns. aliased_same columns name a.relation b.relation source.1.rows);
      })
  query_step (Query-F.Choice expr left right) =
      let a = part one left.0 in
      let b = part other left.0 in
      let a' = part one right.0 in
      let b' = part other right.0 in
      let order = ap₂ (λ ls rs. possible_step tables (Query-F.Choice expr ls rs)) left.1.possible right.1.possible in
      query_as (Query-F.Choice expr left.0 right.0) (record {
        possible = order;
        rows = in_order (possible_step tables (Query-F.Choice expr a.possible a'.possible)) (possible_step tables (Query-F.Choice expr b.possible b'.possible)) (λ columns. chosen columns (if satisfies c expr then a.relation else a'.relation)) (λ columns. chosen columns (if satisfies c expr then b.relation else b'.relation)) order
            (λ columns. chosen_same columns (satisfies c expr) a.relation b.relation a'.relation b'.relation left.1.rows right.1.rows);
      })
  query_step Query-F.Empty = query_as Query-F.Empty (record { possible = refl; rows = same_itself absent })

  in_query : (x : Query) → InQuery x
  in_query = ind-Query InQuery (λ x y is. subst (λ z. InQuery (roll-Query z)) is (query_step y))

pub same_meaning : (c : List ℕ) (tables : List Table) (one other : ℕ → Relation) (query : Query) → ((number : ℕ) → SameRows (one number) (other number)) → SameRows (meaning c tables one query) (meaning c tables other query)
same_meaning c tables one other query same = (in_query c tables one other same query).rows
