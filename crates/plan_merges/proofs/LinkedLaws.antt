-- Pairs by a link between the sides.
use Rattle.std.proofs.Common.{◌≡◌, ◌≤◌, ◌∙◌, ◌+◌, ◌++◌, ◌∷◌, [], ℕ, append_assoc, arith, false, length, List, Option, None, Some, refl, sym, ap, rules, slice_get}
use Rattle.std.specs.Global.{Vec}
use Rattle.std.specs.List.{cons_option, filter_map}
use Rattle.std.specs.Option.{option_to_list}
use Rattle.feature_expr.specs.Expressions.{and_of}
use Rattle.feature_expr.specs.declared.expr.Expr as e
use Rattle.key_links.proofs.NeededLaws.{and_none}
use Rattle.key_links.specs.KeyLinks.{IsColumnLink, cell_at}
use Rattle.key_links.specs.declared.columns.ColumnLink.{ColumnLink}
use Rattle.plan_merges.specs.LinkedPairs.{AreAt, key_at}
use Rattle.plan_merges.specs.Merges.{pair_meeting, pairs_of_row}
use Rattle.plan_tables.specs.Tables.{row_under}
use Rattle.row_places.proofs.PlaceLaws.{keyed_all, keyed_fewer}
use Rattle.row_places.specs.Places.{places_under, rows_keyed}
use Rattle.values.specs.declared.value.Value.{Value}
use Rattle.vra_syntax.specs.declared.cond.Cond.{Cond}
use Rattle.vtable.specs.TableForm.{same_cells}
use Rattle.vtable.specs.declared.table.VColumn.{VColumn}
use Rattle.vtable.specs.declared.table.VRow.{VRow}
use Rattle.vtable.specs.declared.table.VTable.{VTable}

none_under : (cells : List (Option Value)) → row_under cells e.False ≡ None
none_under cells = search (rules, e.the_lemmas)

-- rows of different cells at the link's places make no pair
no_pair : (cond : Cond) (columns others : List VColumn) (link : ColumnLink) (row other : VRow) → IsColumnLink cond columns others link → same_cells (key_at link.right other) (key_at link.left row) ≡ false
    → pair_meeting cond columns others row other ≡ None
no_pair cond columns others link row other is differs =
    ap (λ truth. row_under (row.cells ++ other.cells) (and_of (and_of row.cond other.cond) truth)) (is.nowhere row.cells other.cells differs)
    ∙ ap (row_under (row.cells ++ other.cells)) (and_none (and_of row.cond other.cond)) ∙ none_under (row.cells ++ other.cells)

module _ (cond : Cond) (columns : List VColumn) (link : ColumnLink) (right : VTable) (row : VRow) (places : List (List (Option Value) × List ℕ)) (key : Vec (Option Value)) (is_key : key.items ≡ cell_at link.left row.cells ∷ []) (at : AreAt link.right right.rows places) where
  -- the rows under a row's cell make all its pairs
  pub linked_all : IsColumnLink cond columns right.columns link → filter_map (pair_meeting cond columns right.columns row) (filter_map (slice_get right.rows) (places_under key.items places)) ≡ pairs_of_row cond columns right row
  linked_all is =
      ap (filter_map (pair_meeting cond columns right.columns row)) (at key ∙ ap (λ k. rows_keyed (key_at link.right) k right.rows) is_key)
      ∙ keyed_all (key_at link.right) (cell_at link.left row.cells ∷ []) (pair_meeting cond columns right.columns row) (λ other differs. no_pair cond columns right.columns link row other is differs) right.rows

-- the same, as the code has its parts
pub linked_made : (cond : Cond) (columns others : List VColumn) (link : ColumnLink) (right : VTable) (row : VRow) (rows : List VRow) (places : List (List (Option Value) × List ℕ)) (key : Vec (Option Value)) (cells : List (Option Value)) (found : List ℕ) (old new : List VRow)
    → IsColumnLink cond columns right.columns link → AreAt link.right right.rows places → key.items ≡ cell_at link.left cells ∷ [] → cells ≡ row.cells → others ≡ right.columns → rows ≡ right.rows → found ≡ places_under key.items places
    → new ≡ old ++ filter_map (pair_meeting cond columns others row) (filter_map (slice_get rows) found) → new ≡ old ++ pairs_of_row cond columns right row
linked_made cond columns others link right row rows places key cells found old new is at is_key cells_are others_are rows_are found_are made =
    made ∙ ap (λ xs. old ++ xs) (
    ap (λ os. filter_map (pair_meeting cond columns os row) (filter_map (slice_get rows) found)) others_are
    ∙ ap (λ rs. filter_map (pair_meeting cond columns right.columns row) (filter_map (slice_get rs) found)) rows_are
    ∙ ap (λ ps. filter_map (pair_meeting cond columns right.columns row) (filter_map (slice_get right.rows) ps)) found_are
    ∙ linked_all cond columns link right row places key (is_key ∙ ap (λ xs. cell_at link.left xs ∷ []) cells_are) at is)

pub linked_steps : (link : ColumnLink) (right : VTable) (rows : List VRow) (places : List (List (Option Value) × List ℕ)) (key : Vec (Option Value)) (found : List ℕ) (old new : ℕ)
    → AreAt link.right right.rows places → rows ≡ right.rows → found ≡ places_under key.items places → new ≤ old + length (filter_map (slice_get rows) found) → new ≤ old + length right.rows
linked_steps link right rows places key found old new at rows_are found_are steps =
    let is = ap length (at key) in
    let few = keyed_fewer (key_at link.right) key.items right.rows in
    let made = ap (λ rs. length (filter_map (slice_get rs) found)) rows_are ∙ ap (λ ps. length (filter_map (slice_get right.rows) ps)) found_are in
    omega (arith, is, few, made, steps)

found_by : {X : Type 0} (f : VRow → Option X) (found : Option VRow) (rows : List VRow) → filter_map f (cons_option found rows) ≡ filter_map f (option_to_list found) ++ filter_map f rows
found_by f None rows = refl
found_by f (Some row) rows = one (f row) (filter_map f rows) where
  one : {X : Type 0} (x : Option X) (xs : List X) → cons_option x xs ≡ cons_option x [] ++ xs
  one None xs = refl
  one (Some x) xs = refl

module _ (f : VRow → Option VRow) (rows : List VRow) (place : ℕ) (more left : List ℕ) (found : Option VRow) (is_left : left ≡ place ∷ more) (is_found : found ≡ slice_get rows place) where
  left_is : filter_map (slice_get rows) left ≡ cons_option found (filter_map (slice_get rows) more)
  left_is = ap (filter_map (slice_get rows)) is_left ∙ ap (λ x. cons_option x (filter_map (slice_get rows) more)) (sym is_found)

  -- one place less that is left
  pub pairs_more : (old new all : List VRow) → new ≡ old ++ filter_map f (option_to_list found) → old ++ filter_map f (filter_map (slice_get rows) left) ≡ all → new ++ filter_map f (filter_map (slice_get rows) more) ≡ all
  pairs_more old new all is before =
      ap (λ xs. xs ++ filter_map f (filter_map (slice_get rows) more)) is
      ∙ append_assoc old (filter_map f (option_to_list found)) (filter_map f (filter_map (slice_get rows) more))
      ∙ ap (λ xs. old ++ xs) (sym (found_by f found (filter_map (slice_get rows) more)) ∙ sym (ap (filter_map f) left_is))
      ∙ before

  pub count_more : length (filter_map (slice_get rows) left) ≡ length (option_to_list found) + length (filter_map (slice_get rows) more)
  count_more = ap length left_is ∙ counted found (filter_map (slice_get rows) more) where
    counted : (found : Option VRow) (rest : List VRow) → length (cons_option found rest) ≡ length (option_to_list found) + length rest
    counted None rest = omega arith
    counted (Some row) rest = omega arith
