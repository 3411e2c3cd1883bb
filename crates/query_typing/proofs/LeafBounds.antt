-- The columns of a query's innermost left side weigh no more than its bound, and have no features but those of the tables.
use Rattle.std.proofs.Common.{◌≡◌, ℕ, ◌≤◌, true, List, map, Option, Some, None, refl, sym, ◌∙◌, ap, subst, arith}
use Rattle.std.proofs.lemmas.Bool.{or_right}
use Rattle.std.proofs.lemmas.List.Folds.{list_any_at}
use Rattle.std.proofs.lemmas.Option.{get_or_from_slice_get, slice_get_within}
use Rattle.std.specs.Option.{option_and_then}
use Rattle.std.specs.Prelude.{slice_get}
use Rattle.conditional_columns.proofs.StoredLaws.{table_known, table_weight}
use Rattle.conditional_columns.specs.ColumnLists.{columns_mention}
use Rattle.plain_relation.specs.Relations.{Column}
use Rattle.query_meaning.specs.Bounds.{SizedPart, column_weight_of, empty_sizes, size_step, table_size}
use Rattle.query_meaning.specs.PossibleColumns.{possible_columns, possible_step}
use Rattle.query_meaning.specs.Sources.{Source, number_of, table_named}
use Rattle.query_meaning.specs.Typing.{columns_weight, headings, stored_column, table_mentions, tables_mention}
use Rattle.query_typing.proofs.LeafLaws.{possible_stored, same_source}
use Rattle.query_typing.specs.Bounded.{IsBounded}
use Rattle.query_typing.specs.Leaves.{leaf_stored, stored_of}
use Rattle.query_typing.specs.Steps.{leaf_query}
use Rattle.relational_algebra.specs.Columns.{once}
use Rattle.relational_algebra.specs.Mentions.{query_mentions}
use Rattle.vra_syntax.specs.declared.query.Query.{Query, fold-Query, roll-Query}
use Rattle.vra_syntax.specs.declared.query.Query as query
use Rattle.vra_syntax.specs.declared.query.Query.TheFolds.{fold-roll-Query}
use Rattle.vra_syntax.specs.declared.query.Query.TheOpen.{Query-F}
use Rattle.vschema.specs.declared.catalog.Table.{Table}
use denote.Hole.Carrier

module _ (R : Type 0) (f : Query-F R → R) where
  at_table : (name : List ℕ) → fold-Query R f (query.Table name) ≡ f (Query-F.Table name)
  unfolding roll-Query Carrier.roll
  at_table name = fold-roll-Query R f (Query-F.Table name)

  at_empty : fold-Query R f query.Empty ≡ f Query-F.Empty
  unfolding roll-Query Carrier.roll
  at_empty = fold-roll-Query R f Query-F.Empty

module _ (tables : List Table) where
  found_weight : (found : Option Table) → columns_weight (stored_of found) ≤ column_weight_of found
  found_weight None = omega arith
  found_weight (Some table) = table_weight table (map (stored_column table) table.columns) refl

  number_weight : (number : Option ℕ) → columns_weight (stored_of (option_and_then (slice_get tables) number)) ≤ (table_size (empty_sizes tables) number).column_weight
  number_weight None = omega arith
  number_weight (Some number) = found_weight (slice_get tables number)

  found_mention : (i number : ℕ) (found : Option Table) → slice_get tables number ≡ found → columns_mention i (stored_of found) ≡ true → tables_mention i tables ≡ true
  found_mention i number None is h = absurd (cc h)
  found_mention i number (Some table) is h =
      list_any_at (table_mentions i) tables number table (slice_get_within tables number table is)
      (ap (table_mentions i) (get_or_from_slice_get tables number table table is) ∙ table_known table i (map (stored_column table) table.columns) refl h)

  number_mention : (i : ℕ) (number : Option ℕ) → columns_mention i (stored_of (option_and_then (slice_get tables) number)) ≡ true → tables_mention i tables ≡ true
  number_mention i None h = absurd (cc h)
  number_mention i (Some number) h = found_mention i number (slice_get tables number) refl h

  leaf_possible : (leaf : Option (List ℕ)) → headings (leaf_stored tables leaf) ≡ possible_columns tables (leaf_query leaf)
  leaf_possible None = sym (at_empty (List Column) (possible_step tables))
  leaf_possible (Some name) = sym (at_table (List Column) (possible_step tables) name ∙ ap (λ (s : Source). s.possible) (same_source tables (number_of tables name)) ∙ possible_stored (table_named tables name))

  pub leaf_bounded : ((q : Query) → once (possible_columns tables q) ≡ possible_columns tables q) → (leaf : Option (List ℕ)) → IsBounded tables (leaf_query leaf) (leaf_stored tables leaf)
  leaf_bounded each None = record {
    possible = leaf_possible None;
    sized = ap (λ (x : SizedPart). x.possible) (sym (at_empty SizedPart (size_step tables (empty_sizes tables))));
    each = refl;
    weight = omega arith;
    features = record { each = λ i h. absurd (cc h) };
  }
  leaf_bounded each (Some name) = record {
    possible = leaf_possible (Some name);
    sized = leaf_possible (Some name) ∙ at_table (List Column) (possible_step tables) name ∙ ap (λ (x : SizedPart). x.possible) (sym (at_table SizedPart (size_step tables (empty_sizes tables)) name));
    each = ap once (leaf_possible (Some name)) ∙ each (query.Table name) ∙ sym (leaf_possible (Some name));
    weight = subst (λ (x : SizedPart). columns_weight (stored_of (table_named tables name)) ≤ x.size.column_weight) (sym (at_table SizedPart (size_step tables (empty_sizes tables)) name)) (number_weight (number_of tables name));
    features = record { each = λ i h. or_right (query_mentions i (query.Table name)) (tables_mention i tables) (number_mention i (number_of tables name) h) };
  }
