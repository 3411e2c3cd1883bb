-- The stored tables and the empty query as parts.
use Rattle.std.proofs.Common.{◌≡◌, ◌&&◌, ℕ, Bool, true, false, List, [], ◌∷◌, refl, sym, ◌∙◌, ap, map, Option, Some, None, slice_get, if◌then◌else◌}
use Rattle.std.specs.Option.{option_and_then}
use Rattle.feature_expr.specs.Expressions.{and_of}
use Rattle.feature_expr.specs.Satisfaction.{satisfies}
use Rattle.feature_expr.specs.declared.expr.Expr.{Expr}
use Rattle.plain_relation.specs.Relations.{Column, columns_of}
use Rattle.query_meaning.specs.PlainTypes.{Columns, TypedPart, type_step, typed_part}
use Rattle.query_meaning.specs.Sources.{Source, catalog_source, number_of, source_by, source_of, table_column, table_named}
use Rattle.query_meaning.specs.Typing.{columns_at, headings, stored_column}
use Rattle.conditional_columns.proofs.Connectives.{and_holds}
use Rattle.query_typing.specs.Leaves.{leaf_stored, stored_of}
use Rattle.query_typing.specs.Parts.{PartIs}
use Rattle.query_typing.specs.Steps.{leaf_query}
use Rattle.values.specs.declared.value.Kind.{Kind}
use Rattle.vra_syntax.specs.declared.query.Query.{roll-Query}
use Rattle.vra_syntax.specs.declared.query.Query as query
use Rattle.vra_syntax.specs.declared.query.Query.TheFolds.{fold-roll-Query}
use Rattle.vra_syntax.specs.declared.query.Query.TheOpen.{Query-F}
use Rattle.vschema.specs.Variants.{column_at}
use Rattle.vschema.specs.declared.catalog.Column as catalog
use Rattle.vschema.specs.declared.catalog.Table.{Table}
use denote.Hole.Carrier

stored_headings : (table : Table) (columns : List catalog.Column) → headings (map (stored_column table) columns) ≡ map table_column columns
stored_headings table [] = refl
stored_headings table (column ∷ columns) = ap (λ ks. table_column column ∷ ks) (stored_headings table columns)

by_has : (a b : Bool) (h : Column) (xs : List Column) (places : List (Option Column)) → a ≡ b → xs ≡ columns_of places → (if a then h ∷ xs else xs) ≡ columns_of ((if b then Some h else None) ∷ places)
by_has a true h xs places is more = ap (λ x. if x then h ∷ xs else xs) is ∙ ap (λ ks. h ∷ ks) more
by_has a false h xs places is more = ap (λ x. if x then h ∷ xs else xs) is ∙ more

stored_there : (c : List ℕ) (table : Table) (columns : List catalog.Column) → columns_at c (map (stored_column table) columns) ≡ columns_of (map (column_at c table) columns)
stored_there c table [] = refl
stored_there c table (column ∷ columns) =
    by_has (satisfies c (and_of table.cond column.cond)) (satisfies c table.cond && satisfies c column.cond) (table_column column) (columns_at c (map (stored_column table) columns)) (map (column_at c table) columns) (and_holds c table.cond column.cond) (stored_there c table columns)

pub same_source : (tables : List Table) (number : Option ℕ) → source_by (catalog_source tables) number ≡ source_of (option_and_then (slice_get tables) number)
same_source tables None = refl
same_source tables (Some number) = refl

pub possible_stored : (found : Option Table) → (source_of found).possible ≡ headings (stored_of found)
possible_stored None = refl
possible_stored (Some table) = sym (stored_headings table table.columns)

there_stored : (c : List ℕ) (found : Option Table) → (source_of found).columns_at c ≡ columns_at c (stored_of found)
there_stored c None = refl
there_stored c (Some table) = sym (stored_there c table table.columns)

module _ (c : List ℕ) (kinds : List Kind) (tables : List Table) where
  table_part : (name : List ℕ) → typed_part c kinds tables (query.Table name) ≡ type_step c kinds tables (Query-F.Table name)
  unfolding roll-Query Carrier.roll
  table_part name = fold-roll-Query TypedPart (type_step c kinds tables) (Query-F.Table name)

  empty_part : typed_part c kinds tables query.Empty ≡ type_step c kinds tables Query-F.Empty
  unfolding roll-Query Carrier.roll
  empty_part = fold-roll-Query TypedPart (type_step c kinds tables) Query-F.Empty

pub leaf_is : (model reach : Expr) (kinds : List Kind) (tables : List Table) (leaf : Option (List ℕ)) → PartIs model reach (λ c. typed_part c kinds tables (leaf_query leaf)) (leaf_stored tables leaf)
leaf_is model reach kinds tables None = record {
  possible = λ c. ap (λ (t : TypedPart). t.possible) (empty_part c kinds tables);
  type = λ c admitted reached. ap (λ (t : TypedPart). t.type) (empty_part c kinds tables);
}
leaf_is model reach kinds tables (Some name) = record {
  possible = λ c. ap (λ (t : TypedPart). t.possible) (table_part c kinds tables name) ∙ ap (λ (s : Source). s.possible) (same_source tables (number_of tables name)) ∙ possible_stored (table_named tables name);
  type = λ c admitted reached. ap (λ (t : TypedPart). t.type) (table_part c kinds tables name) ∙ ap Columns (ap (λ (s : Source). s.columns_at c) (same_source tables (number_of tables name)) ∙ there_stored c (table_named tables name));
}
