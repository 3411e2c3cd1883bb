-- A stored table's columns under its condition and their own.
use Rattle.std.proofs.Common.{◌≡◌, ◌∙◌, ℕ, ◌≤◌, Bool, true, false, ◌&&◌, ◌||◌, List, [], ◌∷◌, map, Some, None, inl, inr, refl, sym, ap, arith, if◌then◌else◌}
use Rattle.std.specs.List.{list_any, sum_by}
use Rattle.std.proofs.lemmas.Bool.{or_cases}
use Rattle.std.proofs.lemmas.List.Sums.{sum_by-cons}
use Rattle.feature_expr.specs.Expressions.{and_of, mentions, weight_of}
use Rattle.feature_expr.specs.Satisfaction.{satisfies}
use Rattle.plain_relation.specs.Relations.{columns_of}
use Rattle.vschema.specs.Variants.{column_at}
use Rattle.vschema.specs.declared.catalog.Column as catalog
use Rattle.vschema.specs.declared.catalog.Table.{Table}
use Rattle.query_meaning.specs.Bounds.{column_weight_in, table_column_weight}
use Rattle.query_meaning.specs.Sources.{table_column, table_source}
use Rattle.query_meaning.specs.Typing.{columns_at, columns_weight, headings, stored_column, table_mentions}
use Rattle.query_meaning.specs.declared.typed.TypedColumn.{TypedColumn}
use Rattle.conditional_columns.specs.ColumnLists.{columns_mention}
use Rattle.conditional_columns.proofs.Connectives.{and_holds, and_mentions, and_weighs}
use Rattle.conditional_columns.proofs.ListLaws.{weight_cons}

module _ (table : Table) where
  stored_at : (c : List ℕ) (columns : List catalog.Column) → columns_at c (map (stored_column table) columns) ≡ columns_of (map (column_at c table) columns)
  stored_at c [] = refl
  stored_at c (column ∷ columns) = rw (and_holds c table.cond column.cond) (there (satisfies c table.cond && satisfies c column.cond) (stored_at c columns))
    where
      there : (b : Bool) → columns_at c (map (stored_column table) columns) ≡ columns_of (map (column_at c table) columns)
          → (if b then table_column column ∷ columns_at c (map (stored_column table) columns) else columns_at c (map (stored_column table) columns)) ≡ columns_of ((if b then Some (table_column column) else None) ∷ map (column_at c table) columns)
      there true e = ap (λ xs. table_column column ∷ xs) e
      there false e = e

  stored_headings : (columns : List catalog.Column) → headings (map (stored_column table) columns) ≡ map table_column columns
  stored_headings [] = refl
  stored_headings (column ∷ columns) = ap (λ xs. table_column column ∷ xs) (stored_headings columns)

  stored_weight : (columns : List catalog.Column) → columns_weight (map (stored_column table) columns) ≤ sum_by (column_weight_in (weight_of table.cond)) columns
  stored_weight [] = omega arith
  stored_weight (column ∷ columns) =
      let one = and_weighs table.cond column.cond in
      let rest = stored_weight columns in
      let mine = weight_cons (stored_column table column) (map (stored_column table) columns) in
      let theirs = sum_by-cons (column_weight_in (weight_of table.cond)) column columns in
      omega (arith, one, rest, mine, theirs)

  stored_mention : (i : ℕ) (columns : List catalog.Column) → columns_mention i (map (stored_column table) columns) ≡ true → (mentions i table.cond || list_any (λ (column : catalog.Column). mentions i column.cond) columns) ≡ true
  stored_mention i [] h = absurd (cc h)
  stored_mention i (column ∷ columns) h = elim (or_cases (mentions i (and_of table.cond column.cond)) (columns_mention i (map (stored_column table) columns)) h) [
    | inl here ↦ in_one (mentions i table.cond) (mentions i column.cond) (list_any (λ (column : catalog.Column). mentions i column.cond) columns) (and_mentions i table.cond column.cond here)
    | inr there ↦ in_rest (mentions i table.cond) (mentions i column.cond) (list_any (λ (column : catalog.Column). mentions i column.cond) columns) (stored_mention i columns there)
  ]
    where
      in_one : (a b d : Bool) → (a || b) ≡ true → (a || (b || d)) ≡ true
      in_one true b d h = refl
      in_one false true d h = refl
      in_one false false d h = absurd (cc h)

      in_rest : (a b d : Bool) → (a || d) ≡ true → (a || (b || d)) ≡ true
      in_rest true b d h = refl
      in_rest false true d h = refl
      in_rest false false d h = h

  pub table_there : (c : List ℕ) (ks : List TypedColumn) → ks ≡ map (stored_column table) table.columns → columns_at c ks ≡ (table_source table).columns_at c
  table_there c ks is = ap (columns_at c) is ∙ stored_at c table.columns

  pub table_headings : (ks : List TypedColumn) → ks ≡ map (stored_column table) table.columns → headings ks ≡ (table_source table).possible
  table_headings ks is = ap headings is ∙ stored_headings table.columns

  pub table_weight : (ks : List TypedColumn) → ks ≡ map (stored_column table) table.columns → columns_weight ks ≤ table_column_weight table
  table_weight ks is = let whole = ap columns_weight is in let most = stored_weight table.columns in omega (arith, whole, most)

  pub table_known : (i : ℕ) (ks : List TypedColumn) → ks ≡ map (stored_column table) table.columns → columns_mention i ks ≡ true → table_mentions i table ≡ true
  table_known i ks is h = stored_mention i table.columns (sym (ap (columns_mention i) is) ∙ h)
