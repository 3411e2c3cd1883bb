-- Widths of parts, and the columns of tables.
use Rattle.std.proofs.Common.{◌≡◌, ℕ, ◌≤◌, ◌<◌, Bool, true, false, not, ◌||◌, List, [], ◌∷◌, ◌++◌, map, length, Option, Some, None, slice_get, refl, ap, sym, ◌∙◌, zero, suc, append_assoc}
use Rattle.std.specs.List.{list_all}
use Rattle.std.specs.Option.{option_and_then}
use Rattle.std.specs.Str.{bytes_eq}
use Rattle.std.proofs.Math.Dec.{ltb}
use Rattle.std.proofs.lemmas.Bool.{le-ltb, lt-ltb}
use Rattle.std.proofs.lemmas.List.{length-map, map-append}
use Rattle.feature_expr.specs.Names as names
use Rattle.plain_relation.specs.Relations.{Column}
use Rattle.query_meaning.specs.Names.{width_above}
use Rattle.query_meaning.specs.Sources.{source_by, source_named, source_of, catalog_source, table_column, table_named, number_of}
use Rattle.query_names.proofs.OnceLaws.{both_true, not_true}
use Rattle.query_names.specs.Headings.{heading, headings}
use Rattle.query_names.specs.Once.{fresh_behind, stand_once}
use Rattle.query_names.specs.declared.columns.PossibleColumn.{PossibleColumn}
use Rattle.relational_algebra.specs.Columns.{among}
use Rattle.vschema.specs.Formed.{distinct, column_names, has_distinct_columns}
use Rattle.vschema.specs.declared.catalog.Column as catalog
use Rattle.vschema.specs.declared.catalog.Table.{Table}

pub width_within : (columns : List PossibleColumn) → length columns ≤ 1600 → width_above (headings columns) ≡ None
width_within columns within =
    let n : length (headings columns) ≡ length columns = length-map columns heading in
    let e : ltb 1600 (length (headings columns)) ≡ false = le-ltb 1600 (length (headings columns)) (rw n within) in
    rw e refl

pub width_beyond : (columns : List PossibleColumn) → 1600 < length columns → width_above (headings columns) ≡ Some (length columns)
width_beyond columns beyond =
    let n : length (headings columns) ≡ length columns = length-map columns heading in
    let e : ltb 1600 (length (headings columns)) ≡ true = lt-ltb 1600 (length (headings columns)) (rw n beyond) in
    rw e (ap (λ k. Some k) n)

by_number : (tables : List Table) (number : Option ℕ) → source_by (catalog_source tables) number ≡ source_of (option_and_then (slice_get tables) number)
by_number tables None = refl
by_number tables (Some n) = refl

pub source_by_table : (tables : List Table) (name : List ℕ) → source_named tables name ≡ source_of (table_named tables name)
source_by_table tables name = by_number tables (number_of tables name)

-- The columns of a table with distinct names stand once.

or_false : (a b : Bool) → a || b ≡ false → (a ≡ false) × (b ≡ false)
or_false true b is = absurd (let e : true ≡ false = is in cc e)
or_false false b is = (refl, is)

apart_inside : (name : List ℕ) (before : List catalog.Column) (column : catalog.Column) (columns : List catalog.Column) → names.among name (column_names (before ++ column ∷ columns)) ≡ false → bytes_eq column.name name ≡ false
apart_inside name [] column columns apart = (or_false (bytes_eq column.name name) (names.among name (column_names columns)) apart).0
apart_inside name (first ∷ before) column columns apart = apart_inside name before column columns (or_false (bytes_eq first.name name) (names.among name (column_names (before ++ column ∷ columns))) apart).1

apart_from : (before : List catalog.Column) (column : catalog.Column) (columns : List catalog.Column) → distinct (column_names (before ++ column ∷ columns)) ≡ true → among (table_column column) (map table_column before) ≡ false
apart_from [] column columns apart = refl
apart_from (first ∷ before) column columns apart =
    let both = both_true (not (names.among first.name (column_names (before ++ column ∷ columns)))) (distinct (column_names (before ++ column ∷ columns))) apart in
    let e : bytes_eq column.name first.name ≡ false = apart_inside first.name before column columns (not_true _ both.0) in
    rw e (apart_from before column columns both.1)

fresh_table : (before columns : List catalog.Column) → distinct (column_names (before ++ columns)) ≡ true → fresh_behind (map table_column before) (map table_column columns) ≡ true
fresh_table before [] apart = refl
fresh_table before (column ∷ columns) apart =
    let e : among (table_column column) (map table_column before) ≡ false = apart_from before column columns apart in
    let d : distinct (column_names ((before ++ column ∷ []) ++ columns)) ≡ true = ap (λ (xs : List catalog.Column). distinct (column_names xs)) (append_assoc before (column ∷ []) columns) ∙ apart in
    let f : fresh_behind (map table_column before ++ table_column column ∷ []) (map table_column columns) ≡ true = ap (λ (xs : List Column). fresh_behind xs (map table_column columns)) (sym (map-append table_column before (column ∷ []))) ∙ fresh_table (before ++ column ∷ []) columns d in
    rw (e, f) refl

all_at : (tables : List Table) (place : ℕ) (table : Table) → list_all has_distinct_columns tables ≡ true → slice_get tables place ≡ Some table → has_distinct_columns table ≡ true
all_at [] place table all there = absurd (let e : None ≡ Some table = there in cc e)
all_at (first ∷ tables) zero table all there =
    let e : first ≡ table = cc there in
    ap has_distinct_columns (sym e) ∙ (both_true (has_distinct_columns first) (list_all has_distinct_columns tables) all).0
all_at (first ∷ tables) (suc place) table all there = all_at tables place table (both_true (has_distinct_columns first) (list_all has_distinct_columns tables) all).1 there

named_at : (tables : List Table) (number : Option ℕ) (table : Table) → list_all has_distinct_columns tables ≡ true → option_and_then (slice_get tables) number ≡ Some table → has_distinct_columns table ≡ true
named_at tables None table all there = absurd (let e : None ≡ Some table = there in cc e)
named_at tables (Some place) table all there = all_at tables place table all there

pub table_once : (tables : List Table) (name : List ℕ) (table : Table) → list_all has_distinct_columns tables ≡ true → table_named tables name ≡ Some table → stand_once (map table_column table.columns) ≡ true
table_once tables name table all there = fresh_table [] table.columns (named_at tables (number_of tables name) table all there)
