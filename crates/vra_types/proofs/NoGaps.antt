-- A catalogue whose gaps are nowhere has none, and what a refusal of its parts says of the whole.
use Rattle.std.proofs.Common.{◌≡◌, ℕ, true, false, not, List, [], ◌∷◌, ◌++◌, map, Option, Some, None, slice_get, refl, ap, inl, inr}
use Rattle.std.specs.List.{list_any, flat_map}
use Rattle.feature_expr.specs.declared.expr.Expr.{Expr}
use Rattle.condition_sat.specs.Admitted.{IsAdmitted}
use Rattle.vschema.specs.declared.catalog.Catalog.{Catalog}
use Rattle.vschema.specs.declared.catalog.Column.{Column}
use Rattle.vschema.specs.declared.catalog.OpeningRow.{OpeningRow}
use Rattle.vschema.specs.declared.catalog.Table.{Table}
use Rattle.vschema.specs.Gaps.{lacks_columns, misses_value, columns_without, has_all_values_in, have_all_values}
use Rattle.vra_types.specs.declared.refused.CheckRefused.{CheckRefused}
use Rattle.vra_types.specs.declared.refused.CheckRefused.TheVariants as refused
use Rattle.vra_types.specs.Check.{Gap, TableGap, RowGap, row_gaps, row_gaps_in, gaps_of, AreNowhere, ShowsFirst, RefusesGaps, RefusesCatalogue, HasVariant, Passes}
use Rattle.vra_types.proofs.Left.{refused_before, refused_behind}

module _ (model : Expr) (c : List ℕ) (admitted : IsAdmitted model c) where
  no_table : (tables : List Table) → AreNowhere model (map TableGap tables) → list_any (lacks_columns c) tables ≡ false
  no_table [] none = refl
  no_table (table ∷ tables) none = rw (none.0.never c admitted) (no_table tables none.1)

  no_column : (table : Table) (row : OpeningRow) (columns : List Column) → AreNowhere model (map (RowGap table row) columns) → list_any (misses_value c table row) columns ≡ false
  no_column table row [] none = refl
  no_column table row (column ∷ columns) none = rw (none.0.never c admitted) (no_column table row columns none.1)

  row_filled : (table : Option Table) (row : OpeningRow) → AreNowhere model (row_gaps_in table row) → has_all_values_in c table row ≡ true
  row_filled None row none = refl
  row_filled (Some table) row none = ap not (no_column table row (columns_without table.columns row.cells) none)

front_nowhere : (model : Expr) (front rest : List Gap) → AreNowhere model (front ++ rest) → AreNowhere model front
front_nowhere model [] rest none = tt
front_nowhere model (gap ∷ front) rest none = (none.0, front_nowhere model front rest none.1)

rest_nowhere : (model : Expr) (front rest : List Gap) → AreNowhere model (front ++ rest) → AreNowhere model rest
rest_nowhere model [] rest none = none
rest_nowhere model (gap ∷ front) rest none = rest_nowhere model front rest none.1

rows_filled : (model : Expr) (c : List ℕ) → IsAdmitted model c → (tables : List Table) (rows : List OpeningRow) → AreNowhere model (flat_map (row_gaps tables) rows) → have_all_values c tables rows ≡ true
rows_filled model c admitted tables [] none = refl
rows_filled model c admitted tables (row ∷ rows) none =
    rw (row_filled model c admitted (slice_get tables row.table) row (front_nowhere model (row_gaps tables row) (flat_map (row_gaps tables) rows) none))
    (rows_filled model c admitted tables rows (rest_nowhere model (row_gaps tables row) (flat_map (row_gaps tables) rows) none))

pub passes : (catalog : Catalog) (rows : List OpeningRow) → HasVariant catalog.model → AreNowhere catalog.model (map TableGap catalog.tables) → AreNowhere catalog.model (flat_map (row_gaps catalog.tables) rows) → Passes catalog rows
passes catalog rows variant no_tables no_rows = record {
  variant = variant;
  no_gaps = record {
    columns = λ c admitted. ap not (no_table catalog.model c admitted catalog.tables no_tables);
    values = λ c admitted. rows_filled catalog.model c admitted catalog.tables rows no_rows;
  };
}

never_no_variant : (model : Expr) (gaps : List Gap) → ShowsFirst model gaps refused.NoVariant → ⊥
never_no_variant model [] h = h
never_no_variant model (TableGap table ∷ gaps) (inl h) = h
never_no_variant model (RowGap table row column ∷ gaps) (inl h) = h
never_no_variant model (gap ∷ gaps) (inr h) = never_no_variant model gaps h.1

refuses : (catalog : Catalog) (rows : List OpeningRow) (why : CheckRefused) → RefusesGaps catalog.model (gaps_of catalog rows) why → RefusesCatalogue catalog rows why
refuses catalog rows refused.NoVariant h = absurd (never_no_variant catalog.model (gaps_of catalog rows) h)
refuses catalog rows (refused.NoColumn name c) h = h
refuses catalog rows (refused.MissingValue line name c) h = h
refuses catalog rows refused.Memory h = tt

pub tables_refuse : (catalog : Catalog) (rows : List OpeningRow) (why : CheckRefused) → RefusesGaps catalog.model (map TableGap catalog.tables) why → RefusesCatalogue catalog rows why
tables_refuse catalog rows why h = refuses catalog rows why (refused_before catalog.model (map TableGap catalog.tables) (flat_map (row_gaps catalog.tables) rows) why h)

pub rows_refuse : (catalog : Catalog) (rows : List OpeningRow) (why : CheckRefused) → AreNowhere catalog.model (map TableGap catalog.tables) → RefusesGaps catalog.model (flat_map (row_gaps catalog.tables) rows) why → RefusesCatalogue catalog rows why
rows_refuse catalog rows why none h = refuses catalog rows why (refused_behind catalog.model (map TableGap catalog.tables) (flat_map (row_gaps catalog.tables) rows) why none h)
