-- A catalogue that passes its check isn't refused by it.
use Rattle.std.proofs.Common.{Bool, true, false, not, ◌≡◌, ◌&&◌, ◌||◌, ℕ, List, [], ◌∷◌, ◌++◌, map, Option, Some, None, slice_get, inl, inr, refl}
use Rattle.std.specs.List.{list_any, list_all, flat_map}
use Rattle.feature_expr.specs.declared.expr.Expr.{Expr}
use Rattle.condition_sat.specs.Admitted.{IsAdmitted}
use Rattle.vschema.specs.Gaps.{lacks_columns, misses_value, columns_without, has_all_values_in, has_all_values, have_columns, have_all_values}
use Rattle.vschema.specs.declared.catalog.Catalog.{Catalog}
use Rattle.vschema.specs.declared.catalog.Column.{Column}
use Rattle.vschema.specs.declared.catalog.OpeningRow.{OpeningRow}
use Rattle.vschema.specs.declared.catalog.Table.{Table}
use Rattle.vra_types.specs.Check.{Gap, TableGap, RowGap, row_gaps_in, row_gaps, gaps_of, IsGapAt, IsNowhere, AreNowhere, Shows, ShowsFirst, RefusesCatalogue, Passes}
use Rattle.vra_types.specs.declared.refused.CheckRefused.{CheckRefused}
use Rattle.vra_types.specs.declared.refused.CheckRefused.TheVariants as refused
use Rattle.vra_types.proofs.Left.{nowhere_join}

neither : (a b : Bool) → not (a || b) ≡ true → (a ≡ false) × (not b ≡ true)
neither true b is = absurd (cc is)
neither false b is = (refl, is)

both : (a b : Bool) → (a && b) ≡ true → (a ≡ true) × (b ≡ true)
both true b is = (refl, is)
both false b is = absurd (cc is)

module _ (model : Expr) where
  -- no table is there without a column
  tables_nowhere : (tables : List Table) → ((c : List ℕ) → IsAdmitted model c → have_columns c tables ≡ true) → AreNowhere model (map TableGap tables)
  tables_nowhere [] all = tt
  tables_nowhere (table ∷ tables) all = (
    record { never = λ c admitted. (neither (lacks_columns c table) (list_any (lacks_columns c) tables) (all c admitted)).0 },
    tables_nowhere tables (λ c admitted. (neither (lacks_columns c table) (list_any (lacks_columns c) tables) (all c admitted)).1),
  )

  -- no row is there without a value in one of these columns
  columns_nowhere : (table : Table) (row : OpeningRow) (columns : List Column) → ((c : List ℕ) → IsAdmitted model c → not (list_any (misses_value c table row) columns) ≡ true) → AreNowhere model (map (RowGap table row) columns)
  columns_nowhere table row [] all = tt
  columns_nowhere table row (column ∷ columns) all = (
    record { never = λ c admitted. (neither (misses_value c table row column) (list_any (misses_value c table row) columns) (all c admitted)).0 },
    columns_nowhere table row columns (λ c admitted. (neither (misses_value c table row column) (list_any (misses_value c table row) columns) (all c admitted)).1),
  )

  row_nowhere : (found : Option Table) (row : OpeningRow) → ((c : List ℕ) → IsAdmitted model c → has_all_values_in c found row ≡ true) → AreNowhere model (row_gaps_in found row)
  row_nowhere None row all = tt
  row_nowhere (Some table) row all = columns_nowhere table row (columns_without table.columns row.cells) all

  rows_nowhere : (tables : List Table) (rows : List OpeningRow) → ((c : List ℕ) → IsAdmitted model c → have_all_values c tables rows ≡ true) → AreNowhere model (flat_map (row_gaps tables) rows)
  rows_nowhere tables [] all = tt
  rows_nowhere tables (row ∷ rows) all =
      nowhere_join model (row_gaps tables row) (flat_map (row_gaps tables) rows) (row_nowhere (slice_get tables row.table) row (λ c admitted. (both (has_all_values c tables row) (list_all (has_all_values c tables) rows) (all c admitted)).0)) (rows_nowhere tables rows (λ c admitted. (both (has_all_values c tables row) (list_all (has_all_values c tables) rows) (all c admitted)).1))

  -- a gap that no variant has is shown by no refusal
  not_at : (gap : Gap) (c : List ℕ) → IsNowhere model gap → IsGapAt model gap c → ⊥
  not_at gap c nowhere at = cc (nowhere.never c at.admitted, at.there)

  not_shown : (gap : Gap) (why : CheckRefused) → IsNowhere model gap → Shows model gap why → ⊥
  not_shown (TableGap table) (refused.NoColumn name c) nowhere shows = not_at (TableGap table) c nowhere shows.1
  not_shown (TableGap table) (refused.MissingValue line name c) nowhere shows = shows
  not_shown (TableGap table) refused.NoVariant nowhere shows = shows
  not_shown (TableGap table) refused.Memory nowhere shows = shows
  not_shown (RowGap table row column) (refused.MissingValue line name c) nowhere shows = not_at (RowGap table row column) c nowhere shows.2
  not_shown (RowGap table row column) (refused.NoColumn name c) nowhere shows = shows
  not_shown (RowGap table row column) refused.NoVariant nowhere shows = shows
  not_shown (RowGap table row column) refused.Memory nowhere shows = shows

  none_shown : (gaps : List Gap) (why : CheckRefused) → AreNowhere model gaps → ShowsFirst model gaps why → ⊥
  none_shown [] why nowhere shows = shows
  none_shown (gap ∷ gaps) why nowhere (inl shows) = not_shown gap why nowhere.0 shows
  none_shown (gap ∷ gaps) why nowhere (inr shows) = none_shown gaps why nowhere.1 shows.1

nowhere : (catalog : Catalog) (rows : List OpeningRow) → Passes catalog rows → AreNowhere catalog.model (gaps_of catalog rows)
nowhere catalog rows p =
    nowhere_join catalog.model (map TableGap catalog.tables) (flat_map (row_gaps catalog.tables) rows) (tables_nowhere catalog.model catalog.tables p.no_gaps.columns) (rows_nowhere catalog.model catalog.tables rows p.no_gaps.values)

pub unrefused : (catalog : Catalog) (rows : List OpeningRow) (why : CheckRefused) → Passes catalog rows → RefusesCatalogue catalog rows why → why ≡ refused.Memory
unrefused catalog rows refused.NoVariant p r = absurd (r.none p.variant.variant p.variant.admitted)
unrefused catalog rows refused.Memory p r = refl
unrefused catalog rows (refused.NoColumn name c) p r = absurd (none_shown catalog.model (gaps_of catalog rows) (refused.NoColumn name c) (nowhere catalog rows p) r)
unrefused catalog rows (refused.MissingValue line name c) p r = absurd (none_shown catalog.model (gaps_of catalog rows) (refused.MissingValue line name c) (nowhere catalog rows p) r)
