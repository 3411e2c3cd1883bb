-- The gaps that the check of a catalogue looks for, and what it finds.
use Rattle.std.specs.Prelude.{Bool, true, false, ◌≡◌, ◌++◌, ℕ, List, [], ◌∷◌, map, Option, Some, None, slice_get, ◌⊎◌}
use Rattle.std.specs.List.{flat_map, AllByRecursion}
use Rattle.feature_expr.specs.declared.expr.Expr.{Expr}
use Rattle.condition_sat.specs.Admitted.{IsAdmitted}
use Rattle.vschema.specs.declared.catalog.Catalog.{Catalog}
use Rattle.vschema.specs.declared.catalog.Column.{Column}
use Rattle.vschema.specs.declared.catalog.OpeningRow.{OpeningRow}
use Rattle.vschema.specs.declared.catalog.Table.{Table}
use Rattle.vschema.specs.Gaps.{lacks_columns, misses_value, columns_without, have_columns, have_all_values}
use Rattle.vra_types.specs.declared.refused.CheckRefused.{CheckRefused}
use Rattle.vra_types.specs.declared.refused.CheckRefused.TheVariants as refused

-- what a variant may have: a table without a column, a row without a value in a column
pub data Gap : Type 0 where
  TableGap : (table : Table) → Gap
  RowGap : (table : Table) (row : OpeningRow) (column : Column) → Gap

-- whether a variant has the gap
abbrev pub is_gap : List ℕ → Gap → Bool
is_gap c (TableGap table) = lacks_columns c table
is_gap c (RowGap table row column) = misses_value c table row column

abbrev pub row_gaps_in : Option Table → OpeningRow → List Gap
row_gaps_in None row = []
row_gaps_in (Some table) row = map (RowGap table row) (columns_without table.columns row.cells)

abbrev pub row_gaps : List Table → OpeningRow → List Gap
row_gaps tables row = row_gaps_in (slice_get tables row.table) row

-- all that a variant may have, in order: the tables, then the rows, and in each row the columns
abbrev pub gaps_of : Catalog → List OpeningRow → List Gap
gaps_of catalog rows = map TableGap catalog.tables ++ flat_map (row_gaps catalog.tables) rows

-- an admitted variant that has the gap
pub record IsGapAt (model : Expr) (gap : Gap) (c : List ℕ) : Type 0 where
  pub admitted : IsAdmitted model c
  pub there : is_gap c gap ≡ true

-- no admitted variant has the gap
pub record IsNowhere (model : Expr) (gap : Gap) : Type 0 where
  pub never : (c : List ℕ) → IsAdmitted model c → is_gap c gap ≡ false

abbrev pub AreNowhere : Expr → List Gap → Type 0
AreNowhere model gaps = AllByRecursion (IsNowhere model) gaps

-- a refusal that names the gap and shows an admitted variant that has it
abbrev pub Shows : Expr → Gap → CheckRefused → Type 0
Shows model (TableGap table) (refused.NoColumn name c) = (name ≡ table.name) × IsGapAt model (TableGap table) c
Shows model (RowGap table row column) (refused.MissingValue line name c) = (line ≡ row.line) × (name ≡ column.name) × IsGapAt model (RowGap table row column) c
Shows model gap why = ⊥

-- a refusal that shows the first gap that an admitted variant has
abbrev pub ShowsFirst : Expr → List Gap → CheckRefused → Type 0
ShowsFirst model [] why = ⊥
ShowsFirst model (gap ∷ gaps) why = Shows model gap why ⊎ (IsNowhere model gap × ShowsFirst model gaps why)

-- what each refusal of these gaps says; want of memory says nothing
abbrev pub RefusesGaps : Expr → List Gap → CheckRefused → Type 0
RefusesGaps model gaps refused.Memory = Unit {0}
RefusesGaps model gaps why = ShowsFirst model gaps why

-- some configuration is admitted
pub record HasVariant (model : Expr) : Type 0 where
  pub variant : List ℕ
  pub admitted : IsAdmitted model variant

-- no configuration is admitted
pub record HasNoVariant (model : Expr) : Type 0 where
  pub none : (c : List ℕ) → IsAdmitted model c → ⊥

-- what a refusal of the model says
abbrev pub RefusesModel : Expr → CheckRefused → Type 0
RefusesModel model refused.NoVariant = HasNoVariant model
RefusesModel model refused.Memory = Unit {0}
RefusesModel model why = ⊥

-- what each refusal of a catalogue says: that there is no variant, or which gap is the first
abbrev pub RefusesCatalogue : Catalog → List OpeningRow → CheckRefused → Type 0
RefusesCatalogue catalog rows refused.NoVariant = HasNoVariant catalog.model
RefusesCatalogue catalog rows why = RefusesGaps catalog.model (gaps_of catalog rows) why

-- A catalogue without gaps: in each admitted variant every table that is there has a column, and every opening row that
-- is there has a value in every column that is there.
pub record HasNoGaps (model : Expr) (catalog : Catalog) (rows : List OpeningRow) : Type 0 where
  pub columns : (c : List ℕ) → IsAdmitted model c → have_columns c catalog.tables ≡ true
  pub values : (c : List ℕ) → IsAdmitted model c → have_all_values c catalog.tables rows ≡ true

-- a catalogue and opening rows that pass their check
pub record Passes (catalog : Catalog) (rows : List OpeningRow) : Type 0 where
  pub variant : HasVariant catalog.model
  pub no_gaps : HasNoGaps catalog.model catalog rows
