-- Opening rows of which a check finds the same.
use Rattle.std.specs.Prelude.{Bool, ◌≡◌, ℕ, List, Option, Some, map, slice_get}
use Rattle.std.specs.Option.{is_some}
use Rattle.values.specs.declared.value.Value.{Value}
use Rattle.vschema.specs.declared.catalog.OpeningRow.{OpeningRow}

-- for each cell place, whether it has a value
abbrev pub valued : List (Option Value) → List Bool
valued cells = map is_some cells

-- two rows of one table under one condition, with values in the same columns
pub record AreAlike (one other : OpeningRow) : Type 0 where
  pub table : one.table ≡ other.table
  pub cond : one.cond ≡ other.cond
  pub cells : valued one.cells ≡ valued other.cells

-- among the rows stands one that is alike
pub record HasAlike (rows : List OpeningRow) (row : OpeningRow) : Type 0 where
  pub place : ℕ
  pub other : OpeningRow
  pub there : slice_get rows place ≡ Some other
  pub alike : AreAlike other row
