-- What is found of a row is found of those that are alike.
use Rattle.std.proofs.Common.{◌≡◌, ◌&&◌, List, [], ◌∷◌, map, Option, Some, None, slice_get, refl, sym, ap, ◌∙◌, subst}
use Rattle.std.specs.List.{All}
use Rattle.std.proofs.lemmas.List.Elements.{All-get_or}
use Rattle.std.proofs.lemmas.Option.{slice_get_within, get_or_from_slice_get}
use Rattle.feature_expr.specs.Satisfaction.{satisfies}
use Rattle.feature_expr.specs.declared.expr.Expr.{Expr}
use Rattle.values.specs.declared.value.Value.{Value}
use Rattle.vschema.specs.declared.catalog.Column.{Column}
use Rattle.vschema.specs.declared.catalog.OpeningRow.{OpeningRow}
use Rattle.vschema.specs.declared.catalog.Table.{Table}
use Rattle.vschema.specs.Gaps.{columns_without, is_column_there}
use Rattle.vra_types.specs.Alike.{valued, AreAlike, HasAlike}
use Rattle.vra_types.specs.Check.{RowGap, row_gaps, row_gaps_in, IsNowhere, AreNowhere}

same_without : (columns : List Column) (one other : List (Option Value)) → valued one ≡ valued other → columns_without columns one ≡ columns_without columns other
same_without [] one other same = refl
same_without (column ∷ columns) [] [] same = refl
same_without (column ∷ columns) [] (cell ∷ other) same = absurd (cc same)
same_without (column ∷ columns) (cell ∷ one) [] same = absurd (cc same)
same_without (column ∷ columns) (None ∷ one) (None ∷ other) same = ap (λ xs. column ∷ xs) (same_without columns one other (cc same))
same_without (column ∷ columns) (None ∷ one) (Some value ∷ other) same = absurd (cc same)
same_without (column ∷ columns) (Some value ∷ one) (None ∷ other) same = absurd (cc same)
same_without (column ∷ columns) (Some value ∷ one) (Some other_value ∷ other) same = same_without columns one other (cc same)

module _ (model : Expr) (table : Table) (one other : OpeningRow) (same : one.cond ≡ other.cond) where
  nowhere_too : (column : Column) → IsNowhere model (RowGap table one column) → IsNowhere model (RowGap table other column)
  nowhere_too column none = record { never = λ c admitted. ap (λ e. satisfies c table.cond && satisfies c e && is_column_there c column) (sym same) ∙ none.never c admitted }

  all_nowhere_too : (columns : List Column) → AreNowhere model (map (RowGap table one) columns) → AreNowhere model (map (RowGap table other) columns)
  all_nowhere_too [] none = tt
  all_nowhere_too (column ∷ columns) none = (nowhere_too column none.0, all_nowhere_too columns none.1)

in_table : (model : Expr) (table : Option Table) (one other : OpeningRow) → AreAlike one other → AreNowhere model (row_gaps_in table one) → AreNowhere model (row_gaps_in table other)
in_table model None one other alike none = tt
in_table model (Some table) one other alike none =
    subst (λ columns. AreNowhere model (map (RowGap table other) columns)) (same_without table.columns one.cells other.cells alike.cells)
    (all_nowhere_too model table one other alike.cond (columns_without table.columns one.cells) none)

alike_nowhere : (model : Expr) (tables : List Table) (one other : OpeningRow) → AreAlike one other → AreNowhere model (row_gaps tables one) → AreNowhere model (row_gaps tables other)
alike_nowhere model tables one other alike none =
    in_table model (slice_get tables other.table) one other alike (subst (λ number. AreNowhere model (row_gaps_in (slice_get tables number) one)) alike.table none)

pub judged_alike : (model : Expr) (tables : List Table) (rows : List OpeningRow) (row : OpeningRow) → All (λ (r : OpeningRow). AreNowhere model (row_gaps tables r)) rows → HasAlike rows row → AreNowhere model (row_gaps tables row)
judged_alike model tables rows row judged has =
    alike_nowhere model tables has.other row has.alike
    (subst (λ (r : OpeningRow). AreNowhere model (row_gaps tables r)) (get_or_from_slice_get rows has.place has.other has.other has.there)
    (All-get_or (λ (r : OpeningRow). AreNowhere model (row_gaps tables r)) rows has.place has.other (slice_get_within rows has.place has.other has.there) judged))
