-- Whether a column is mandatory, by one question; and where one of the columns is there.
use Rattle.std.proofs.Common.{◌≡◌, ◌∙◌, ℕ, ◌+◌, ◌<◌, Bool, not, ◌&&◌, ◌||◌, List, [], ◌∷◌, ◌++◌, length, take, get_or, sym, ap, ap₂}
use Rattle.std.proofs.lemmas.List.{take_more}
use Rattle.std.proofs.lemmas.List.Folds.{list_any-append}
use Rattle.std.specs.List.{list_any}
use Rattle.condition_sat.proofs.PossibleLaws.{some_admitted_same}
use Rattle.condition_sat.specs.Possible.{can_hold}
use Rattle.feature_expr.specs.Expressions.{and_of, not_of}
use Rattle.feature_expr.specs.Satisfaction.{satisfies}
use Rattle.feature_expr.specs.declared.expr.Expr.{Expr}
use Rattle.row_conditions.proofs.BoolLaws.{or_false}
use Rattle.row_conditions.proofs.FoldingLaws.{and_holds, not_holds}
use Rattle.vschema.specs.Gaps.{is_column_there}
use Rattle.vschema.specs.declared.catalog.Column.{Column}
use Rattle.vschema.specs.declared.catalog.Table.{Table}
use Rattle.write_counts.specs.Counts.{is_mandatory}

pub mandatory_asked : (model : Expr) (table : Table) (column : Column) (asked : Expr) (missed : Bool) → asked ≡ and_of table.cond (not_of column.cond) → missed ≡ can_hold model asked → not missed ≡ is_mandatory model table column
mandatory_asked model table column asked missed is says =
    ap not (says ∙ ap (can_hold model) is
    ∙ some_admitted_same model (λ c. satisfies c (and_of table.cond (not_of column.cond))) (λ c. satisfies c table.cond && not (satisfies c column.cond))
    (λ c admitted. and_holds c table.cond (not_of column.cond) ∙ ap (λ b. satisfies c table.cond && b) (not_holds c column.cond)))

-- one column more
pub some_more : (c : List ℕ) (columns : List Column) (i : ℕ) (column : Column) (some cond : Expr) → i < length columns → column ≡ get_or columns i column → cond ≡ column.cond
    → satisfies c some ≡ list_any (is_column_there c) (take i columns) → (satisfies c some || satisfies c cond) ≡ list_any (is_column_there c) (take (i + 1) columns)
some_more c columns i column some cond below is cond_is before =
    ap₂ (λ a b. a || b) before (ap (satisfies c) cond_is)
    ∙ sym (ap (list_any (is_column_there c)) (take_more columns i column below ∙ ap (λ x. take i columns ++ x ∷ []) (sym is))
    ∙ list_any-append (is_column_there c) (take i columns) (column ∷ [])
    ∙ ap (λ b. list_any (is_column_there c) (take i columns) || b) (or_false (is_column_there c column)))
