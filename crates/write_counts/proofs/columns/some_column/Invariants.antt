use Rattle.std.proofs.Common.{◌≡◌, ℕ, List, take}
use Rattle.std.specs.List.{list_any}
use Rattle.feature_expr.specs.Satisfaction.{satisfies}
use Rattle.vschema.specs.Gaps.{is_column_there}
use Rattle.write_counts.proofs.columns.some_column.Given as goal

abbrev pub invariant-loop-column : goal.invariant-loop-column
invariant-loop-column l = (c : List ℕ) → satisfies c l.some ≡ list_any (is_column_there c) (take l.column-index l.columns)
