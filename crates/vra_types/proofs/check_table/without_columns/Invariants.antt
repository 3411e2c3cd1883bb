use Rattle.std.proofs.Common.{◌≡◌, ℕ, ◌&&◌, not, List, drop}
use Rattle.std.specs.List.{list_any}
use Rattle.condition_sat.specs.Asked.{all_met}
use Rattle.vschema.specs.Gaps.{is_column_there}
use Rattle.vra_types.proofs.check_table.without_columns.Given as goal

-- what is asked so far, and that none of the columns left is there, say that none is
abbrev pub invariant-loop-column : goal.invariant-loop-column
invariant-loop-column l = (c : List ℕ) → (all_met c l.asked.items && not (list_any (is_column_there c) (drop l.column-index l.columns))) ≡ not (list_any (is_column_there c) l.columns)
