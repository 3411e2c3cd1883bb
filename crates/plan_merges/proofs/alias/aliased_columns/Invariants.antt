use Rattle.std.proofs.Common.{◌≡◌, map, take}
use Rattle.plan_merges.specs.Merges.{aliased_column}
use Rattle.plan_merges.proofs.alias.aliased_columns.Given as goal

abbrev pub invariant-loop-column : goal.invariant-loop-column
invariant-loop-column l = l.out.items ≡ map (aliased_column l.alias) (take l.column-index l.columns)
