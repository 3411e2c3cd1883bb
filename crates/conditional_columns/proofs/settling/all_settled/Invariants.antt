use Rattle.std.proofs.Common.{◌≡◌}
use Rattle.conditional_columns.specs.ColumnLists.{settled}
use Rattle.conditional_columns.proofs.settling.all_settled.Given as goal

abbrev pub invariant-loop-column : goal.invariant-loop-column
invariant-loop-column l = l.settling.columns.items ≡ settled l.yielded
