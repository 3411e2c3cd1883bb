use Rattle.std.proofs.Common.{◌≡◌}
use Rattle.vtable.specs.Passes.{staying}
use Rattle.vtable.proofs.columns.staying_columns.Given as goal

abbrev pub invariant-loop-column : goal.invariant-loop-column
invariant-loop-column l = l.columns.items ≡ staying l.yielded
