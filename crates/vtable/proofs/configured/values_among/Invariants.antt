use Rattle.std.proofs.Common.{◌≡◌}
use Rattle.vtable.specs.Configured.{some_values}
use Rattle.vtable.proofs.configured.values_among.Given as goal

abbrev pub invariant-loop-cell : goal.invariant-loop-cell
invariant-loop-cell l = l.values.items ≡ some_values l.yielded
