use Rattle.std.proofs.Common.{◌≡◌, map}
use Rattle.vtable.specs.Configured.{group_values}
use Rattle.vtable.proofs.configured.values_of_groups.Given as goal

abbrev pub invariant-loop-group : goal.invariant-loop-group
invariant-loop-group l = l.rows.items ≡ map group_values l.yielded
