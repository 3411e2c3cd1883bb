use Rattle.std.proofs.Common.{◌≡◌, map}
use Rattle.vtable.specs.TableForm.{column_staying}
use Rattle.vtable.proofs.columns.decided_columns.Given as goal

abbrev pub invariant-loop-column : goal.invariant-loop-column
invariant-loop-column l = l.decided.items ≡ map (column_staying l.model) l.yielded
