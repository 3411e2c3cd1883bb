use Rattle.std.proofs.Common.{◌≡◌, ◌++◌}
use Rattle.query_typing.proofs.two_forms.one_behind_other.Given as goal

abbrev pub invariant-loop-column : goal.invariant-loop-column
invariant-loop-column l = l.all.items ≡ l.fn.left ++ l.yielded
