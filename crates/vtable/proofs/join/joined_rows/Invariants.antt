use Rattle.vtable.specs.Passes.{AllJoined}
use Rattle.vtable.proofs.join.joined_rows.Given as goal

abbrev pub invariant-loop-group : goal.invariant-loop-group
invariant-loop-group l = AllJoined l.model l.yielded l.rows.items
