use Rattle.std.proofs.Common.{◌≡◌, ◌++◌}
use Rattle.query_names.specs.Waiting.{conds, waiting_nodes}
use Rattle.write_typing.specs.Operands.{lent, operands_of, waiting_operands}
use Rattle.write_typing.proofs.operands.operands_of.Given as goal

abbrev pub decreases-loop-next : goal.decreases-loop-next
decreases-loop-next l = waiting_nodes (conds l.waiting.items)

-- the operands so far, and then those of what waits, are those of all
abbrev pub invariant-loop-next : goal.invariant-loop-next
invariant-loop-next l = lent l.found.items ++ waiting_operands (conds l.waiting.items) ≡ operands_of l.fn.cond
