use Rattle.std.proofs.Common.{◌≡◌, ◌++◌}
use Rattle.query_printer.specs.Printing.{query_text}
use Rattle.query_printer.specs.PrintTasks.{query_tasks_text, query_tasks_size}
use Rattle.query_printer.proofs.print_query.print_query.Given as goal

abbrev pub decreases-loop-task : goal.decreases-loop-task
decreases-loop-task l = query_tasks_size l.tasks.items

-- what is printed and what is still to be printed are the whole
abbrev pub invariant-loop-task : goal.invariant-loop-task
invariant-loop-task l = l.text.items ++ query_tasks_text l.features l.tasks.items ≡ l.fn.text.items ++ query_text l.fn.features l.fn.query
