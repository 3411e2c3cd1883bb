use Rattle.std.proofs.Common.{◌≡◌, ◌++◌}
use Rattle.query_printer.specs.Printing.{cond_text}
use Rattle.query_printer.specs.PrintTasks.{cond_tasks_text, cond_tasks_size}
use Rattle.query_printer.proofs.print_cond.print_cond.Given as goal

abbrev pub decreases-loop-task : goal.decreases-loop-task
decreases-loop-task l = cond_tasks_size l.tasks.items

-- what is printed and what is still to be printed are the whole
abbrev pub invariant-loop-task : goal.invariant-loop-task
invariant-loop-task l = l.text.items ++ cond_tasks_text l.features l.tasks.items ≡ l.fn.text.items ++ cond_text l.fn.features l.fn.cond
