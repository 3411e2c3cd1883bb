use Rattle.query_printer.proofs.PrintLaws.{cond_tasks_step}
use Rattle.query_printer.proofs.print_cond.print_cond.Goals as goal

pub loop-task-preserved : goal.loop-task-preserved
loop-task-preserved c = cond_tasks_step c.args.features.now c.loop-task.text.items c.print_task.new.text.items _ c.in-Some.task c.loop-task.tasks.items c.pop.new.self.items c.print_task.new.tasks.items (cc c.in-Some.ensures.items) c.in_ok-print_task.ensures.printed c.loop-task.invariant
