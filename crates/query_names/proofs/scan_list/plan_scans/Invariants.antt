use Rattle.std.proofs.Common.{◌≡◌, ◌++◌}
use Rattle.query_meaning.specs.Plans.{scans}
use Rattle.query_names.specs.WaitingPlans.{plans, waiting_plan_nodes, waiting_scans}
use Rattle.query_names.proofs.scan_list.plan_scans.Given as goal

abbrev pub decreases-loop-next : goal.decreases-loop-next
decreases-loop-next l = waiting_plan_nodes (plans l.waiting.items)

-- what was scanned so far, and then what waits, is all that the plan scans
abbrev pub invariant-loop-next : goal.invariant-loop-next
invariant-loop-next l = l.numbers.items ++ waiting_scans (plans l.waiting.items) ≡ scans l.fn.plan
