use Rattle.std.proofs.Common.{◌≡◌, ◌≤◌}
use Rattle.query_meaning.specs.declared.plan.Plan.{size-Plan}
use Rattle.plan_exec.specs.Scanned.{collected}
use Rattle.plan_exec.proofs.scan.+collected.Given as goal

abbrev pub invariant-loop-at : goal.invariant-loop-at
invariant-loop-at l = (collected l.at l.numbers.items ≡ collected l.fn.plan l.fn.numbers.items) × (size-Plan l.at ≤ size-Plan l.fn.plan)
