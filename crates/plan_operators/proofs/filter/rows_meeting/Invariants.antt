use Rattle.std.proofs.Common.{◌≡◌, take}
use Rattle.plan_operators.specs.Operators.{rows_meeting}
use Rattle.plan_operators.proofs.filter.rows_meeting.Given as goal

abbrev pub invariant-loop-row : goal.invariant-loop-row
invariant-loop-row l = l.out.items ≡ rows_meeting l.cond l.columns (take l.row-index l.rows)
