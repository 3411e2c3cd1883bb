use Rattle.std.proofs.Common.{◌≡◌, ◌≤◌, vec_len}
use Rattle.vra_syntax.specs.declared.query.Query.{size-Query}
use Rattle.query_typing.specs.Bounded.{StandBounded}
use Rattle.query_typing.specs.Parts.{Standing}
use Rattle.query_typing.specs.Steps.{deepest}
use Rattle.query_typing.proofs.walk.+type_part.Given as goal

abbrev pub decreases-loop-step : goal.decreases-loop-step
decreases-loop-step l = vec_len l.steps

-- the columns are those of a part inside the steps that are left
abbrev pub invariant-loop-step : goal.invariant-loop-step
invariant-loop-step l = record {
  same : l.questions ≡ l.fn.questions;
  stands : Standing l.fn.questions l.kinds l.tables.tables.now l.fn.reach l.fn.query l.steps.items l.columns;
  bounded : StandBounded l.tables.tables.now l.fn.query l.steps.items l.columns;
  below : deepest l.steps.items ≤ size-Query l.fn.query;
}
