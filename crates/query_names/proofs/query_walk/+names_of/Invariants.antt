use Rattle.std.proofs.Common.{◌≡◌, ◌≤◌, vec_len}
use Rattle.vra_syntax.specs.declared.query.Query.{size-Query}
use Rattle.query_meaning.specs.Names.{names_of}
use Rattle.query_names.specs.NameSteps.{names_round, deepest}
use Rattle.query_names.specs.Parts.{said}
use Rattle.query_names.proofs.query_walk.+names_of.Given as goal

abbrev pub decreases-loop-step : goal.decreases-loop-step
decreases-loop-step l = vec_len l.steps

-- the steps that are left, round what the parts so far say, give what the whole says
abbrev pub invariant-loop-step : goal.invariant-loop-step
invariant-loop-step l = record {
  whole : names_round l.tables.tables.now l.steps.items (said l.names) ≡ names_of l.tables.tables.now l.fn.query;
  below : deepest l.steps.items ≤ size-Query l.fn.query;
}
