use Rattle.std.proofs.Common.{◌≡◌, ◌++◌}
use Rattle.query_meaning.specs.Names.{unknown_in_cond}
use Rattle.query_meaning.specs.Parameters.{occurrences}
use Rattle.query_names.specs.Findings.{cases, places}
use Rattle.query_names.specs.Headings.{headings}
use Rattle.query_names.specs.Waiting.{conds, waiting_unknown, waiting_parameters, waiting_nodes}
use Rattle.query_names.proofs.cond_names.read_cond.Given as goal

abbrev pub decreases-loop-next : goal.decreases-loop-next
decreases-loop-next l = waiting_nodes (conds l.waiting.items)

-- what was found so far, and then what waits, is all that was found before and all of the condition
abbrev pub invariant-loop-next : goal.invariant-loop-next
invariant-loop-next l = record {
  unknown : cases l.findings.unknown.items ++ waiting_unknown (headings l.columns) (conds l.waiting.items) ≡ cases l.fn.findings.unknown.items ++ unknown_in_cond (headings l.columns) l.fn.cond;
  parameters : places l.findings.parameters.items ++ waiting_parameters (headings l.columns) (conds l.waiting.items) ≡ places l.fn.findings.parameters.items ++ occurrences (headings l.columns) l.fn.cond;
}
