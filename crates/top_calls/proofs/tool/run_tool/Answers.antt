use Rattle.top_calls.proofs.ReadyLaws.{no_fault_named}
use Rattle.top_calls.proofs.tool.run_tool.Goals as goal

pub returns-in-Some-clause-ready : goal.returns-in-Some-clause-ready
returns-in-Some-clause-ready g c = λ is ready. c.run_replay.ensures.completes (no_fault_named _ _ _ _ _ _ _ _ c.in-Some.ensures.catalogue c.in-Some.ensures.stream ready)

pub returns-in-Some-check_name-clause-ready_to_check : goal.returns-in-Some-check_name-clause-ready_to_check
returns-in-Some-check_name-clause-ready_to_check g c = λ is ready. c.run_check.ensures.completes (no_fault_named _ _ _ _ _ _ _ _ c.in-Some-check_name.ensures.catalogue c.in-Some-check_name.ensures.catalogue ready)
