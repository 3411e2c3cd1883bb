use Rattle.std.proofs.Common.{◌∙◌}
use Rattle.condition_sat.proofs.Nodes.{satisfies-Feature}
use Rattle.condition_sat.proofs.Assigned.{beq_false}
use Rattle.condition_sat.proofs.search.Assignment.allows.Goals as goal

pub returns-in-Some : goal.returns-in-Some
returns-in-Some c = λ other c' extends.
    satisfies-Feature _ _ ∙ c.in-Some.ensures.1 c' extends ∙ beq_false _ _ other
