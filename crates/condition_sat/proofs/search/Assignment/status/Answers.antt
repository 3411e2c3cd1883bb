use Rattle.std.proofs.Common.{sym, ◌∙◌}
use Rattle.condition_sat.proofs.Nodes.{satisfies-Feature, mentions-Feature}
use Rattle.condition_sat.proofs.Assigned.{beq_true, beq_false, same_number}
use Rattle.condition_sat.proofs.search.Assignment.status.Goals as goal

pub returns-then-assigned-value : goal.returns-then-assigned-value
returns-then-assigned-value c =
    satisfies-Feature _ _ ∙ c.in-Some.ensures.0 ∙ beq_true _ _ c.if-assigned-value.true

pub returns-else-assigned-value : goal.returns-else-assigned-value
returns-else-assigned-value c = λ c' extends.
    satisfies-Feature _ _ ∙ c.in-Some.ensures.1 c' extends ∙ beq_false _ _ c.if-assigned-value.false

pub returns-then-value : goal.returns-then-value
returns-then-value c = (c.in-None.ensures, mentions-Feature _ _ ∙ same_number _)

pub returns-else-value : goal.returns-else-value
returns-else-value c = satisfies-Feature _ _ ∙ c.in-None.ensures.not_held ∙ sym c.if-value.false
