use Rattle.std.proofs.Common.{sym, ◌∙◌}
use Rattle.condition_sat.proofs.Assigned.{beq_true}
use Rattle.condition_sat.proofs.search.of_open_either.Goals as goal

pub returns-then-eval-value : goal.returns-then-eval-value
returns-then-eval-value c = λ whole right of known. of.left_met _ (sym c.eval.ensures ∙ beq_true _ _ c.if-eval-value.true)

pub returns-else-eval-value : goal.returns-else-eval-value
returns-else-eval-value c = λ whole right of known. (known.0, of.occurs_right _ known.1)
