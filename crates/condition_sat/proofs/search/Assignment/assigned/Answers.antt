use Rattle.std.proofs.Common.{sym, ◌∙◌}
use Rattle.condition_sat.proofs.Assigned.{lacks_above}
use Rattle.condition_sat.proofs.search.Assignment.assigned.Goals as goal
use Rattle.condition_sat.proofs.search.Assignment.assigned.Goals.{then-feature-ge-FEATURE_LIMIT, else-feature-ge-FEATURE_LIMIT}

pub returns-then-holds-2 : goal.returns-then-holds-2
returns-then-holds-2 c =
    elim c.if-feature-ge-FEATURE_LIMIT.branch [
      | then-feature-ge-FEATURE_LIMIT w ↦ (sym c.if-holds.ensures, λ c' extends. lacks_above c' _ extends.config w.if-feature-ge-FEATURE_LIMIT.true)
      | else-feature-ge-FEATURE_LIMIT w ↦ (sym c.if-holds.ensures, λ c' extends. extends.lacking _ (sym w.holds-else-feature-ge-FEATURE_LIMIT.ensures ∙ sym w.value-is ∙ c.if-holds-2.true))
    ]
