use Rattle.std.proofs.Common.{◌≡◌, ℕ, true}
use Rattle.feature_expr.specs.Config.{has_feature}
use Rattle.condition_sat.proofs.samples.assigned_near.Given as goal

-- nothing holds so far but the features
abbrev pub invariant-loop-feature : goal.invariant-loop-feature
invariant-loop-feature l = (i : ℕ) → has_feature l.assignment.held i ≡ true → has_feature l.features i ≡ true
