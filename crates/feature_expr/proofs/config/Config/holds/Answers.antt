use Rattle.feature_expr.proofs.ConfigBits.{holds_below, holds_above}
use Rattle.feature_expr.proofs.config.Config.holds.Goals as goal

pub returns-then-feature-lt-FEATURE_LIMIT : goal.returns-then-feature-lt-FEATURE_LIMIT
returns-then-feature-lt-FEATURE_LIMIT c =
    holds_below c.self.inside.bits _ _ c.self.view_is c.if-feature-lt-FEATURE_LIMIT.true

pub returns-else-feature-lt-FEATURE_LIMIT : goal.returns-else-feature-lt-FEATURE_LIMIT
returns-else-feature-lt-FEATURE_LIMIT c =
    holds_above c.self.inside.bits _ _ c.self.view_is c.if-feature-lt-FEATURE_LIMIT.false
