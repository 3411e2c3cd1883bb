use Rattle.feature_expr.proofs.ConfigBits.{IsConfig-view}
use Rattle.feature_expr.proofs.config.Config.known.Goals as goal

pub returns : goal.returns
returns c = IsConfig-view c.self.inside.bits _ c.self.view_is
