use Rattle.feature_expr.proofs.ConfigBits.{ones_below-zero}
use Rattle.feature_expr.proofs.config.Config.none.Goals as goal

pub returns : goal.returns
returns c = ones_below-zero 64
