use Rattle.feature_expr.proofs.ConfigBits.{holds_with, with_within}
use Rattle.feature_expr.proofs.config.Config.with.Goals as goal

pub invariant_of-result : goal.invariant_of-result
invariant_of-result c = with_within c.self.inside.bits c.args.feature c.self.invariant

pub returns : goal.returns
returns c = record { holds = λ i. holds_with c.self.inside.bits c.args.feature _ c.self.view_is c.requires i }
