use Rattle.std.proofs.Common.{◌≡◌, [], take, drop}
use Rattle.feature_expr.specs.Names.{refusal_from}
use Rattle.feature_expr.proofs.features.refusal_of.Given as goal

-- what is left is refused as all is
abbrev pub invariant-loop-place : goal.invariant-loop-place
invariant-loop-place l = refusal_from l.place (take l.place l.names) (drop l.place l.names) ≡ refusal_from 0 [] l.names
