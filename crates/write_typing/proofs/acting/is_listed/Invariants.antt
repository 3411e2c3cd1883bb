use Rattle.std.proofs.Common.{◌≡◌, drop}
use Rattle.feature_expr.specs.Names.{among}
use Rattle.write_typing.proofs.acting.is_listed.Given as goal

abbrev pub invariant-loop-other : goal.invariant-loop-other
invariant-loop-other l = among l.name (drop l.other-index l.names) ≡ among l.name l.names
