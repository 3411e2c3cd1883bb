use Rattle.std.proofs.Common.{◌≡◌, ◌≤◌, max}
use Rattle.vra_syntax.specs.declared.cond.Cond.{size-Cond}
use Rattle.vra_syntax.specs.Parameters.{param_in_cond}
use Rattle.vra_syntax.proofs.count.+in_cond.Given as goal

-- the greatest so far and that of what is left make the whole's
abbrev pub invariant-loop-at : goal.invariant-loop-at
invariant-loop-at l = (max l.greatest (param_in_cond l.at) ≡ param_in_cond l.fn.cond) × (size-Cond l.at ≤ size-Cond l.fn.cond)
