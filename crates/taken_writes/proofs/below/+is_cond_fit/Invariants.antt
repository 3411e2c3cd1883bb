use Rattle.std.proofs.Common.{◌≡◌, ◌==◌, ◌&&◌, ◌≤◌}
use Rattle.vra_syntax.specs.Parameters.{param_in_cond}
use Rattle.vra_syntax.specs.declared.cond.Cond.{size-Cond}
use Rattle.write_meaning.specs.TakenWrites.{cond_below}
use Rattle.taken_writes.proofs.below.+is_cond_fit.Given as goal

-- what is left is as the whole
abbrev pub invariant-loop-at : goal.invariant-loop-at
invariant-loop-at l = ((param_in_cond l.at == 0 && cond_below l.count l.at) ≡ (param_in_cond l.fn.cond == 0 && cond_below l.count l.fn.cond)) × (size-Cond l.at ≤ size-Cond l.fn.cond)
