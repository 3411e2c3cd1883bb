use Rattle.std.proofs.Common.{◌≡◌, ◌≤◌}
use Rattle.vra_syntax.specs.declared.cond.Cond.{size-Cond}
use Rattle.vra_syntax.specs.Binding.{bound_cond}
use Rattle.vra_syntax.specs.Chains.{rewrapped_cond}
use Rattle.vra_syntax.proofs.bind_cond.+bound_cond.Given as goal

-- the steps so far, round what is left with its values, are the whole with its values
abbrev pub invariant-loop-at : goal.invariant-loop-at
invariant-loop-at l = (rewrapped_cond l.steps.items (bound_cond l.values l.at) ≡ bound_cond l.values l.fn.cond) × (size-Cond l.at ≤ size-Cond l.fn.cond)
