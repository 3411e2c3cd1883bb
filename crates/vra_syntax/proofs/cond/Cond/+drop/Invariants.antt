use Rattle.std.proofs.Common.{◌≤◌}
use Rattle.vra_syntax.specs.declared.cond.Cond.{size-Cond}
use Rattle.vra_syntax.proofs.cond.Cond.+drop.Given as goal

abbrev pub decreases-drop : goal.decreases-drop
decreases-drop l = goal.size-drop l

-- what is left is no deeper than the whole
abbrev pub invariant-loop-self : goal.invariant-loop-self
invariant-loop-self l = size-Cond l.self ≤ size-Cond l.fn.self
