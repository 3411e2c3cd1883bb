use Rattle.key_links.proofs.columns.column_link.Given as goal
use Rattle.key_links.specs.KeyLinks.{IsPart}
use Rattle.vra_syntax.specs.declared.cond.Cond.{size-Cond}

abbrev pub decreases-loop-at : goal.decreases-loop-at
decreases-loop-at l = size-Cond l.at

-- what is left is a part of the whole
abbrev pub invariant-loop-at : goal.invariant-loop-at
invariant-loop-at l = IsPart l.fn.cond l.at
