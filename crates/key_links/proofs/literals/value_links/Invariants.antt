use Rattle.key_links.proofs.literals.value_links.Given as goal
use Rattle.key_links.specs.KeyLinks.{AreNeeded, IsPart}
use Rattle.vra_syntax.specs.declared.cond.Cond.{size-Cond}

abbrev pub decreases-loop-at : goal.decreases-loop-at
decreases-loop-at l = size-Cond l.at

-- what is left is a part of the whole, of which the links so far are needed
abbrev pub invariant-loop-at : goal.invariant-loop-at
invariant-loop-at l = IsPart l.cond l.at × AreNeeded l.cond l.columns l.links.items
