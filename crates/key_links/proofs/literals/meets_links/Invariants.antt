use Rattle.std.proofs.Common.{◌≡◌, length}
use Rattle.key_links.specs.KeyLinks.{meets_links}
use Rattle.key_links.proofs.literals.meets_links.Given as goal

abbrev pub decreases-loop-link : goal.decreases-loop-link
decreases-loop-link l = length l.links

abbrev pub invariant-loop-link : goal.invariant-loop-link
invariant-loop-link l = meets_links l.fn.links l.cells ≡ meets_links l.links l.cells
