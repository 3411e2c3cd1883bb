use Rattle.condition_sat.proofs.Counting.{unassigned_below}
use Rattle.condition_sat.proofs.search.+search.Given as goal

-- the number of features that aren't assigned
abbrev pub decreases-search : goal.decreases-search
decreases-search l = unassigned_below l.assignment.now 64
