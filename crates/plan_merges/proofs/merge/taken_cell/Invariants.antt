use Rattle.std.proofs.Common.{◌≡◌, length}
use Rattle.plan_merges.specs.Merges.{taken_slots}
use Rattle.plan_tables.specs.Tables.{heading, cell_under}
use Rattle.plan_merges.proofs.merge.taken_cell.Given as goal

abbrev pub decreases-loop-x : goal.decreases-loop-x
decreases-loop-x l = length l.columns

abbrev pub invariant-loop-x : goal.invariant-loop-x
invariant-loop-x l = cell_under (taken_slots l.ranks l.columns l.cells) (heading l.key) ≡ cell_under (taken_slots l.ranks l.fn.columns l.fn.cells) (heading l.key)
