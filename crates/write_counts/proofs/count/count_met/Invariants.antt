use Rattle.std.proofs.Common.{◌≡◌, take}
use Rattle.write_counts.specs.Lists.{AreOnce, met_lists}
use Rattle.write_counts.proofs.count.count_met.Given as goal

abbrev pub invariant-loop-row : goal.invariant-loop-row
invariant-loop-row l = (l.questions ≡ l.fn.questions) × AreOnce (met_lists l.fn.questions l.table l.narrowed l.cond (take l.row-index l.rows)) l.lists
