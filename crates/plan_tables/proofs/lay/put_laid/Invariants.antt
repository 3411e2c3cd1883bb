use Rattle.std.proofs.Common.{◌≡◌, ◌++◌, take}
use Rattle.plan_tables.specs.Tables.{rows_laid}
use Rattle.plan_tables.proofs.lay.put_laid.Given as goal

abbrev pub invariant-loop-row : goal.invariant-loop-row
invariant-loop-row l = l.out.items ≡ l.fn.out.items ++ rows_laid l.to l.columns l.cond (take l.row-index l.rows)
