use Rattle.std.proofs.Common.{sym}
use Rattle.vra_types.proofs.check_row.check_row.Goals as goal

pub returns-in-Some-clause-err : goal.returns-in-Some-clause-err
returns-in-Some-clause-err c = rw (sym c.in-Some.ensures) (rw c.as_slice.ensures at c.check_cells.ensures.err)
