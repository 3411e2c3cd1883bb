use Rattle.std.proofs.Common.{sym}
use Rattle.feature_expr.proofs.parse.feature_at.Goals as goal

pub returns-in-Some : goal.returns-in-Some
returns-in-Some c = rw (sym c.in-Some.ensures) (rw c.bytes.ensures at c.find_word.ensures)

pub returns-in-None : goal.returns-in-None
returns-in-None c = rw (sym c.in-None.ensures)
