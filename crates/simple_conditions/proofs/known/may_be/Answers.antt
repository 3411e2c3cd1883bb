use Rattle.std.proofs.Common.{refl}
use Rattle.simple_conditions.proofs.known.may_be.Goals as goal

pub returns-then-is_told : goal.returns-then-is_told
returns-then-is_told c = λ told k fits. c.if-is_told.ensures refl k fits.held fits.failed
