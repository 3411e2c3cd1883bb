use Rattle.condition_sat.proofs.SettledLaws.{always_true}
use Rattle.condition_sat.proofs.possible.holds_always.Goals as goal

pub returns-in-True : goal.returns-in-True
returns-in-True c = always_true _ _ c.in-True.is
