use Rattle.condition_sat.proofs.SettledLaws.{meets_true}
use Rattle.vtable.proofs.decision.meets_column.Goals as goal

pub returns-in-True : goal.returns-in-True
returns-in-True c = meets_true _ _ _ c.in-True.is c.requires
