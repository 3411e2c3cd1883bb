use Rattle.condition_sat.proofs.PossibleLaws.{always_says}
use Rattle.condition_sat.proofs.possible.all_satisfy.Goals as goal

pub returns : goal.returns
returns c = always_says _ _ _ c.in_ok-always.ensures.yes c.in_ok-always.ensures.no
