use Rattle.condition_sat.proofs.PossibleLaws.{apart_says}
use Rattle.condition_sat.proofs.possible.meet_somewhere.Goals as goal

pub returns : goal.returns
returns c = apart_says _ _ _ _ c.in_ok-apart.ensures.yes c.in_ok-apart.ensures.no
