use Rattle.std.proofs.Common.{◌∙◌}
use Rattle.condition_sat.proofs.PossibleLaws.{found_says}
use Rattle.condition_sat.proofs.possible.holds_somewhere.Goals as goal

pub returns : goal.returns
returns c = c.is_some.ensures ∙ found_says _ _ _ c.in_ok-found.ensures.admitted c.in_ok-found.ensures.satisfying c.in_ok-found.ensures.none
