use Rattle.condition_sat.proofs.PossibleLaws.{some_admitted_of, admitted_of}
use Rattle.condition_sat.proofs.possible.possible_laws.Goals as goal

pub returns-clause-held : goal.returns-clause-held
returns-clause-held c = some_admitted_of

pub returns-clause-found : goal.returns-clause-found
returns-clause-found c = admitted_of
