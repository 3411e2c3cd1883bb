use Rattle.vschema.proofs.FileLaws.{one_catalogue, faultless, one_refusal}
use Rattle.vschema.proofs.laws.catalogue_laws.Goals as goal

pub returns-clause-one : goal.returns-clause-one
returns-clause-one c = one_catalogue

pub returns-clause-faultless : goal.returns-clause-faultless
returns-clause-faultless c = faultless

pub returns-clause-one_fault : goal.returns-clause-one_fault
returns-clause-one_fault c = one_refusal
