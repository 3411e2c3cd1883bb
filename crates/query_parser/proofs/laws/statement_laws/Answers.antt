use Rattle.query_parser.proofs.TextLaws.{one_text, faultless}
use Rattle.query_parser.proofs.ReprintLaws.{reads_printed}
use Rattle.query_parser.proofs.laws.statement_laws.Goals as goal

pub returns-clause-one : goal.returns-clause-one
returns-clause-one c = one_text

pub returns-clause-faultless : goal.returns-clause-faultless
returns-clause-faultless c = faultless

pub returns-clause-printed : goal.returns-clause-printed
returns-clause-printed c = λ names with_params text before after s none is. reads_printed names none with_params text before after s is
