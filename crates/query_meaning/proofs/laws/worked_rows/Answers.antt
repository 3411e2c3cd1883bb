use Rattle.query_meaning.proofs.WorkedLaws.{bounds, meanings, types, writes}
use Rattle.query_meaning.proofs.laws.worked_rows.Goals as goal

-- src/laws.rt
pub returns-clause-types : goal.returns-clause-types
returns-clause-types c = types

pub returns-clause-writes : goal.returns-clause-writes
returns-clause-writes c = writes

pub returns-clause-meanings : goal.returns-clause-meanings
returns-clause-meanings c = meanings

pub returns-clause-bounds : goal.returns-clause-bounds
returns-clause-bounds c = bounds
