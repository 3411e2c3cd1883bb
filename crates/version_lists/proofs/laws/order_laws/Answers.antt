use Rattle.version_lists.proofs.BlockLaws.{map_in_order, to_front}
use Rattle.version_lists.proofs.OrderLaws.{ascends_in_order, filter_in_order}
use Rattle.version_lists.proofs.laws.order_laws.Goals as goal

-- src/laws.rt
pub returns-clause-ascends : goal.returns-clause-ascends
returns-clause-ascends c = ascends_in_order

pub returns-clause-filtered : goal.returns-clause-filtered
returns-clause-filtered c = filter_in_order

pub returns-clause-mapped : goal.returns-clause-mapped
returns-clause-mapped c = map_in_order

pub returns-clause-moved : goal.returns-clause-moved
returns-clause-moved c = to_front
