use Rattle.vtable.proofs.GroupLaws.{sorted_in_order}
use Rattle.vtable.proofs.group.in_order.Goals as goal

pub returns-clause-order : goal.returns-clause-order
returns-clause-order c = sorted_in_order _ c.in_ok-sort.ensures.sorted
