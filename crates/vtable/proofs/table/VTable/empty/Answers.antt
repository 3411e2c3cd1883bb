use Rattle.vtable.proofs.EmptyLaws.{empty_distinct, empty_answers}
use Rattle.vtable.proofs.table.VTable.empty.Goals as goal

pub returns-clause-distinct : goal.returns-clause-distinct
returns-clause-distinct c = empty_distinct _ c.new-columns.ensures

pub returns-clause-answers : goal.returns-clause-answers
returns-clause-answers c = empty_answers _ _ c.new-columns.ensures c.new-rows.ensures
