use Rattle.std.proofs.Common.{◌≡◌, ◌++◌, drop}
use Rattle.query_meaning.specs.Typing.{heading}
use Rattle.conditional_columns.specs.ColumnLists.{conds_of, like}
use Rattle.conditional_columns.proofs.read.conds_like.Given as goal

abbrev pub invariant-loop-column : goal.invariant-loop-column
invariant-loop-column l = l.conds.items ++ conds_of (like (heading l.one) (drop l.column-index l.columns)) ≡ conds_of (like (heading l.one) l.columns)
