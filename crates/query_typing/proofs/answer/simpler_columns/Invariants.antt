use Rattle.query_typing.specs.Answer.{AreSimpler}
use Rattle.query_typing.proofs.answer.simpler_columns.Given as goal

-- the columns so far
abbrev pub invariant-loop-column : goal.invariant-loop-column
invariant-loop-column l = AreSimpler l.yielded l.out.items
