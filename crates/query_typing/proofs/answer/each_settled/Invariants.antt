use Rattle.std.proofs.Common.{◌≡◌}
use Rattle.query_typing.specs.Answer.{answer_columns}
use Rattle.query_typing.proofs.answer.each_settled.Given as goal

abbrev pub invariant-loop-column : goal.invariant-loop-column
invariant-loop-column l = record {
  same : l.questions ≡ l.fn.questions;
  made : l.out.items ≡ answer_columns l.fn.questions l.yielded;
}
