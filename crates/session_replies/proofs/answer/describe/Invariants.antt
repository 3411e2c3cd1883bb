use Rattle.std.proofs.Common.{◌≡◌, ◌++◌, map, drop}
use Rattle.session_replies.specs.AnswerMessages.{column_field}
use Rattle.session_replies.proofs.answer.describe.Given as goal

abbrev pub invariant-columns : goal.invariant-columns
invariant-columns l = l.fields.items ++ map (column_field l.features) (drop l.column-index l.columns) ≡ map (column_field l.features) l.columns
