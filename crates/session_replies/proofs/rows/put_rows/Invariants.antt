use Rattle.std.proofs.Common.{◌≡◌, ◌≤◌, ◌++◌, min, map, drop, IfSome}
use Rattle.feature_expr.specs.Printing.{text_of}
use Rattle.session_replies.specs.AnswerMessages.{data_row, too_long}
use Rattle.session_replies.specs.Output.{KeepsFront}
use Rattle.session_replies.specs.Replies.{spelled}
use Rattle.session_replies.specs.declared.output.TheConstants.{KEPT_ROOM}
use Rattle.session_replies.proofs.rows.put_rows.Given as goal

abbrev pub invariant-rows : goal.invariant-rows
invariant-rows l = record {
  bytes : l.output.bytes ++ spelled (map (data_row l.features) (drop l.row-index l.rows)) ≡ l.fn.output.bytes ++ spelled (map (data_row l.features) l.rows);
  long : too_long (map (data_row l.features) l.rows) ≡ too_long (map (data_row l.features) (drop l.row-index l.rows));
  begins : KeepsFront l.fn.output.bytes l.output.bytes;
  room : min KEPT_ROOM l.fn.output.spare ≤ l.output.spare;
  last : IfSome l.last (λ it. l.text ≡ text_of l.features it.now);
}
