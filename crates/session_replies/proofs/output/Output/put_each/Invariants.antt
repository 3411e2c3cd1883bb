use Rattle.std.proofs.Common.{◌≡◌, ◌≤◌, ◌++◌, min, drop}
use Rattle.session_replies.specs.Output.{KeepsFront}
use Rattle.session_replies.specs.Replies.{spelled}
use Rattle.session_replies.specs.declared.output.TheConstants.{KEPT_ROOM}
use Rattle.session_replies.proofs.output.Output.put_each.Given as goal

abbrev pub invariant-messages : goal.invariant-messages
invariant-messages l = record {
  bytes : l.self.bytes ++ spelled (drop l.message-index l.messages) ≡ l.fn.self.bytes ++ spelled l.messages;
  begins : KeepsFront l.fn.self.bytes l.self.bytes;
  room : min KEPT_ROOM l.fn.self.spare ≤ l.self.spare;
}
