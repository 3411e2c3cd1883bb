use Rattle.std.proofs.Common.{◌≡◌, ◌-◌, length}
use Rattle.message_shapes.specs.Fields.{behind, until_end}
use Rattle.message_shapes.specs.Shapes.{next_at}
use Rattle.message_shapes.proofs.parts.pass_ended.Given as goal

-- behind the parts that are left are the bytes behind all of them
abbrev pub invariant-loop : goal.invariant-loop
invariant-loop g l = behind (until_end (next_at g.T.Part.shape.read) (length l.bytes - l.counter) l.rest) ≡ behind (until_end (next_at g.T.Part.shape.read) (length l.bytes) l.bytes)
