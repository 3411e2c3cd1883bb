use Rattle.std.proofs.Common.{◌≡◌, ◌-◌, length}
use Rattle.message_shapes.specs.Fields.{until_end}
use Rattle.message_shapes.specs.Shapes.{next_at}
use Rattle.message_shapes.proofs.Loops.{joined}
use Rattle.message_shapes.proofs.parts.read_ended.Given as goal

-- the parts so far, before those that are left, are all of them
abbrev pub invariant-loop : goal.invariant-loop
invariant-loop g l = joined l.parts (until_end (next_at g.T.Part.shape.read) (length l.bytes - l.counter) l.rest) ≡ until_end (next_at g.T.Part.shape.read) (length l.bytes) l.bytes
