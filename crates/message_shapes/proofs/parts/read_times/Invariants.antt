use Rattle.std.proofs.Common.{◌≡◌, ◌-◌}
use Rattle.message_shapes.specs.Fields.{times}
use Rattle.message_shapes.proofs.Loops.{joined}
use Rattle.message_shapes.proofs.parts.read_times.Given as goal

-- the parts so far, before those that are left, are all of them
abbrev pub invariant-loop : goal.invariant-loop
invariant-loop g l = joined l.parts (times g.T.Part.shape.read (l.count - l.counter) l.rest) ≡ times g.T.Part.shape.read l.count l.bytes
