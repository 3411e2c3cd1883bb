use Rattle.std.proofs.Common.{◌≡◌, ◌-◌}
use Rattle.message_shapes.specs.Fields.{behind, times}
use Rattle.message_shapes.proofs.parts.pass_times.Given as goal

-- behind the parts that are left are the bytes behind all of them
abbrev pub invariant-loop : goal.invariant-loop
invariant-loop g l = behind (times g.T.Part.shape.read (l.count - l.counter) l.rest) ≡ behind (times g.T.Part.shape.read l.count l.bytes)
