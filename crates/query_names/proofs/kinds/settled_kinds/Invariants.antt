use Rattle.std.proofs.Common.{take}
use Rattle.query_names.specs.Findings.{places}
use Rattle.query_names.specs.Settling.{AreSettled}
use Rattle.query_names.proofs.kinds.settled_kinds.Given as goal

-- what those so far settle
abbrev pub invariant-loop-one : goal.invariant-loop-one
invariant-loop-one l = AreSettled l.count (places (take l.one-index l.parameters)) l.settled.items
