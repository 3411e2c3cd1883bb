use Rattle.std.proofs.Common.{◌≡◌, ℕ, length, List, Option}
use Rattle.std.specs.Io.KnownBytes.{Appends}
use Rattle.top_calls.specs.Replays.{PutsFront}
use Rattle.top_calls.proofs.replay.put_all.Given as goal

-- what holds behind the rest holds behind the whole piece
abbrev pub invariant-pieces : goal.invariant-pieces
invariant-pieces g l = record {
  all : (after : Option (List ℕ)) → Appends (g.O.Sink.held l.out).bytes after l.rest → Appends (g.O.Sink.held l.fn.out).bytes after l.piece;
  front : (after : Option (List ℕ)) → PutsFront l.rest (g.O.Sink.held l.out).bytes after → PutsFront l.piece (g.O.Sink.held l.fn.out).bytes after;
  quiet : (g.O.Sink.held l.out).faults ≡ (g.O.Sink.held l.fn.out).faults;
}

abbrev pub decreases-pieces : goal.decreases-pieces
decreases-pieces g l = length l.rest
