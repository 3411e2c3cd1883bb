use Rattle.std.specs.Prelude.{IfSome}
use Rattle.query_answers.specs.SimplerRows.{AreSimpler, IsSimplified}
use Rattle.query_answers.proofs.simpler.simpler_rows.Given as goal

-- the rows so far
abbrev pub invariant-loop-row : goal.invariant-loop-row
invariant-loop-row l = record {
  rows : AreSimpler l.yielded l.out.items;
  last : IfSome l.last IsSimplified;
}
