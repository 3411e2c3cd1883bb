use Rattle.std.proofs.Common.{◌≡◌, ◌++◌, length}
use Rattle.query_answers.specs.Retyped.{retyped}
use Rattle.query_answers.proofs.retype.retyped.Given as goal

abbrev pub decreases-columns : goal.decreases-columns
decreases-columns l = length l.columns

abbrev pub invariant-columns : goal.invariant-columns
invariant-columns l = l.out.items ++ retyped l.columns l.typed ≡ retyped l.fn.columns l.fn.typed
