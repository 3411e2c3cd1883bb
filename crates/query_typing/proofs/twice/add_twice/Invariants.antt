use Rattle.std.proofs.Common.{◌≡◌, ◌++◌, ℕ, length}
use Rattle.std.proofs.Common.{List as Items}
use Rattle.query_meaning.specs.PlainTypes.{twice}
use Rattle.query_meaning.specs.Typing.{columns_at}
use Rattle.query_typing.specs.Faults.{faults_at}
use Rattle.query_typing.proofs.twice.add_twice.Given as goal

abbrev pub decreases-loop-column : goal.decreases-loop-column
decreases-loop-column l = length l.rest

-- the cases so far, and those of the columns that are left, are those of all
abbrev pub invariant-loop-column : goal.invariant-loop-column
invariant-loop-column l = (c : Items ℕ) → faults_at c l.faults.items ++ twice (columns_at c l.rest) ≡ faults_at c l.fn.faults.items ++ twice (columns_at c l.fn.columns)
