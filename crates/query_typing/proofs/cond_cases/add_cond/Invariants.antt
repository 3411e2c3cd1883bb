use Rattle.std.proofs.Common.{◌≡◌, ◌++◌, ℕ}
use Rattle.std.proofs.Common.{List as Items}
use Rattle.query_meaning.specs.PlainTypes.{asked}
use Rattle.query_meaning.specs.Typing.{columns_at}
use Rattle.query_typing.specs.Faults.{faults_at}
use Rattle.query_typing.specs.Waiting.{waiting_at, waiting_count}
use Rattle.query_typing.proofs.cond_cases.add_cond.Given as goal

abbrev pub decreases-loop-next : goal.decreases-loop-next
decreases-loop-next l = waiting_count l.waiting.items

-- the cases so far, and those of what waits, are those before and all of the condition
abbrev pub invariant-loop-next : goal.invariant-loop-next
invariant-loop-next l = (c : Items ℕ) → faults_at c l.faults.items ++ waiting_at c l.kinds (columns_at c l.columns) l.waiting.items ≡ faults_at c l.fn.faults.items ++ asked c l.kinds l.fn.cond (columns_at c l.columns)
