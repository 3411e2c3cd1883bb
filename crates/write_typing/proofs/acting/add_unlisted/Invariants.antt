use Rattle.std.proofs.Common.{◌≡◌, ◌++◌, ℕ, drop}
use Rattle.std.proofs.Common.{List as Items}
use Rattle.std.specs.List.{flat_map}
use Rattle.query_meaning.specs.Typing.{columns_at}
use Rattle.query_meaning.specs.WriteTyping.{unlisted}
use Rattle.query_typing.specs.Faults.{faults_at}
use Rattle.write_typing.proofs.acting.add_unlisted.Given as goal

-- the cases so far, and those of the columns that are left, are those of all
abbrev pub invariant-loop-column : goal.invariant-loop-column
invariant-loop-column l = (c : Items ℕ) → faults_at c l.faults.items ++ flat_map (unlisted l.names) (columns_at c (drop l.column-index l.columns)) ≡ faults_at c l.fn.faults.items ++ flat_map (unlisted l.names) (columns_at c l.columns)
