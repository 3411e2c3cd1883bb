use Rattle.std.proofs.Common.{◌≡◌, ◌++◌, ℕ, drop}
use Rattle.std.proofs.Common.{List as Items}
use Rattle.query_meaning.specs.Typing.{columns_at}
use Rattle.query_typing.specs.Faults.{faults_at}
use Rattle.write_typing.specs.Acting.{absent_names}
use Rattle.write_typing.proofs.acting.add_absent_names.Given as goal

-- the cases so far, and those of the names that are left, are those of all
abbrev pub invariant-loop-name : goal.invariant-loop-name
invariant-loop-name l = (c : Items ℕ) → faults_at c l.faults.items ++ absent_names (columns_at c l.columns) (drop l.name-index l.names) ≡ faults_at c l.fn.faults.items ++ absent_names (columns_at c l.columns) l.names
