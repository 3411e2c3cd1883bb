use Rattle.std.proofs.Common.{◌≡◌, ◌++◌, ℕ, length, take, drop, IsTrue}
use Rattle.std.proofs.Common.{List as Items}
use Rattle.relational_algebra.specs.Columns.{repeated}
use Rattle.query_meaning.specs.Typing.{columns_at}
use Rattle.conditional_columns.specs.ColumnLists.{columns_mention, conds_mention, names_where}
use Rattle.conditional_columns.proofs.repeated.repeats.Given as goal

-- the names that were found, and those that are left to be found
abbrev pub invariant-loop-place : goal.invariant-loop-place
invariant-loop-place l = record {
  each : length l.faults.items ≡ l.place;
  names : (c : Items ℕ) → repeated (columns_at c l.columns) ≡ names_where c (take l.place l.columns) l.faults.items ++ repeated (columns_at c (drop l.place l.columns));
  known : (i : ℕ) → IsTrue (conds_mention i l.faults.items) → IsTrue (columns_mention i l.columns);
}
