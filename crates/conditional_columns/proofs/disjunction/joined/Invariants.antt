use Rattle.std.proofs.Common.{◌≡◌, ◌≤◌, ◌+◌, ◌||◌, ℕ, length, IsTrue}
use Rattle.std.proofs.Common.{List as Items}
use Rattle.feature_expr.specs.Expressions.{mentions, weight_of}
use Rattle.feature_expr.specs.Satisfaction.{satisfies}
use Rattle.conditional_columns.specs.ColumnLists.{any_holds, conds_cost, conds_mention}
use Rattle.conditional_columns.proofs.disjunction.joined.Given as goal

-- those that are left, and what was joined, are all of them
abbrev pub invariant-loop-next : goal.invariant-loop-next
invariant-loop-next l = record {
  holds : (c : Items ℕ) → (any_holds c l.conds.items || satisfies c l.whole) ≡ (any_holds c l.fn.conds.items || satisfies c l.fn.last);
  weight : conds_cost l.conds.items + weight_of l.whole ≤ conds_cost l.fn.conds.items + weight_of l.fn.last;
  known : (i : ℕ) → IsTrue (conds_mention i l.conds.items || mentions i l.whole) → IsTrue (conds_mention i l.fn.conds.items || mentions i l.fn.last);
}

abbrev pub decreases-loop-next : goal.decreases-loop-next
decreases-loop-next l = length l.conds.items
