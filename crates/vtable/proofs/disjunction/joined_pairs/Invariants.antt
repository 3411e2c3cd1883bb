use Rattle.std.proofs.Common.{◌≡◌, ◌<◌, ◌≤◌, ◌+◌, ◌*◌, ◌||◌, ℕ, length}
use Rattle.std.specs.Prelude.{IsTrue}
use Rattle.std.proofs.Common.{List as Items}
use Rattle.vtable.specs.Disjunction.{any_holds, any_mentions, conds_cost}
use Rattle.vtable.proofs.disjunction.joined_pairs.Given as goal

abbrev pub invariant-loop-right : goal.invariant-loop-right
invariant-loop-right l = record {
  holds : (c : Items ℕ) → (any_holds c l.conds.items || any_holds c l.joined.items) ≡ any_holds c l.fn.conds.items;
  cost : conds_cost l.conds.items + conds_cost l.joined.items ≤ conds_cost l.fn.conds.items;
  known : (i : ℕ) → IsTrue (any_mentions i l.conds.items || any_mentions i l.joined.items) → IsTrue (any_mentions i l.fn.conds.items);
  half : 2 * length l.joined.items + length l.conds.items ≤ length l.fn.conds.items + 1;
  even : 0 < length l.conds.items → 2 * length l.joined.items + length l.conds.items ≤ length l.fn.conds.items;
  some : length l.fn.conds.items ≤ 2 * length l.joined.items + length l.conds.items;
}

abbrev pub decreases-loop-right : goal.decreases-loop-right
decreases-loop-right l = length l.conds.items
