use Rattle.std.proofs.Common.{◌≡◌, ◌<◌, ◌≤◌, ℕ, length}
use Rattle.std.specs.Prelude.{IsTrue}
use Rattle.std.proofs.Common.{List as Items}
use Rattle.vtable.specs.Disjunction.{any_holds, any_mentions, conds_cost}
use Rattle.vtable.proofs.disjunction.disjunction.Given as goal

abbrev pub invariant-loop-alloc : goal.invariant-loop-alloc
invariant-loop-alloc l = record {
  holds : (c : Items ℕ) → any_holds c l.conds.items ≡ any_holds c l.fn.conds.items;
  cost : conds_cost l.conds.items ≤ conds_cost l.fn.conds.items;
  known : (i : ℕ) → IsTrue (any_mentions i l.conds.items) → IsTrue (any_mentions i l.fn.conds.items);
  some : 0 < length l.conds.items;
}

abbrev pub decreases-loop-alloc : goal.decreases-loop-alloc
decreases-loop-alloc l = length l.conds.items
