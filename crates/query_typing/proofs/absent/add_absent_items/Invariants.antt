use Rattle.std.proofs.Common.{◌≡◌, ◌++◌, ℕ, drop}
use Rattle.std.proofs.Common.{List as Items}
use Rattle.std.specs.List.{flat_map}
use Rattle.query_meaning.specs.PlainTypes.{absent_if}
use Rattle.query_meaning.specs.Typing.{columns_at}
use Rattle.query_typing.specs.Faults.{faults_at}
use Rattle.vra_syntax.specs.declared.items.Item.{Item}
use Rattle.query_typing.proofs.absent.add_absent_items.Given as goal

-- the cases so far, and those of the items that are left, are those of all
abbrev pub invariant-loop-item : goal.invariant-loop-item
invariant-loop-item l = (c : Items ℕ) → faults_at c l.faults.items ++ flat_map (λ (item : Item). absent_if c (columns_at c l.columns) item.column item.cond) (drop l.item-index l.items) ≡ faults_at c l.fn.faults.items ++ flat_map (λ (item : Item). absent_if c (columns_at c l.columns) item.column item.cond) l.items
