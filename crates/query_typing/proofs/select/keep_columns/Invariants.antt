use Rattle.std.proofs.Common.{◌≡◌, ◌++◌, ℕ, drop}
use Rattle.std.proofs.Common.{List as Items}
use Rattle.std.specs.List.{flat_map}
use Rattle.conditional_columns.specs.FormLists.{item_columns}
use Rattle.query_meaning.specs.Typing.{columns_at, headings}
use Rattle.relational_algebra.specs.Items.{kept_by, picked}
use Rattle.query_typing.proofs.select.keep_columns.Given as goal

abbrev pub invariant-loop-item : goal.invariant-loop-item
invariant-loop-item l = record {
  exact : l.kept.items ++ flat_map (item_columns l.columns) (drop l.item-index l.items) ≡ flat_map (item_columns l.columns) l.items;
  there : (c : Items ℕ) → columns_at c l.kept.items ++ flat_map (kept_by c (columns_at c l.columns)) (drop l.item-index l.items) ≡ flat_map (kept_by c (columns_at c l.columns)) l.items;
  headings : headings l.kept.items ++ flat_map (picked (headings l.columns)) (drop l.item-index l.items) ≡ flat_map (picked (headings l.columns)) l.items;
}
