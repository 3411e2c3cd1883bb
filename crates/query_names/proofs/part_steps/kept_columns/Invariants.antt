use Rattle.std.proofs.Common.{◌≡◌, ◌++◌, take}
use Rattle.query_meaning.specs.Names.{unknown_in_items}
use Rattle.query_names.specs.Findings.{cases}
use Rattle.query_names.specs.Headings.{headings}
use Rattle.relational_algebra.specs.Items.{possible_kept}
use Rattle.vra_syntax.specs.declared.items.Items.TheVariants.{Listed}
use Rattle.query_names.proofs.part_steps.kept_columns.Given as goal

-- the items so far
abbrev pub invariant-loop-item : goal.invariant-loop-item
invariant-loop-item l = record {
  columns : headings l.kept.items ≡ possible_kept (Listed (take l.item-index l.items)) (headings l.source);
  unknown : cases l.findings.unknown.items ≡ cases l.fn.findings.unknown.items ++ unknown_in_items (headings l.source) (Listed (take l.item-index l.items));
  parameters : l.findings.parameters ≡ l.fn.findings.parameters;
}
