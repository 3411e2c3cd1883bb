use Rattle.std.proofs.Common.{◌≡◌, ◌++◌, map, take}
use Rattle.std.specs.List.{flat_map}
use Rattle.query_meaning.specs.WriteTyping.{assignment_of, value_occurrence}
use Rattle.query_names.specs.Findings.{cases, places}
use Rattle.query_names.specs.Headings.{headings}
use Rattle.query_names.specs.Writes.{unknown_bare}
use Rattle.vra_syntax.specs.declared.write.SetItem.{SetItem}
use Rattle.query_names.proofs.write_names.read_items.Given as goal

-- the items so far
abbrev pub invariant-loop-item : goal.invariant-loop-item
invariant-loop-item l = record {
  unknown : cases l.findings.unknown.items ≡ cases l.fn.findings.unknown.items ++ unknown_bare (headings l.columns) (map (λ (item : SetItem). item.column) (take l.item-index l.items));
  parameters : places l.findings.parameters.items ≡ places l.fn.findings.parameters.items ++ flat_map (value_occurrence (headings l.columns)) (map assignment_of (take l.item-index l.items));
}
