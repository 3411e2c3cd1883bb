use Rattle.std.proofs.Common.{◌∙◌}
use Rattle.query_names.proofs.ItemLaws.{kept_at, unknown_at}
use Rattle.query_names.specs.Findings.{cases, facing}
use Rattle.query_names.specs.Headings.{headings}
use Rattle.query_names.proofs.part_steps.kept_columns.Goals as goal

pub loop-item-preserved : goal.loop-item-preserved
loop-item-preserved c = record {
  columns = kept_at (headings c.args.source.now) c.args.items.now c.loop-item.item-index c.item-item.result (headings c.loop-item.kept.items) _ c.given.result.now c.as_slice-in-loop-item.result.now c.loop-item-test.true c.item-item.is c.loop-item.invariant.columns c.given.ensures (c.as_slice-in-loop-item.ensures.value ∙ c.in_ok-kinds.ensures) c.in_ok-add_kinds.ensures;
  unknown = unknown_at (headings c.args.source.now) c.args.items.now c.loop-item.item-index c.item-item.result (cases c.args.findings.now.unknown.items) (cases c.loop-item.findings.unknown.items) _ (facing c.facing_by.result) c.as_slice.result.now c.loop-item-test.true c.item-item.is c.loop-item.invariant.unknown c.facing_by.ensures (c.as_slice.ensures.value ∙ c.in_ok-kinds.ensures) c.in_ok-add_name.ensures.unknown;
  parameters = c.in_ok-add_name.ensures.parameters ∙ c.loop-item.invariant.parameters;
}
