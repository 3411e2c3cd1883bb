use Rattle.std.proofs.Common.{ap, sym, ◌∙◌}
use Rattle.plan_merges.specs.Merges.{items_table, kept_table, merged_table}
use Rattle.plan_merges.proofs.keep.kept.Goals as goal

pub returns-in_ok-table-in-Listed : goal.returns-in_ok-table-in-Listed
returns-in_ok-table-in-Listed c = record {
  made = c.in_ok-table-in-Listed.ensures ∙ ap (λ items. merged_table (items_table items c.args.table)) c.as_slice.ensures ∙ sym (ap (λ items. kept_table items c.args.table) c.in-Listed.is);
}
