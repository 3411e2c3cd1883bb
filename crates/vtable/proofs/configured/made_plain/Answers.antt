use Rattle.std.proofs.Common.{◌≡◌, ◌==◌, ◌∙◌, ap, ap₂, map, length, false, rules}
use Rattle.std.specs.List.{filter_map}
use Rattle.plain_relation.specs.Relations.{columns_of}
use Rattle.vtable.specs.Answers.{column_at}
use Rattle.vtable.specs.Configured.{fate_at, row_there, group_values}
use Rattle.vtable.proofs.ConfiguredLaws.{present}
use Rattle.vtable.proofs.configured.made_plain.Goals as goal

pub returns : goal.returns
returns c = λ answer.
    let some : (length c.in_ok-columns.columns == 0) ≡ false = search rules in
    present c.args.config.now c.args.table.now c.in_ok-columns.columns c.in_ok-rows-3.rows c.in_ok-rows.rows.items c.in_ok-rows-2.rows.items answer some
    (c.in_ok-columns.ensures ∙ ap (λ ks. columns_of (map (column_at c.args.config.now) ks)) c.as_slice.ensures)
    (c.in_ok-rows.ensures
    ∙ ap₂ (λ fates rows. filter_map (row_there c.args.config.now fates) rows)
    (c.deref.ensures.value ∙ c.in_ok-fates.ensures ∙ ap (map (fate_at c.args.config.now)) c.as_slice-2.ensures)
    c.as_slice-3.ensures)
    c.in_ok-rows-2.ensures.permutation
    c.in_ok-rows-2.ensures.order
    (c.in_ok-rows-3.ensures ∙ ap (map group_values) c.in_ok-groups.ensures)
