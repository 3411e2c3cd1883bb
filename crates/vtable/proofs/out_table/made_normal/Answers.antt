use Rattle.std.proofs.Common.{◌∙◌, ap, subst}
use Rattle.std.specs.List.{filter_map}
use Rattle.vtable.specs.Passes.{row_staying, staying, AllJoined}
use Rattle.vtable.proofs.NormalLaws.{normal_is}
use Rattle.vtable.proofs.out_table.made_normal.Goals as goal

pub returns : goal.returns
returns c = λ distinct answers.
    normal_is c.args.model.now c.args.table _ (record {
      moved = c.in_ok-rows.rows.items;
      cut = c.in_ok-rows-2.rows.items;
      sorted = c.in_ok-rows-3.rows.items;
      rows_moved = c.in_ok-rows.ensures;
      rows_cut = c.in_ok-rows-2.ensures ∙ ap (λ ds. filter_map (row_staying c.args.model.now ds) c.in_ok-rows.rows.items) (c.deref.ensures.value ∙ c.in_ok-columns.ensures);
      cut_moved = c.in_ok-rows-3.ensures.permutation;
      in_order = c.in_ok-rows-3.ensures.order;
      joined = subst (λ gs. AllJoined c.args.model.now gs c.in_ok-rows-4.rows) c.in_ok-groups.ensures c.in_ok-rows-4.ensures;
      columns = c.in_ok-columns-2.ensures ∙ ap staying c.in_ok-columns.ensures;
    }) distinct answers
