use Rattle.std.proofs.Common.{◌∙◌, ap, ◌++◌, map}
use Rattle.std.specs.Option.{option_to_list}
use Rattle.vtable.specs.Passes.{table_row}
use Rattle.vtable.proofs.out_table.put_row.Goals as goal

pub returns-clause-cut : goal.returns-clause-cut
returns-clause-cut c =
    c.in_ok-put_cut.ensures ∙ ap (λ row. map table_row c.args.cut.now.items ++ option_to_list row) (c.in_ok-staying.ensures c.args.model.now c.args.columns.now c.in_ok-decision.ensures.is c.in_ok-decision.ensures.cond)
