use Rattle.std.proofs.Common.{◌≡◌, ◌++◌, false, rules, ◌∙◌, ap, Some}
use Rattle.vtable.specs.TableForm.{same_cells}
use Rattle.vtable.specs.Passes.{groups_after, table_row}
use Rattle.vtable.proofs.GroupLaws.{apart_put}
use Rattle.vtable.proofs.group.put_after.Goals as goal

pub returns-in_ok-push : goal.returns-in_ok-push
returns-in_ok-push c = λ rest.
    let apart : same_cells c.args.group.cells c.args.row.cells.items ≡ false = search rules in
    ap (λ g. c.push.new.self.items ++ groups_after (Some g) rest) c.new_group.ensures
    ∙ apart_put _ _ c.args.group (table_row c.args.row) rest apart c.in_ok-push.ensures.items
