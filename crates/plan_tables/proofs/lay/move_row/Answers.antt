use Rattle.std.proofs.Common.{sym, ◌∙◌}
use Rattle.plan_tables.proofs.SameLaws.{moved_row}
use Rattle.plan_tables.proofs.lay.move_row.Goals as goal

pub returns : goal.returns
returns c = moved_row _ _ c.args.row.cells c.args.row.cond _ _ _ _ c.requires.same c.requires.once (sym c.len.ensures ∙ c.if-len-columns.false) c.in_ok-moved.ensures c.in_ok-put_under.ensures
