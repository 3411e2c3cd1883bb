use Rattle.vtable.proofs.out_table.normal.Goals as goal

pub returns : goal.returns
returns c = c.in_ok-table.ensures c.requires.distinct c.requires.answers
