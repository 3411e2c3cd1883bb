use Rattle.vschema.proofs.EntryLaws.{row_ends}
use Rattle.vschema.proofs.parse_row.parse_row.Goals as goal

pub returns-clause-spelled : goal.returns-clause-spelled
returns-clause-spelled c = row_ends c.args.reading.now.features.now c.args.reading.now.text.now c.args.reading.now.tokens.now c.args.tables.now.tables.items c.args.at c.in_ok-from.from c.in_ok-cells.behind c.in_ok-cond.end c.in_ok-number.table.now _ c.in_ok-from.ensures.ok.0 c.requires.begins c.in_ok-number.ensures.spelled c.in_ok-from.ensures.ok.1 (rw c.as_slice.ensures at c.in_ok-cells.ensures.spelled) c.in_ok-cond.ensures.spelled c.line_of.ensures
