use Rattle.vschema.proofs.EntryLaws.{table_ends}
use Rattle.vschema.proofs.parse_table.parse_table.Goals as goal

pub returns-clause-spelled : goal.returns-clause-spelled
returns-clause-spelled c = table_ends c.args.reading.now.features.now c.args.reading.now.text.now c.args.reading.now.tokens.now c.args.tables.now.tables.items c.args.at c.in_ok-from.from c.in_ok-columns.behind c.in_ok-cond.end _ c.in_ok-from.ensures.ok.0 c.requires.begins c.in_ok-name.ensures.spelled c.in_ok-from.ensures.ok.1 c.in_ok-columns.ensures.spelled c.in_ok-cond.ensures.spelled
