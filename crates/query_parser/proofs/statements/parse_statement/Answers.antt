use Rattle.std.proofs.Common.{sym}
use Rattle.query_parser.proofs.StatementLaws.{sets}
use Rattle.query_parser.proofs.statements.parse_statement.Goals as goal

pub returns-in_ok-end-clause-spelled : goal.returns-in_ok-end-clause-spelled
returns-in_ok-end-clause-spelled c = sets c.args.parsing.now.with_params c.args.parsing.now.reading.features.now c.args.parsing.now.reading.text.now c.args.parsing.now.reading.tokens.now c.args.at c.in_ok-end.end (sym c.if-stands-4.ensures.exact) c.in_ok-end.ensures.named c.in_ok-end.ensures.equated c.in_ok-end.ensures.valued c.in_ok-end.ensures.ends
