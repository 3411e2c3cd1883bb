use Rattle.std.proofs.Common.{◌+◌, sym}
use Rattle.query_parser.proofs.SettingLaws.{integer_is_setting}
use Rattle.query_parser.proofs.statements.setting_end.Goals as goal

pub returns-in-Some-clause-valued : goal.returns-in-Some-clause-valued
returns-in-Some-clause-valued c = integer_is_setting c.args.parsing.now.with_params c.args.parsing.now.reading.text.now c.args.parsing.now.reading.tokens.now (c.args.at + 2) c.in-Some._value (sym c.if-not-stands.ensures.exact) (sym c.in-Some.ensures)
