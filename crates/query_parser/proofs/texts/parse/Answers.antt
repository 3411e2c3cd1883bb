use Rattle.query_parser.proofs.ParseLaws.{is_text, is_refused}
use Rattle.query_parser.proofs.ReprintLaws.{printed_found, printed_refused}
use Rattle.query_parser.proofs.TextLaws.{gives_refused, fault_refused}
use Rattle.query_parser.proofs.texts.parse.Goals as goal

pub returns-clause-read : goal.returns-clause-read
returns-clause-read c = λ all t. gives_refused c.args.features.now c.args.with_params c.args.text.now c.placed.result all (is_refused c.args.features.now c.args.with_params c.args.text.now c.in-Ok.tokens c.in-Err-parse_statements.fault c.placed.result c.in-Ok.ensures (rw (c.as_bytes.ensures.value, c.as_slice.ensures) at c.in-Err-parse_statements.ensures.refused) (rw c.as_slice-in-Err-parse_statements.ensures at c.placed.ensures)) t

pub returns-clause-refused : goal.returns-clause-refused
returns-clause-refused c = λ why r other. fault_refused c.args.features.now c.args.with_params c.args.text.now c.placed.result why (is_refused c.args.features.now c.args.with_params c.args.text.now c.in-Ok.tokens c.in-Err-parse_statements.fault c.placed.result c.in-Ok.ensures (rw (c.as_bytes.ensures.value, c.as_slice.ensures) at c.in-Err-parse_statements.ensures.refused) (rw c.as_slice-in-Err-parse_statements.ensures at c.placed.ensures)) r other

pub returns-clause-printed : goal.returns-clause-printed
returns-clause-printed c = λ origin before after s is same. printed_refused c.args.features.now c.count-names.ensures.names c.args.with_params origin before after s is c.args.text.now c.placed.result same (is_refused c.args.features.now c.args.with_params c.args.text.now c.in-Ok.tokens c.in-Err-parse_statements.fault c.placed.result c.in-Ok.ensures (rw (c.as_bytes.ensures.value, c.as_slice.ensures) at c.in-Err-parse_statements.ensures.refused) (rw c.as_slice-in-Err-parse_statements.ensures at c.placed.ensures))

pub returns-in-Ok-parse_statements-clause-printed : goal.returns-in-Ok-parse_statements-clause-printed
returns-in-Ok-parse_statements-clause-printed c = λ origin before after s is same. printed_found c.args.features.now c.count-names.ensures.names c.args.with_params origin before after s is c.args.text.now c.in-Ok-parse_statements.statements same (is_text c.args.features.now c.args.with_params c.args.text.now c.in-Ok.tokens c.in-Ok-parse_statements.statements c.in-Ok.ensures (rw (c.as_bytes.ensures.value, c.as_slice.ensures) at c.in-Ok-parse_statements.ensures.spelled))
