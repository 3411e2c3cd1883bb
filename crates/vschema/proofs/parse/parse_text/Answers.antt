use Rattle.vschema.proofs.AnswerLaws.{refused_text, is_catalogue}
use Rattle.vschema.proofs.FileLaws.{gives_found, gives_refused, fault_refused}
use Rattle.vschema.proofs.FormedLaws.{is_formed}
use Rattle.vschema.proofs.parse.parse_text.Goals as goal

pub returns-in-Ok-clause-formed : goal.returns-in-Ok-clause-formed
returns-in-Ok-clause-formed c = is_formed _ _ _ _ c.in-Ok.ensures.spelled

pub returns-in-Ok-clause-read : goal.returns-in-Ok-clause-read
returns-in-Ok-clause-read c = λ catalog rows is. gives_found c.args.text.now c.in-Ok.found catalog rows (is_catalogue c.args.text.now c.in_ok-tokens.tokens c.in-Ok.found.0 c.in-Ok.found.1 c.utf8.text c.in_ok-tokens.ensures (rw (c.as_bytes.ensures.value, c.as_slice.ensures) at c.in-Ok.ensures.spelled)) is

pub returns-clause-read : goal.returns-clause-read
returns-clause-read c = λ catalog rows is. gives_refused c.args.text.now c.placed.result catalog rows (refused_text c.args.text.now c.in_ok-tokens.tokens c.in-Err.fault c.placed.result c.utf8.text c.in_ok-tokens.ensures (rw (c.as_bytes.ensures.value, c.as_slice.ensures) at c.in-Err.ensures.refused) (rw c.as_slice-in-Err.ensures at c.placed.ensures)) is

pub returns-clause-refused_for : goal.returns-clause-refused_for
returns-clause-refused_for c = λ why r other. fault_refused c.args.text.now c.placed.result why (refused_text c.args.text.now c.in_ok-tokens.tokens c.in-Err.fault c.placed.result c.utf8.text c.in_ok-tokens.ensures (rw (c.as_bytes.ensures.value, c.as_slice.ensures) at c.in-Err.ensures.refused) (rw c.as_slice-in-Err.ensures at c.placed.ensures)) r other
