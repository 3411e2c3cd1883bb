use Rattle.vschema.proofs.HeadLaws.{never_refused}
use Rattle.vschema.proofs.parse_features.parse_features.Goals as goal

pub unreachable-requires : goal.unreachable-requires
unreachable-requires c = never_refused c.args.reading.now.text.now c.args.reading.now.tokens.now c.in_ok-names.names c.in_ok-names.end c.in-Err._why c.in_ok-names.ensures.spelled c.in-Err.ensures.err
