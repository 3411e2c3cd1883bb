use Rattle.std.proofs.Common.{◌≡◌, ◌+◌, arith}
use Rattle.query_parser.specs.Statements.{one_value}
use Rattle.query_parser.proofs.writes.parse_tuple.Goals as goal

pub values-init : goal.values-init
values-init c =
    let two : c.args.at + 1 + 1 ≡ c.args.at + 2 = omega arith in
    record {
      after = omega arith;
      within = omega (arith, c.in_ok-value.ensures.within);
      before = rw (c.in_ok-push.ensures.items, c.new-values.ensures.items) (rw two at (one_value c.in_ok-value.value c.in_ok-value.ensures.ok));
    }
