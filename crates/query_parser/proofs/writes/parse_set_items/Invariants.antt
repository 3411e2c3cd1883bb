use Rattle.std.proofs.Common.{◌-◌, ◌<◌, ◌≤◌, length}
use Rattle.query_parser.specs.Statements.{SetItemsTo}
use Rattle.query_parser.proofs.writes.parse_set_items.Given as goal

abbrev pub invariant-items : goal.invariant-items
invariant-items l = record {
  after : l.from < l.end;
  within : l.end ≤ length l.parsing.reading.tokens.now;
  before : SetItemsTo l.parsing.with_params l.parsing.reading.text.now l.parsing.reading.tokens.now l.from l.items.items l.end;
}

abbrev pub decreases-items : goal.decreases-items
decreases-items l = length l.parsing.reading.tokens.now - l.end
