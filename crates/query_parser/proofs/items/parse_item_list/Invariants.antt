use Rattle.std.proofs.Common.{◌-◌, ◌<◌, ◌≤◌, length}
use Rattle.query_parser.specs.Parts.{ItemsTo}
use Rattle.query_parser.proofs.items.parse_item_list.Given as goal

abbrev pub invariant-items : goal.invariant-items
invariant-items l = record {
  after : l.from < l.end;
  within : l.end ≤ length l.reading.tokens.now;
  before : ItemsTo l.reading.features.now l.reading.text.now l.reading.tokens.now l.nesting l.from l.items.items l.end;
}

abbrev pub decreases-items : goal.decreases-items
decreases-items l = length l.reading.tokens.now - l.end
