use Rattle.pg_messages.specs.Back.{back_side}
use Rattle.pg_messages.proofs.BackLaws.{back_is, back_written, back_more}
use Rattle.pg_messages.proofs.SideLaws as side
use Rattle.pg_messages.proofs.laws.back_laws.Goals as goal

pub returns : goal.returns
returns c = record {
  written = back_written;
  read = side.again back_side back_is;
  spelled = side.takes back_side back_is;
  one = side.one back_side back_is;
  front = side.front back_side back_is;
  bad = side.bad back_side back_is;
  malformed = side.malformed back_side back_is;
  refused = side.refused back_side back_is;
  waits = back_more;
  behind = side.kept back_side;
}
