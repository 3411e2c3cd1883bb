use Rattle.pg_messages.specs.Front.{front_side}
use Rattle.pg_messages.proofs.FrontLaws.{front_is, front_written, front_more}
use Rattle.pg_messages.proofs.SideLaws as side
use Rattle.pg_messages.proofs.laws.front_laws.Goals as goal

pub returns : goal.returns
returns c = record {
  written = front_written;
  read = side.again front_side front_is;
  spelled = side.takes front_side front_is;
  one = side.one front_side front_is;
  front = side.front front_side front_is;
  bad = side.bad front_side front_is;
  malformed = side.malformed front_side front_is;
  refused = side.refused front_side front_is;
  waits = front_more;
  behind = side.kept front_side;
}
