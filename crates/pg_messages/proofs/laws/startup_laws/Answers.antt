use Rattle.pg_messages.proofs.StartupLaws.{startup_written, startup_again, startup_takes, startup_one, startup_front, startup_bad, startup_kept, startup_more}
use Rattle.pg_messages.proofs.laws.startup_laws.Goals as goal

pub returns : goal.returns
returns c = record {
  written = startup_written;
  read = startup_again;
  spelled = startup_takes;
  one = startup_one;
  front = startup_front;
  bad = startup_bad;
  waits = startup_more;
  behind = startup_kept;
}
