use Rattle.std.proofs.Common.{◌-◌, refl}
use Rattle.message_shapes.specs.Shapes.{number_bytes}
use Rattle.message_shapes.proofs.Steps.{step_passed}
use Rattle.pg_messages.specs.Startup.{startup_head_bytes}
use Rattle.pg_messages.proofs.startup_codec.put_startup_head.Goals as goal

pub returns-then-at-ge8-clause-puts : goal.returns-then-at-ge8-clause-puts
unfolding startup_head_bytes number_bytes
returns-then-at-ge8-clause-puts c = step_passed _ 8 c.args.at.now (record { skip = c.args.at.now.skip - 8; filled = c.args.at.now.filled }) c.args.space.now refl c.if-at-ge8.true refl refl
