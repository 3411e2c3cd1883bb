use Rattle.std.proofs.Common.{◌-◌, refl}
use Rattle.message_shapes.specs.Shapes.{number_bytes, one_byte}
use Rattle.message_shapes.proofs.Steps.{step_passed}
use Rattle.pg_messages.specs.Spelling.{head_bytes}
use Rattle.pg_messages.proofs.front_codec.put_front_head.Goals as goal

pub returns-then-at-ge5-clause-puts : goal.returns-then-at-ge5-clause-puts
unfolding head_bytes number_bytes one_byte
returns-then-at-ge5-clause-puts c = step_passed _ 5 c.args.at.now (record { skip = c.args.at.now.skip - 5; filled = c.args.at.now.filled }) c.args.space.now refl c.if-at-ge5.true refl refl
