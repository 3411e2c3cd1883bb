use Rattle.std.proofs.Common.{◌+◌, length, refl}
use Rattle.message_shapes.specs.Shapes.{number_bytes, one_byte}
use Rattle.message_shapes.proofs.Steps.{fills}
use Rattle.pg_messages.specs.Front.{front_byte, front_sent, front_layout}
use Rattle.pg_messages.specs.Spelling.{head_bytes}
use Rattle.pg_messages.proofs.front_codec.encode_front_from.Goals as goal

pub returns : goal.returns
unfolding head_bytes number_bytes one_byte
returns c =
    let body = front_layout c.args.front.now in
    fills (head_bytes (front_byte (front_sent c.args.front.now).kind) (length body + 4)) body c.put_front.new.at c.put_front_head.new.at (record { skip = c.args.offset; filled = 0 }) c.args.space.now c.put_front_head.new.space c.put_front.new.space refl c.put_front.ensures.within c.put_front_head.ensures.puts c.put_front.ensures.puts
