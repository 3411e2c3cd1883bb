use Rattle.std.proofs.Common.{◌+◌, length, refl}
use Rattle.message_shapes.specs.Shapes.{number_bytes, one_byte}
use Rattle.message_shapes.proofs.Steps.{fills}
use Rattle.pg_messages.specs.Back.{back_byte, back_sent, back_layout}
use Rattle.pg_messages.specs.Spelling.{head_bytes}
use Rattle.pg_messages.proofs.back_codec.encode_back_from.Goals as goal

pub returns : goal.returns
unfolding head_bytes number_bytes one_byte
returns c =
    let body = back_layout c.args.back.now in
    fills (head_bytes (back_byte (back_sent c.args.back.now).kind) (length body + 4)) body c.put_back.new.at c.put_back_head.new.at (record { skip = c.args.offset; filled = 0 }) c.args.space.now c.put_back_head.new.space c.put_back.new.space refl c.put_back.ensures.within c.put_back_head.ensures.puts c.put_back.ensures.puts
