use Rattle.std.proofs.Common.{◌+◌, length, refl}
use Rattle.message_shapes.specs.Shapes.{number_bytes}
use Rattle.message_shapes.proofs.Steps.{fills}
use Rattle.pg_messages.specs.Startup.{startup_head_bytes, startup_code, startup_sent, startup_layout}
use Rattle.pg_messages.proofs.startup_codec.encode_startup_from.Goals as goal

pub returns : goal.returns
unfolding startup_head_bytes number_bytes
returns c =
    let body = startup_layout c.args.startup.now in
    fills (startup_head_bytes (startup_code (startup_sent c.args.startup.now).kind) (length body + 8)) body c.put_startup.new.at c.put_startup_head.new.at (record { skip = c.args.offset; filled = 0 }) c.args.space.now c.put_startup_head.new.space c.put_startup.new.space refl c.put_startup.ensures.within c.put_startup_head.ensures.puts c.put_startup.ensures.puts
