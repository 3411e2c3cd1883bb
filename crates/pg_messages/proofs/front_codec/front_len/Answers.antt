use Rattle.std.proofs.Common.{[], arith}
use Rattle.message_shapes.proofs.Steps.{step_skip}
use Rattle.pg_messages.specs.Front.{front_layout}
use Rattle.pg_messages.proofs.front_codec.front_len.Goals as goal

pub returns : goal.returns
returns c =
    let skip = step_skip (front_layout c.args.front.now) c.put_front.new.at (record { skip = 18446744073709551615; filled = 0 }) c.put_front.new.space [] c.put_front.ensures.puts in
    omega (arith, skip, c.passed.ensures, c.saturating_add.ensures)
