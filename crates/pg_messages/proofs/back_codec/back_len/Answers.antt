use Rattle.std.proofs.Common.{[], arith}
use Rattle.message_shapes.proofs.Steps.{step_skip}
use Rattle.pg_messages.specs.Back.{back_layout}
use Rattle.pg_messages.proofs.back_codec.back_len.Goals as goal

pub returns : goal.returns
returns c =
    let skip = step_skip (back_layout c.args.back.now) c.put_back.new.at (record { skip = 18446744073709551615; filled = 0 }) c.put_back.new.space [] c.put_back.ensures.puts in
    omega (arith, skip, c.passed.ensures, c.saturating_add.ensures)
