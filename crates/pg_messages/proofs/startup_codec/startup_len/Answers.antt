use Rattle.std.proofs.Common.{[], arith}
use Rattle.message_shapes.proofs.Steps.{step_skip}
use Rattle.pg_messages.specs.Startup.{startup_layout}
use Rattle.pg_messages.proofs.startup_codec.startup_len.Goals as goal

pub returns : goal.returns
returns c =
    let skip = step_skip (startup_layout c.args.startup.now) c.put_startup.new.at (record { skip = 18446744073709551615; filled = 0 }) c.put_startup.new.space [] c.put_startup.ensures.puts in
    omega (arith, skip, c.passed.ensures, c.saturating_add.ensures)
