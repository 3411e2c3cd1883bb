use Rattle.std.proofs.Common.{rules}
use Rattle.pg_messages.specs.Startup.{startup_bytes}
use Rattle.pg_messages.proofs.Added.{added, joined}
use Rattle.pg_messages.proofs.startup_codec.encode_startup.Goals as goal

pub returns-clause-ok : goal.returns-clause-ok
returns-clause-ok c =
    joined c.split_at_mut-space.result.0.now c.encode_startup_from.new.space _ c.args.into.now.items (startup_bytes c.args.startup.now) c.add_room.new.into.len
    (search rules)
    (added _ c.split_at_mut-space.result.1.now c.split_at_mut-space.result.1.now c.encode_startup_from.new.space _ (search rules) (search rules) c.encode_startup_from.ensures)
    (search rules)
