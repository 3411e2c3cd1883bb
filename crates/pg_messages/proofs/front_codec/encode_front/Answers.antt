use Rattle.std.proofs.Common.{rules}
use Rattle.pg_messages.specs.Front.{front_bytes}
use Rattle.pg_messages.proofs.Added.{added, joined}
use Rattle.pg_messages.proofs.front_codec.encode_front.Goals as goal

pub returns-clause-ok : goal.returns-clause-ok
returns-clause-ok c =
    joined c.split_at_mut-space.result.0.now c.encode_front_from.new.space _ c.args.into.now.items (front_bytes c.args.front.now) c.add_room.new.into.len
    (search rules)
    (added _ c.split_at_mut-space.result.1.now c.split_at_mut-space.result.1.now c.encode_front_from.new.space _ (search rules) (search rules) c.encode_front_from.ensures)
    (search rules)
