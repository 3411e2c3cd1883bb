use Rattle.std.proofs.Common.{rules}
use Rattle.pg_messages.specs.Back.{back_bytes}
use Rattle.pg_messages.proofs.Added.{added, joined}
use Rattle.pg_messages.proofs.back_codec.encode_back.Goals as goal

pub returns-clause-ok : goal.returns-clause-ok
returns-clause-ok c =
    joined c.split_at_mut-space.result.0.now c.encode_back_from.new.space _ c.args.into.now.items (back_bytes c.args.back.now) c.add_room.new.into.len
    (search rules)
    (added _ c.split_at_mut-space.result.1.now c.split_at_mut-space.result.1.now c.encode_back_from.new.space _ (search rules) (search rules) c.encode_back_from.ensures)
    (search rules)
