use Rattle.std.proofs.Common.{refl}
use Rattle.query_typing.proofs.SimplerLaws.{simplified_is}
use Rattle.query_typing.proofs.answer.simpler_column.Goals as goal

pub returns : goal.returns
returns c = let it = c.in_ok-cond.ensures in record { name = refl; kind = refl; cond = simplified_is c.args.column.cond c.in_ok-cond.cond it.meaning it.weight it.features }
