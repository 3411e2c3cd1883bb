use Rattle.std.proofs.Common.{◌∙◌, arith, rules}
use Rattle.std.proofs.lemmas.List.{nil_from_length}
use Rattle.counting_writes.proofs.CountingLaws.{counting_end}
use Rattle.counting_writes.proofs.counting.counting_writes.Goals as goal
use Rattle.stored_versions.specs.Logs.{taken_from}

pub returns-clause-counting : goal.returns-clause-counting
returns-clause-counting c =
    c.from_vec.ensures
    ∙ counting_end c.args.catalog.now c.loop-write.writes.now (taken_from c.args.catalog.now c.args.writes.now) c.loop-write.counting.items (nil_from_length c.loop-write.writes.now (search (arith, rules))) c.loop-write.invariant.1
