use Rattle.std.proofs.lemmas.Result.{err_from_is_err_and}
use Rattle.vschema.specs.Faults.{entry_memory}
use Rattle.vschema.proofs.EntryLaws.{entries_refused}
use Rattle.vschema.proofs.entries.parse_entries.Goals as goal

pub returns-in_err-entries-clause-refused : goal.returns-in_err-entries-clause-refused
returns-in_err-entries-clause-refused c =
    let p = err_from_is_err_and c.from_residual-in_err-entries.result c.from_residual-in_err-entries.ensures.1 in
    rw (p.1, p.2) (entries_refused c.args.reading.now.features.now c.args.reading.now.text.now c.args.reading.now.tokens.now c.args.from c.entries.at _ _ _ c.entries.invariant.before entry_memory)
