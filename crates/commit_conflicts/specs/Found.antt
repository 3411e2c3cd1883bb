-- What the search for a conflict answers.
use Rattle.std.specs.Prelude.{Option, Some, None}
use Rattle.stored_versions.specs.Conflicts.{Conflict}
use Rattle.commit_conflicts.specs.declared.conflict.TableConflict.{TableConflict}

abbrev pub found_conflict : Option TableConflict → Option Conflict
found_conflict None = None
found_conflict (Some it) = Some (record { table = it.table.now; place = it.place })
