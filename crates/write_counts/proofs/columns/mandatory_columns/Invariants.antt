use Rattle.std.proofs.Common.{◌≡◌, map, take}
use Rattle.write_counts.specs.Counts.{is_mandatory}
use Rattle.write_counts.proofs.columns.mandatory_columns.Given as goal

abbrev pub invariant-loop-column : goal.invariant-loop-column
invariant-loop-column l = (l.questions ≡ l.fn.questions) × (l.marks.items ≡ map (is_mandatory l.fn.questions l.table) (take l.column-index l.table.columns))
