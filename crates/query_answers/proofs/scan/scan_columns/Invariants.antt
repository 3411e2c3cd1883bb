use Rattle.std.proofs.Common.{◌≡◌, ◌++◌, map, drop}
use Rattle.query_answers.specs.Held.{held_column}
use Rattle.query_answers.proofs.scan.scan_columns.Given as goal

abbrev pub invariant-columns : goal.invariant-columns
invariant-columns l = l.columns.items ++ map (held_column l.table) (drop l.column-index l.column-items) ≡ map (held_column l.table) l.column-items
