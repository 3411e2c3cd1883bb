use Rattle.std.proofs.Common.{◌≡◌, ◌++◌, drop}
use Rattle.query_answers.specs.Openings.{opening_from, opening_tables}
use Rattle.query_answers.proofs.opening.opening_rows.Given as goal

abbrev pub invariant-tables : goal.invariant-tables
invariant-tables l = (l.number ≡ l.table-index) × (l.tables.items ++ opening_from l.number (drop l.table-index l.table-items) l.rows ≡ opening_tables l.table-items l.rows)
