use Rattle.std.proofs.Common.{◌≡◌, ◌++◌, drop, List}
use Rattle.plan_tables.specs.declared.rows.TableRows.{TableRows}
use Rattle.transaction_answers.specs.TablesAfter.{AreFrom}
use Rattle.transaction_answers.proofs.tables.tables_after.Given as goal

abbrev pub invariant-tables : goal.invariant-tables
invariant-tables g l = (l.number ≡ l.table-index) × ((behind : List TableRows) → AreFrom l.store l.snap l.writes l.number (drop l.table-index l.table-items) behind → AreFrom l.store l.snap l.writes 0 l.table-items (l.tables.items ++ behind))
