use Rattle.std.proofs.Common.{◌≡◌, ◌++◌, drop}
use Rattle.query_answers.specs.Scans.{scanned_rows}
use Rattle.query_answers.proofs.scan.scan_rows.Given as goal

abbrev pub invariant-rows : goal.invariant-rows
invariant-rows l = l.scanned.items ++ scanned_rows l.number (drop l.row-index l.rows) ≡ scanned_rows l.number l.rows
