use Rattle.std.proofs.Common.{take}
use Rattle.query_names.specs.ScannedTables.{AreMarked}
use Rattle.query_names.proofs.scanned_tables.marked_tables.Given as goal

-- those of the marks so far
abbrev pub invariant-loop-number : goal.invariant-loop-number
invariant-loop-number l = AreMarked l.tables (take l.number l.marks) l.them.items
