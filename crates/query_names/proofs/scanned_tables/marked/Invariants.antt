use Rattle.std.proofs.Common.{take}
use Rattle.query_names.specs.ScannedTables.{AreMarks}
use Rattle.query_names.proofs.scanned_tables.marked.Given as goal

-- the numbers so far are marked
abbrev pub invariant-loop-number : goal.invariant-loop-number
invariant-loop-number l = AreMarks l.count (take l.number-index l.numbers) l.marks.items
