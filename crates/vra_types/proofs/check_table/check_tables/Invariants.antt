use Rattle.std.proofs.Common.{map, drop}
use Rattle.vra_types.specs.Check.{TableGap}
use Rattle.vra_types.proofs.Left.{IsLeft}
use Rattle.vra_types.proofs.check_table.check_tables.Given as goal

abbrev pub invariant-loop-table : goal.invariant-loop-table
invariant-loop-table l = IsLeft l.model (map TableGap l.tables) (map TableGap (drop l.table-index l.tables))
