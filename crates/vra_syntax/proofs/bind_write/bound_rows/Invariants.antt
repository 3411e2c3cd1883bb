use Rattle.std.proofs.Common.{◌≡◌, map, take}
use Rattle.vra_syntax.specs.Binding.{bound_row}
use Rattle.vra_syntax.proofs.bind_write.bound_rows.Given as goal

-- what was bound so far
abbrev pub invariant-loop-row : goal.invariant-loop-row
invariant-loop-row l = l.bound.items ≡ map (bound_row l.values) (take l.row-index l.rows)
