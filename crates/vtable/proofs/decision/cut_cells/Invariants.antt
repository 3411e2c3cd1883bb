use Rattle.std.proofs.Common.{◌≡◌, ◌++◌, drop}
use Rattle.std.specs.Prelude.{reverse}
use Rattle.vtable.specs.Passes.{cells_by}
use Rattle.vtable.proofs.decision.cut_cells.Given as goal

abbrev pub invariant-loop-fate : goal.invariant-loop-fate
invariant-loop-fate l = l.cut.items ++ cells_by (drop l.fate-index l.fates) (reverse l.cells) ≡ cells_by l.fates l.fn.cells
