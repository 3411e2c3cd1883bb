use Rattle.std.proofs.Common.{◌≡◌, ◌++◌, map, drop}
use Rattle.std.specs.List.{flat_map}
use Rattle.message_shapes.specs.Shapes.{sized_bytes}
use Rattle.session_replies.specs.AnswerMessages.{cell_text}
use Rattle.session_replies.proofs.rows.push_cells.Given as goal

abbrev pub invariant-cells : goal.invariant-cells
invariant-cells l = l.cells.items ++ flat_map sized_bytes (map cell_text (drop l.cell-index l.row)) ≡ l.fn.cells.items ++ flat_map sized_bytes (map cell_text l.row)
