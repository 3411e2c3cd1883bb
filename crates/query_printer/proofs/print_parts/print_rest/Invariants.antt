use Rattle.std.proofs.Common.{◌≡◌, ◌++◌, map, flat_map, drop}
use Rattle.query_printer.specs.Printing.{behind_comma}
use Rattle.query_printer.proofs.print_parts.print_rest.Given as goal

-- what is printed and what is left are the whole
abbrev pub invariant-loop-part : goal.invariant-loop-part
invariant-loop-part g l = l.text.items ++ flat_map behind_comma (map (g.T.Listed.printed l.features) (drop l.part-index l.parts)) ≡ l.fn.text.items ++ flat_map behind_comma (map (g.T.Listed.printed l.features) l.parts)
