use Rattle.std.proofs.Common.{◌≡◌, ◌++◌, flat_map, drop}
use Rattle.query_printer.specs.Printing.{byte_text}
use Rattle.query_printer.proofs.print_parts.print_bytes.Given as goal

-- what is printed and what is left are the whole
abbrev pub invariant-loop-byte : goal.invariant-loop-byte
invariant-loop-byte l = l.text.items ++ flat_map byte_text (drop l.byte-index l.bytes) ≡ l.fn.text.items ++ flat_map byte_text l.bytes
