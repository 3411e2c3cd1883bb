use Rattle.std.specs.Prelude.{codes}
use Rattle.query_printer.specs.Printing.{insert_text, listed}
use Rattle.query_printer.proofs.PrintLaws.{five_parts}
use Rattle.query_printer.proofs.print_write.print_insert.Goals as goal

pub returns : goal.returns
unfolding insert_text
returns c = five_parts c.args.text.now.items c.extend_from_slice.new.self.items c.extend_from_slice-2.new.self.items c.extend_from_slice-3.new.self.items c.print_names.new.text.items c.extend_from_slice-4.new.self.items (codes "insert into ") c.args.table.now (codes " (") (listed c.args.columns.now) (codes ") values ") (cc c.in_ok-extend_from_slice.ensures.items) (cc (c.in_ok-extend_from_slice-2.ensures.items, c.as_slice.ensures)) (cc c.in_ok-extend_from_slice-3.ensures.items) (cc c.in_ok-print_names.ensures) (cc c.in_ok-extend_from_slice-4.ensures.items)
