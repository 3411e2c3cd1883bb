use Rattle.std.proofs.Common.{ℕ, List, ◌++◌, ◌∙◌, ap}
use Rattle.std.proofs.lemmas.Result.{on_ok_weaker}
use Rattle.query_printer.specs.Printing.{listed}
use Rattle.query_printer.proofs.PrintLaws.{map_same}
use Rattle.query_printer.proofs.print_write.print_names.Goals as goal

pub returns : goal.returns
returns c = on_ok_weaker c.print_listed.result (λ e. e ∙ ap (λ (names : List (List ℕ)). c.args.text.now.items ++ listed names) (map_same c.args.names.now)) c.print_listed.ensures
