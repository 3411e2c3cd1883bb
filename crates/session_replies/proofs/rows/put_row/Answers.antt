use Rattle.std.proofs.Common.{rules, ℕ, List, [], ◌∷◌, map, Option, Some, length-append, arith}
use Rattle.std.proofs.lemmas.List.{length-map}
use Rattle.session_replies.specs.AnswerMessages.{cell_text}
use Rattle.session_replies.proofs.RowLaws.{row_cells, row_on_ok}
use Rattle.session_replies.proofs.rows.put_row.Goals as goal

abbrev last : List ℕ → List (Option (List ℕ))
last cond = Some cond ∷ []

pub returns-clause-ok : goal.returns-clause-ok
returns-clause-ok c =
    row_on_ok c.put_row.result c.args.output.now.bytes c.put_row.new.self.bytes c.saturating_add.result c.as_slice.result.now _
    (record { counted = omega (arith, c.saturating_add.ensures, length-append (map cell_text c.args.row.now) (last c.args.condition.now), length-map c.args.row.now cell_text); spelled = row_cells _ c.args.condition.now c.as_slice.result.now (search rules) })
    c.put_row.ensures.ok
