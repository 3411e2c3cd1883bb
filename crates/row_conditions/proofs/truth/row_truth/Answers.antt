use Rattle.std.proofs.Common.{append-nil, ◌∙◌, ap}
use Rattle.row_conditions.proofs.truth.row_truth.Goals as goal
use Rattle.row_conditions.specs.Truths.{slots_of, truth_of}

pub returns : goal.returns
returns c = c.in_ok-truth.ensures ∙ ap (λ slots. truth_of slots c.args.cond.now) (append-nil (slots_of c.args.columns.now c.args.cells.now))
