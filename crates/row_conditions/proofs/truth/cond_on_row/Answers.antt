use Rattle.std.proofs.Common.{◌∙◌, ap₂}
use Rattle.row_conditions.proofs.TruthOn.{truth_is_on}
use Rattle.row_conditions.proofs.truth.cond_on_row.Goals as goal
use Rattle.row_conditions.specs.Truths.{slots_of, truth_of}

pub returns : goal.returns
returns c = truth_is_on c.args.cond.now c.args.columns.now c.args.row.now c.in_ok-truth.truth (c.in_ok-truth.ensures ∙ ap₂ (λ columns cells. truth_of (slots_of columns cells) c.args.cond.now) c.as_slice.ensures c.as_slice-2.ensures)
