use Rattle.std.proofs.Common.{◌≡◌, ◌≤◌, ◌++◌}
use Rattle.vra_syntax.specs.declared.cond.Cond.{size-Cond}
use Rattle.row_conditions.specs.Truths.{rewrapped_truth, slots_of, truth_of}
use Rattle.row_conditions.proofs.truth.+truth_on.Given as goal

-- the steps so far, round what is left as an expression, are the whole as one
abbrev pub invariant-loop-at : goal.invariant-loop-at
invariant-loop-at l = (rewrapped_truth l.steps.items (truth_of (slots_of l.left.columns.now l.left.cells.now ++ slots_of l.right.columns.now l.right.cells.now) l.at) ≡ truth_of (slots_of l.left.columns.now l.left.cells.now ++ slots_of l.right.columns.now l.right.cells.now) l.fn.cond) × (size-Cond l.at ≤ size-Cond l.fn.cond)
