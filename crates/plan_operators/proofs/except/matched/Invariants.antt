use Rattle.std.proofs.Common.{◌≡◌, length, fold, slice_get}
use Rattle.std.specs.List.{filter_map}
use Rattle.plan_operators.specs.Operators.{matched, with_match}
use Rattle.row_conditions.specs.Truths.{slots_of}
use Rattle.plan_operators.proofs.except.matched.Given as goal

abbrev pub decreases-loop-place : goal.decreases-loop-place
decreases-loop-place l = length l.places

abbrev pub invariant-loop-place : goal.invariant-loop-place
invariant-loop-place l =
    fold (with_match l.right.columns (slots_of l.columns l.cells)) l.out (filter_map (slice_get l.right.rows) l.places)
    ≡ matched l.right.columns (slots_of l.columns l.cells) (filter_map (slice_get l.right.rows) l.fn.places)
