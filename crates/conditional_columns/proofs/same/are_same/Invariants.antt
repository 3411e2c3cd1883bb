use Rattle.std.proofs.Common.{◌≡◌, take}
use Rattle.conditional_columns.proofs.same.are_same.Given as goal

abbrev pub invariant-loop-place : goal.invariant-loop-place
invariant-loop-place l = take l.place l.columns ≡ take l.place l.others
