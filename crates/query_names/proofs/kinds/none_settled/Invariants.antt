use Rattle.std.proofs.Common.{◌≡◌, ℕ, None, length, get_or}
use Rattle.query_names.proofs.kinds.none_settled.Given as goal

-- nothing is settled
abbrev pub invariant-loop-place : goal.invariant-loop-place
invariant-loop-place l = record {
  full : length l.settled.items ≡ l._place;
  none : (k : ℕ) → get_or l.settled.items k None ≡ None;
}
