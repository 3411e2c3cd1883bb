use Rattle.std.proofs.Common.{◌≡◌, ℕ, false, length, get_or}
use Rattle.query_names.proofs.scanned_tables.unmarked.Given as goal

-- none is marked
abbrev pub invariant-loop-number : goal.invariant-loop-number
invariant-loop-number l = record {
  full : length l.marks.items ≡ l._number;
  none : (k : ℕ) → get_or l.marks.items k false ≡ false;
}
