use Rattle.std.specs.Char.{is_ascii_digit}
use Rattle.std.proofs.Common.{◌≡◌, length, ◌-◌, ◌≤◌}
use Rattle.word_tokens.specs.Tokens.{run_end}
use Rattle.word_tokens.proofs.token.digits_end.Given as goal

abbrev pub invariant-loop-at : goal.invariant-loop-at
invariant-loop-at l = (run_end is_ascii_digit l.bytes l.at ≡ run_end is_ascii_digit l.bytes l.from) × (l.from ≤ l.at) × (l.at ≤ length l.bytes)

abbrev pub decreases-loop-at : goal.decreases-loop-at
decreases-loop-at l = length l.bytes - l.at
