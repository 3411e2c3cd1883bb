use Rattle.std.proofs.Common.{◌≡◌, length, ◌-◌, ◌≤◌}
use Rattle.word_tokens.specs.Tokens.{closing_at}
use Rattle.word_tokens.proofs.token.closing_at.Given as goal

abbrev pub invariant-characters : goal.invariant-characters
invariant-characters l = (closing_at l.bytes l.at ≡ closing_at l.bytes l.from) × (l.from ≤ l.at) × (l.at ≤ length l.bytes)

abbrev pub decreases-characters : goal.decreases-characters
decreases-characters l = length l.bytes - l.at
