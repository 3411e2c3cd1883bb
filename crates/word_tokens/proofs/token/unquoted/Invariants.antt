use Rattle.std.proofs.Common.{◌≡◌, ◌++◌, ◌-◌, drop, length}
use Rattle.word_tokens.specs.Tokens.{unquoted}
use Rattle.word_tokens.proofs.token.unquoted.Given as goal

-- what was read and what is left are all
abbrev pub invariant-loop-at : goal.invariant-loop-at
invariant-loop-at l = l.plain.items ++ unquoted (drop l.at l.bytes) ≡ unquoted l.bytes

abbrev pub decreases-loop-at : goal.decreases-loop-at
decreases-loop-at l = length l.bytes - l.at
