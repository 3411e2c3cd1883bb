use Rattle.word_tokens.specs.Words.{continues_word}
use Rattle.std.proofs.Common.{◌≡◌, length, ◌-◌, ◌≤◌}
use Rattle.word_tokens.specs.Tokens.{run_end}
use Rattle.word_tokens.proofs.token.word_end.Given as goal

abbrev pub invariant-loop-at : goal.invariant-loop-at
invariant-loop-at l = (run_end continues_word l.bytes l.at ≡ run_end continues_word l.bytes l.from) × (l.from ≤ l.at) × (l.at ≤ length l.bytes)

abbrev pub decreases-loop-at : goal.decreases-loop-at
decreases-loop-at l = length l.bytes - l.at
