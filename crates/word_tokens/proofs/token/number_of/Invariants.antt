use Rattle.std.proofs.Common.{◌≡◌, ◌-◌, ◌^◌, min, take}
use Rattle.word_tokens.specs.Tokens.{number_of}
use Rattle.word_tokens.proofs.token.number_of.Given as goal

-- the number so far, or the greatest one
abbrev pub invariant-loop-digit : goal.invariant-loop-digit
invariant-loop-digit l = l.number ≡ min (number_of (take l.digit-index l.digits)) (2 ^ 64 - 1)
