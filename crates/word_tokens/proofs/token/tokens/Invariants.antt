use Rattle.std.proofs.Common.{◌≡◌, List, ◌++◌, length, ◌-◌, ◌≤◌}
use Rattle.word_tokens.specs.declared.token.Token.{Token}
use Rattle.word_tokens.specs.Tokens.{blank_end, character_at, line_at, StandAt}
use Rattle.word_tokens.proofs.token.tokens.Given as goal

-- the tokens so far, and those from here on, are those of the text
abbrev pub invariant-loop-cursor : goal.invariant-loop-cursor
invariant-loop-cursor l = record {
  within : l.cursor.at ≤ length l.bytes;
  place : l.cursor.place ≡ character_at l.bytes l.cursor.at;
  line : l.cursor.line ≡ line_at l.bytes l.cursor.at;
  so_far : (rest : List Token) → StandAt l.bytes l.cursor.at rest → StandAt l.bytes (blank_end l.bytes 0) (l.found.items ++ rest);
}

abbrev pub decreases-loop-cursor : goal.decreases-loop-cursor
decreases-loop-cursor l = length l.bytes - l.cursor.at
