-- How deep texts may nest.
use Rattle.std.specs.Prelude.{ℕ}

-- how many brackets, `not` and `choice` may be open round a part of a statement or of a catalogue
abbrev pub nesting_limit : ℕ
nesting_limit = 64
