-- How much a catalogue may hold.
use Rattle.std.specs.Prelude.{ℕ}

-- the tables of a catalogue
abbrev pub table_limit : ℕ
table_limit = 256

-- the columns of a table
abbrev pub column_limit : ℕ
column_limit = 64
