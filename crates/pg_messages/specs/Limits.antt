-- The numbers of the protocol.
use Rattle.std.specs.Prelude.{ℕ}

-- the greatest length of a frontend message
abbrev pub front_limit : ℕ
front_limit = 1048580

-- the greatest length of a backend message
abbrev pub back_limit : ℕ
back_limit = 2147483647

-- the greatest length of a start-up packet
abbrev pub startup_limit : ℕ
startup_limit = 10000

-- the code of a StartupMessage, the protocol's number 3.0
abbrev pub protocol_code : ℕ
protocol_code = 196608
