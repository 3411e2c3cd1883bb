-- How the grammar of messages cuts the input into packets.
use Rattle.std.specs.Prelude.{◌≡◌, ℕ, Bool, true, false, List, []}
use Rattle.pg_messages.specs.Front.{front_of}
use Rattle.pg_messages.specs.Front.{IsFront}
use Rattle.pg_messages.specs.Startup.{startup_of}
use Rattle.pg_messages.specs.Startup.{IsStartup}
use Rattle.pg_messages.specs.declared.decoded.Decoded.{Decoded}
use Rattle.pg_messages.specs.declared.decoded.Decoded.TheVariants as decoded
use Rattle.pg_messages.specs.declared.front.Front.TheVariants as front
use Rattle.pg_messages.specs.declared.startup.Pair.{Pair}
use Rattle.pg_messages.specs.declared.startup.Startup.TheVariants as startup
use Rattle.session_poll.specs.declared.state.Phase.{Phase}
use Rattle.session_poll.specs.declared.state.Phase.TheVariants as phases
use Rattle.session_poll.specs.Courses.{Input, StartUp, Message, Bad, Unread, Next}

abbrev pub is_bad : {T : Type 0} → Decoded T → Bool
is_bad (decoded.Whole packet length) = false
is_bad decoded.More = false
is_bad (decoded.Bad place cause) = true
is_bad decoded.Memory = false

-- the bytes are a StartupMessage
pub record IsStartupMessage (packet : List ℕ) : Type 0 where
  pub pairs : List Pair
  pub spelled : IsStartup (startup.Start pairs) packet

-- the bytes are a Query
pub record IsQuery (packet : List ℕ) : Type 0 where
  pub text : List ℕ
  pub spelled : IsFront (front.Query text) packet

-- The bytes that an input takes: those that spell it, in the grammar of its phase. A packet that is taken unread is a
-- StartupMessage or a Query, by the same grammar. Those of a bad packet begin with it. The next step of a Query takes
-- none.
abbrev pub IsReadAs : Phase → Input → List ℕ → Type 0
IsReadAs phases.Start (StartUp packet) bytes = IsStartup packet bytes
IsReadAs phases.Start Unread bytes = IsStartupMessage bytes
IsReadAs phases.Start Bad bytes = is_bad (startup_of bytes) ≡ true
IsReadAs phases.Ready (Message message) bytes = IsFront message bytes
IsReadAs phases.Ready Unread bytes = IsQuery bytes
IsReadAs phases.Ready Bad bytes = is_bad (front_of bytes) ≡ true
IsReadAs (phases.Statements first left) Next bytes = bytes ≡ []
IsReadAs (phases.Query tag) Next bytes = bytes ≡ []
IsReadAs phase input bytes = ⊥
