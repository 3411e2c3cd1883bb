-- Which exits change no count of faults.
use Rattle.std.proofs.Common.{◌≡◌, ℕ, List, refl, subst}
use Rattle.top_calls.specs.Exits.{IsOpeningExit, IsReadExit, CountsReads, CountsWrites}
use Rattle.top_calls.specs.Replays.{IsReplayExit}
use Rattle.top_calls.specs.Sinks.{Held}
use Rattle.top_calls.specs.Sources.{Files}
use Rattle.top_calls.specs.declared.exit.Exit.{Exit}
use Rattle.top_calls.specs.declared.exit.Exit.TheVariants as exit

-- an exit of reading a catalogue, before which nothing was put
pub opening_writes : (result : Exit) (before after : Files) (name : List ℕ) (count : ℕ) → IsOpeningExit before name result after → CountsWrites result count count
opening_writes exit.Done before after name count is = absurd is
opening_writes exit.Usage before after name count is = refl
opening_writes (exit.Catalogue why) before after name count is = refl
opening_writes exit.ReadFault before after name count is = refl
opening_writes exit.WriteFault before after name count is = absurd is
opening_writes exit.LinksFault before after name count is = refl
opening_writes exit.TurnsOut before after name count is = refl
opening_writes exit.Memory before after name count is = refl
opening_writes exit.TooLong before after name count is = refl
opening_writes exit.KeeperFault before after name count is = refl

-- an exit of a read, before which nothing was put
pub read_writes : (result : Exit) (before after : Files) (name : List ℕ) (count : ℕ) → IsReadExit before name result after → CountsWrites result count count
read_writes exit.Done before after name count is = absurd is
read_writes exit.Usage before after name count is = refl
read_writes (exit.Catalogue why) before after name count is = refl
read_writes exit.ReadFault before after name count is = refl
read_writes exit.WriteFault before after name count is = absurd is
read_writes exit.LinksFault before after name count is = refl
read_writes exit.TurnsOut before after name count is = refl
read_writes exit.Memory before after name count is = refl
read_writes exit.TooLong before after name count is = refl
read_writes exit.KeeperFault before after name count is = refl

-- a replay reads no file
pub replay_reads : (result : Exit) (out out' : Held) (before after : ℕ) → IsReplayExit result out out' → after ≡ before → CountsReads result before after
replay_reads exit.Done out out' before after is same = same
replay_reads exit.Usage out out' before after is same = absurd is
replay_reads (exit.Catalogue why) out out' before after is same = absurd is
replay_reads exit.ReadFault out out' before after is same = absurd is
replay_reads exit.WriteFault out out' before after is same = same
replay_reads exit.LinksFault out out' before after is same = absurd is
replay_reads exit.TurnsOut out out' before after is same = absurd is
replay_reads exit.Memory out out' before after is same = same
replay_reads exit.TooLong out out' before after is same = absurd is
replay_reads exit.KeeperFault out out' before after is same = absurd is

-- a count that stood still before a read
pub reads_from : (result : Exit) (before mid after : ℕ) → CountsReads result mid after → mid ≡ before → CountsReads result before after
reads_from result before mid after counts same = subst (λ (count : ℕ). CountsReads result count after) same counts

pub ruleset counts = (opening_writes, read_writes, replay_reads, reads_from)
