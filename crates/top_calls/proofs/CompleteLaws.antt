-- Where no cause of a fault holds, a command is done, but for want of memory.
use Rattle.std.proofs.Common.{◌≡◌, ◌∙◌, ℕ, Bool, true, false, List, inl, inr, ◌⊎◌, refl, sym, true≢false}
use Rattle.top_calls.specs.Exits.{IsOpeningExit, IsReadExit, HasNoFault}
use Rattle.top_calls.specs.Replays.{IsReplayExit}
use Rattle.top_calls.specs.Sinks.{Held}
use Rattle.top_calls.specs.Sources.{Files}
use Rattle.top_calls.specs.declared.exit.Exit.{Exit}
use Rattle.top_calls.specs.declared.exit.Exit.TheVariants as exit

-- a read that is sure doesn't fail
unsure : (sure : Bool) → sure ≡ true → sure ≡ false → ⊥
unsure sure is isnt = true≢false (sym is ∙ isnt)

pub opening_completes : (result : Exit) (before after : Files) (catalogue stream : List ℕ) (out out' : Held) → IsOpeningExit before catalogue result after → HasNoFault before after catalogue stream out out' → (result ≡ exit.Done) ⊎ (result ≡ exit.Memory)
opening_completes exit.Done before after catalogue stream out out' is ready = absurd is
opening_completes exit.Usage before after catalogue stream out out' is ready = absurd is
opening_completes (exit.Catalogue why) before after catalogue stream out out' is ready = absurd (ready.taken why is)
opening_completes exit.ReadFault before after catalogue stream out out' is ready =
    absurd (elim ready.read [
      | inl sure ↦ unsure (before.is_sure catalogue) sure.0 is.1
      | inr none ↦ none is.0
    ])
opening_completes exit.WriteFault before after catalogue stream out out' is ready = absurd is
opening_completes exit.LinksFault before after catalogue stream out out' is ready = absurd is
opening_completes exit.TurnsOut before after catalogue stream out out' is ready = absurd is
opening_completes exit.Memory before after catalogue stream out out' is ready = inr refl
opening_completes exit.TooLong before after catalogue stream out out' is ready = absurd (ready.short_catalogue is)
opening_completes exit.KeeperFault before after catalogue stream out out' is ready = absurd is

pub read_completes : (result : Exit) (before after : Files) (catalogue stream : List ℕ) (out out' : Held) → IsReadExit before stream result after → HasNoFault before after catalogue stream out out' → (result ≡ exit.Done) ⊎ (result ≡ exit.Memory)
read_completes exit.Done before after catalogue stream out out' is ready = absurd is
read_completes exit.Usage before after catalogue stream out out' is ready = absurd is
read_completes (exit.Catalogue why) before after catalogue stream out out' is ready = absurd is
read_completes exit.ReadFault before after catalogue stream out out' is ready =
    absurd (elim ready.read [
      | inl sure ↦ unsure (before.is_sure stream) sure.1 is.1
      | inr none ↦ none is.0
    ])
read_completes exit.WriteFault before after catalogue stream out out' is ready = absurd is
read_completes exit.LinksFault before after catalogue stream out out' is ready = absurd is
read_completes exit.TurnsOut before after catalogue stream out out' is ready = absurd is
read_completes exit.Memory before after catalogue stream out out' is ready = inr refl
read_completes exit.TooLong before after catalogue stream out out' is ready = absurd (ready.short_stream is)
read_completes exit.KeeperFault before after catalogue stream out out' is ready = absurd is

pub replay_completes : (result : Exit) (before after : Files) (catalogue stream : List ℕ) (out out' : Held) → IsReplayExit result out out' → HasNoFault before after catalogue stream out out' → (result ≡ exit.Done) ⊎ (result ≡ exit.Memory)
replay_completes exit.Done before after catalogue stream out out' is ready = inl refl
replay_completes exit.Usage before after catalogue stream out out' is ready = absurd is
replay_completes (exit.Catalogue why) before after catalogue stream out out' is ready = absurd is
replay_completes exit.ReadFault before after catalogue stream out out' is ready = absurd is
replay_completes exit.WriteFault before after catalogue stream out out' is ready = absurd (ready.written is)
replay_completes exit.LinksFault before after catalogue stream out out' is ready = absurd is
replay_completes exit.TurnsOut before after catalogue stream out out' is ready = absurd is
replay_completes exit.Memory before after catalogue stream out out' is ready = inr refl
replay_completes exit.TooLong before after catalogue stream out out' is ready = absurd is
replay_completes exit.KeeperFault before after catalogue stream out out' is ready = absurd is
