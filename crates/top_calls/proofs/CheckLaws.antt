-- What a check put out, where it ends before its line.
use Rattle.std.proofs.Common.{ℕ, List, refl}
use Rattle.top_calls.specs.Checks.{IsToldExit}
use Rattle.top_calls.specs.Exits.{IsOpeningExit}
use Rattle.top_calls.specs.Sinks.{Held}
use Rattle.top_calls.specs.Sources.{Files}
use Rattle.top_calls.specs.declared.exit.Exit.{Exit}
use Rattle.top_calls.specs.declared.exit.Exit.TheVariants as exit

pub not_told : (before after : Files) (name : List ℕ) (result : Exit) (out : Held) → IsOpeningExit before name result after → IsToldExit before name result out out
not_told before after name exit.Done out is = absurd is
not_told before after name exit.Usage out is = refl
not_told before after name (exit.Catalogue why) out is = refl
not_told before after name exit.ReadFault out is = refl
not_told before after name exit.WriteFault out is = absurd is
not_told before after name exit.LinksFault out is = refl
not_told before after name exit.TurnsOut out is = refl
not_told before after name exit.Memory out is = refl
not_told before after name exit.TooLong out is = refl
not_told before after name exit.KeeperFault out is = refl
