-- What a replay of a file over a catalogue has put out.
use Rattle.std.specs.Prelude.{◌≡◌, ℕ, ◌≤◌, ◌⊎◌, List, length}
use Rattle.causes.specs.Faults.{Rose}
use Rattle.causes.specs.Told.{IsContent}
use Rattle.stored_versions.specs.Openings.{Opening}
use Rattle.top_calls.specs.Checks.{IsChecked, IsCheckedFile}
use Rattle.top_calls.specs.Exits.{IsReadable, IsRefusedFile}
use Rattle.top_calls.specs.Replays.{Replays, IsWhole}
use Rattle.top_calls.specs.Sinks.{Held}
use Rattle.top_calls.specs.Sources.{Files, IsLong, MayFail, file_limit}
use Rattle.top_calls.specs.declared.exit.Exit.{Exit}
use Rattle.top_calls.specs.declared.exit.Exit.TheVariants as exit

-- The first file is a catalogue with opening rows that passes its check, and what was put out begins the reply of a
-- session over it to the content of the second.
pub record IsReplayed (files : Files) (catalogue stream : List ℕ) (before after : Held) : Type 0 where
  pub opening : Opening
  pub checked : IsCheckedFile files catalogue opening.catalog opening.rows
  pub bytes : List ℕ
  pub content : IsContent files.contents stream bytes
  pub within : length bytes ≤ file_limit
  pub replays : Replays opening bytes before.bytes after.bytes

-- The same, and what was put out is the whole reply.
pub record IsReplayedWhole (files : Files) (catalogue stream : List ℕ) (before after : Held) : Type 0 where
  pub begun : IsReplayed files catalogue stream before after
  pub whole : IsWhole begun.replays

-- What each exit of a replay says of the bytes that were put out; those that come before the session put out none.
abbrev pub IsReplayedExit : Files → List ℕ → List ℕ → Exit → Held → Held → Type 0
IsReplayedExit files catalogue stream exit.Done before after = IsReplayedWhole files catalogue stream before after
IsReplayedExit files catalogue stream exit.WriteFault before after = IsReplayed files catalogue stream before after
IsReplayedExit files catalogue stream exit.Memory before after = (after ≡ before) ⊎ IsReplayed files catalogue stream before after
IsReplayedExit files catalogue stream other before after = after ≡ before

-- The exits of a replay of a file over a catalogue, with their causes. The stream is read once the catalogue has passed
-- its check.
abbrev pub IsRunExit : Files → List ℕ → List ℕ → Exit → Files → Held → Held → Type 0
IsRunExit before catalogue stream exit.Done after out out' = IsReadable before catalogue × IsReadable before stream
IsRunExit before catalogue stream (exit.Catalogue why) after out out' = IsRefusedFile before catalogue why × (out' ≡ out)
IsRunExit before catalogue stream exit.ReadFault after out out' =
    Rose before.faults after.faults × (MayFail before catalogue ⊎ (IsChecked before catalogue × MayFail before stream)) × (out' ≡ out)
IsRunExit before catalogue stream exit.WriteFault after out out' = Rose out.faults out'.faults
IsRunExit before catalogue stream exit.TooLong after out out' =
    (IsLong before.contents catalogue file_limit ⊎ (IsChecked before catalogue × IsLong before.contents stream file_limit)) × (out' ≡ out)
IsRunExit before catalogue stream exit.Memory after out out' = Unit {0}
IsRunExit before catalogue stream _ after out out' = ⊥
