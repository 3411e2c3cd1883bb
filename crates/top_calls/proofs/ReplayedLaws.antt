-- What a replay of a file over a catalogue has put out, from what the session's drive did.
use Rattle.std.proofs.Common.{◌≡◌, ◌≤◌, ℕ, Bool, false, List, [], length, inl, inr, refl, subst}
use Rattle.causes.specs.Faults.{Rose}
use Rattle.causes.specs.Told.{IsContent}
use Rattle.stored_versions.specs.Openings.{Opening}
use Rattle.vschema.specs.declared.catalog.Catalog.{Catalog}
use Rattle.vschema.specs.declared.catalog.OpeningRow.{OpeningRow}
use Rattle.top_calls.specs.Checks.{IsChecked, IsCheckedFile}
use Rattle.top_calls.specs.Exits.{IsOpeningExit, IsReadExit}
use Rattle.top_calls.specs.Replays.{IsReplayExit, Replays, ReplaysAll, log_limit}
use Rattle.top_calls.specs.Replayed.{IsReplayedExit, IsRunExit}
use Rattle.commit_log.specs.Places.{own_kept}
use Rattle.store_states.specs.Promises.{Opens}
use Rattle.store_states.specs.Stored.{Stored}
use Rattle.top_calls.specs.Stores.{IsOpenedStore}
use Rattle.top_calls.specs.Sinks.{Held}
use Rattle.top_calls.specs.Sources.{Files, IsLong, file_limit}
use Rattle.top_calls.specs.declared.exit.Exit.{Exit}
use Rattle.top_calls.specs.declared.exit.Exit.TheVariants as exit

pub replayed : (files : Files) (catalogue stream : List ℕ) (opening : Opening) (bytes : List ℕ) (result : Exit) (before after : Held) → IsCheckedFile files catalogue opening.catalog opening.rows → IsContent files.contents stream bytes → length bytes ≤ file_limit → IsReplayExit result before after → Replays opening bytes before.bytes after.bytes → (result ≡ exit.Done → ReplaysAll opening bytes before.bytes after.bytes) → IsReplayedExit files catalogue stream result before after
replayed files catalogue stream opening bytes exit.Done before after checked content within ends begun all =
    record {
      begun = record { opening = opening; checked = checked; bytes = bytes; content = content; within = within; replays = (all refl).begun };
      whole = (all refl).whole;
    }
replayed files catalogue stream opening bytes exit.WriteFault before after checked content within ends begun all =
    record { opening = opening; checked = checked; bytes = bytes; content = content; within = within; replays = begun }
replayed files catalogue stream opening bytes exit.Memory before after checked content within ends begun all =
    inr (record { opening = opening; checked = checked; bytes = bytes; content = content; within = within; replays = begun })
replayed files catalogue stream opening bytes exit.Usage before after checked content within ends begun all = absurd ends
replayed files catalogue stream opening bytes (exit.Catalogue why) before after checked content within ends begun all = absurd ends
replayed files catalogue stream opening bytes exit.ReadFault before after checked content within ends begun all = absurd ends
replayed files catalogue stream opening bytes exit.LinksFault before after checked content within ends begun all = absurd ends
replayed files catalogue stream opening bytes exit.TurnsOut before after checked content within ends begun all = absurd ends
replayed files catalogue stream opening bytes exit.TooLong before after checked content within ends begun all = absurd ends
replayed files catalogue stream opening bytes exit.KeeperFault before after checked content within ends begun all = absurd ends

-- an exit of the first read, before which nothing was put
pub not_opened : (files files' before : Files) (name catalogue stream : List ℕ) (result : Exit) (out : Held) → IsOpeningExit before name result files' → IsReplayedExit files catalogue stream result out out
not_opened files files' before name catalogue stream exit.Done out is = absurd is
not_opened files files' before name catalogue stream exit.Usage out is = refl
not_opened files files' before name catalogue stream (exit.Catalogue why) out is = refl
not_opened files files' before name catalogue stream exit.ReadFault out is = refl
not_opened files files' before name catalogue stream exit.WriteFault out is = absurd is
not_opened files files' before name catalogue stream exit.LinksFault out is = refl
not_opened files files' before name catalogue stream exit.TurnsOut out is = refl
not_opened files files' before name catalogue stream exit.Memory out is = inl refl
not_opened files files' before name catalogue stream exit.TooLong out is = refl
not_opened files files' before name catalogue stream exit.KeeperFault out is = refl

-- an exit of the second read
pub not_read : (files files' before : Files) (name catalogue stream : List ℕ) (result : Exit) (out : Held) → IsReadExit before name result files' → IsReplayedExit files catalogue stream result out out
not_read files files' before name catalogue stream exit.Done out is = absurd is
not_read files files' before name catalogue stream exit.Usage out is = refl
not_read files files' before name catalogue stream (exit.Catalogue why) out is = refl
not_read files files' before name catalogue stream exit.ReadFault out is = refl
not_read files files' before name catalogue stream exit.WriteFault out is = absurd is
not_read files files' before name catalogue stream exit.LinksFault out is = refl
not_read files files' before name catalogue stream exit.TurnsOut out is = refl
not_read files files' before name catalogue stream exit.Memory out is = inl refl
not_read files files' before name catalogue stream exit.TooLong out is = refl
not_read files files' before name catalogue stream exit.KeeperFault out is = refl

-- its cause, once the first file is a checked catalogue
pub read_runs : (result : Exit) (before mid after : Files) (catalogue stream : List ℕ) (catalog : Catalog) (rows : List OpeningRow) (out : Held) → IsReadExit mid stream result after → IsCheckedFile before catalogue catalog rows → mid.contents ≡ before.contents → mid.is_sure ≡ before.is_sure → mid.faults ≡ before.faults → IsRunExit before catalogue stream result after out out
read_runs exit.Done before mid after catalogue stream catalog rows out is checked contents sure faults = absurd is
read_runs exit.Usage before mid after catalogue stream catalog rows out is checked contents sure faults = absurd is
read_runs (exit.Catalogue why) before mid after catalogue stream catalog rows out is checked contents sure faults = absurd is
read_runs exit.ReadFault before mid after catalogue stream catalog rows out is checked contents sure faults =
    (subst (λ (count : ℕ). Rose count after.faults) faults is.0, inr (record { catalog = catalog; rows = rows; checked = checked }, subst (λ (told : List ℕ → Bool). told stream ≡ false) sure is.1), refl)
read_runs exit.WriteFault before mid after catalogue stream catalog rows out is checked contents sure faults = absurd is
read_runs exit.LinksFault before mid after catalogue stream catalog rows out is checked contents sure faults = absurd is
read_runs exit.TurnsOut before mid after catalogue stream catalog rows out is checked contents sure faults = absurd is
read_runs exit.Memory before mid after catalogue stream catalog rows out is checked contents sure faults = tt
read_runs exit.TooLong before mid after catalogue stream catalog rows out is checked contents sure faults =
    (inr (record { catalog = catalog; rows = rows; checked = checked }, subst (λ told. IsLong told stream file_limit) contents is), refl)
read_runs exit.KeeperFault before mid after catalogue stream catalog rows out is checked contents sure faults = absurd is

-- over a store that was opened over the first file

pub read_over : (result : Exit) (before mid after : Files) (catalogue stream : List ℕ) (store : Stored) (out : Held) → IsReadExit mid stream result after → IsOpenedStore before catalogue store → mid.contents ≡ before.contents → mid.is_sure ≡ before.is_sure → mid.faults ≡ before.faults → IsRunExit before catalogue stream result after out out
read_over result before mid after catalogue stream store out is opened contents sure faults =
    read_runs result before mid after catalogue stream opened.opening.catalog opened.opening.rows out is opened.checked contents sure faults

pub replayed_over : (files : Files) (catalogue stream : List ℕ) (store : Stored) (bytes : List ℕ) (result : Exit) (before after : Held) → IsOpenedStore files catalogue store → IsContent files.contents stream bytes → length bytes ≤ file_limit → IsReplayExit result before after →
    ((opening : Opening) → Opens opening (own_kept [] log_limit 0) 0 store → Replays opening bytes before.bytes after.bytes) →
    (result ≡ exit.Done → (opening : Opening) → Opens opening (own_kept [] log_limit 0) 0 store → ReplaysAll opening bytes before.bytes after.bytes) → IsReplayedExit files catalogue stream result before after
replayed_over files catalogue stream store bytes result before after opened content within ends begun all =
    replayed files catalogue stream opened.opening bytes result before after opened.checked content within ends (begun opened.opening opened.opens) (λ done. all done opened.opening opened.opens)

pub opened_by : (files : Files) (name : List ℕ) (catalog : Catalog) (rows : List OpeningRow) (store : Stored) → IsCheckedFile files name catalog rows → Opens (record { catalog = catalog; rows = rows }) (own_kept [] log_limit 0) 0 store → IsOpenedStore files name store
opened_by files name catalog rows store checked opens = record { opening = record { catalog = catalog; rows = rows }; checked = checked; opens = opens }
