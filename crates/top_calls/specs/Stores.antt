-- A store over a catalogue that was read, with an empty log.
use Rattle.std.specs.Prelude.{ℕ, List, []}
use Rattle.commit_log.specs.Places.{own_kept}
use Rattle.store_states.specs.Promises.{Opens}
use Rattle.store_states.specs.Stored.{Stored}
use Rattle.stored_versions.specs.Openings.{Opening}
use Rattle.top_calls.specs.Checks.{IsCheckedFile}
use Rattle.top_calls.specs.Replays.{log_limit}
use Rattle.top_calls.specs.Sources.{Files}

-- the file is a catalogue that passes its check, and the store was opened over it
pub record IsOpenedStore (files : Files) (name : List ℕ) (store : Stored) : Type 0 where
  pub opening : Opening
  pub checked : IsCheckedFile files name opening.catalog opening.rows
  pub opens : Opens opening (own_kept [] log_limit 0) 0 store
