-- The tables of a store's catalogue after what a snapshot sees and own writes.
use Rattle.std.specs.Prelude.{ℕ, suc, ◌≡◌, List, [], ◌∷◌}
use Rattle.live_snapshots.specs.Snapshots.{Seen}
use Rattle.plan_tables.specs.declared.rows.TableRows.{TableRows}
use Rattle.store_states.specs.Reads.{IsRowsAt}
use Rattle.store_states.specs.Stored.{Stored}
use Rattle.vra_syntax.specs.declared.write.Write.{Write}
use Rattle.vschema.specs.declared.catalog.Table.{Table}

-- these tables, numbered from here on, each after the snapshot's commits and these writes
abbrev pub AreFrom : Stored → Seen → List Write → ℕ → List Table → List TableRows → Type 0
AreFrom store snap writes number [] [] = Unit {0}
AreFrom store snap writes number (table ∷ tables) (held ∷ rows) = (held.table ≡ number) × IsRowsAt store snap number writes held.rows × AreFrom store snap writes (suc number) tables rows
AreFrom store snap writes number _ _ = ⊥

-- each table of the catalogue, after the snapshot's commits and these writes
pub record AreTablesAfter (store : Stored) (snap : Seen) (writes : List Write) (rows : List TableRows) : Type 0 where
  pub are : AreFrom store snap writes 0 store.catalog.tables rows
