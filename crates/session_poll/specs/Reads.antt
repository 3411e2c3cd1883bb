-- What was read of the store for a statement.
use Rattle.std.specs.Prelude.{◌≡◌, ℕ, true, [], Some, take}
use Rattle.live_snapshots.specs.Snapshots.{Seen}
use Rattle.query_meaning.specs.WriteTyping.{IsWellTypedWrite}
use Rattle.query_names.specs.declared.typed.Typed.{Typed}
use Rattle.session_poll.specs.Typings.{HasType}
use Rattle.session_transactions.specs.Transactions.{snap_of, transaction_of, writes_of}
use Rattle.session_transactions.specs.declared.transaction.Transaction as code
use Rattle.snapshot_store.specs.Parts.{IsCounted}
use Rattle.store_states.specs.Stored.{Stored, log_of}
use Rattle.store_states.specs.Views.{IsStore, IsTidy}
use Rattle.stored_versions.specs.Openings.{Opening}
use Rattle.transaction_answers.specs.Answers.{IsAnswer}
use Rattle.vra_syntax.specs.declared.query.Query.{Query}
use Rattle.vra_syntax.specs.declared.write.Write.{Write}
use Rattle.vtable.specs.declared.table.VTable.{VTable}
use Rattle.write_meaning.specs.TakenWrites.{is_taken}

-- the type of a query, and its answer over the snapshot of the transaction and the own writes
pub record IsAnswered (transaction : code.Transaction) (store : Stored) (query : Query) (typed : Typed) (answer : VTable) : Type 0 where
  pub snap : Seen
  pub has_snap : snap_of transaction ≡ Some snap
  pub tidy : IsTidy store
  pub has_type : HasType store.catalog query typed.columns typed.plan
  pub answers : (opening : Opening) → IsStore opening store → IsAnswer opening (take snap.1 (log_of store)) (writes_of (transaction_of transaction)) query typed.columns answer

-- a write is well typed and counts, with the number that it has over them
pub record IsWritable (transaction : code.Transaction) (store : Stored) (it : Write) (count : ℕ) : Type 0 where
  pub snap : Seen
  pub has_snap : snap_of transaction ≡ Some snap
  pub tidy : IsTidy store
  pub typed : IsWellTypedWrite store.catalog.model [] store.catalog.tables it
  pub taken : is_taken store.catalog it ≡ true
  pub counted : IsCounted store snap (writes_of (transaction_of transaction)) it count
