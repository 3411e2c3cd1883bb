-- The statement rule: what each statement may be run in, and what it does there.
use Rattle.std.specs.Prelude.{◌≡◌, ℕ, List, [], ◌∷◌, length, Option, Some, None}
use Rattle.commit_log.specs.declared.commit.Commit.{Commit}
use Rattle.query_meaning.specs.declared.ill.TypeRefused.{TypeRefused}
use Rattle.session_poll.specs.Commits.{Commits}
use Rattle.session_poll.specs.Courses.{Course, Checked, Does, OrMemory, goes, stops}
use Rattle.session_poll.specs.State.{State, in_transaction, between}
use Rattle.session_poll.specs.Tags.{IsCountAfter, write_tag, commit_tag}
use Rattle.session_poll.specs.Typings.{TypesWrite}
use Rattle.session_replies.specs.declared.refusal.Refusal.{Refusal}
use Rattle.session_replies.specs.declared.refusal.Refusal.TheVariants as refusal
use Rattle.session_replies.specs.declared.tag.Tag.{Tag}
use Rattle.session_replies.specs.declared.tag.Tag.TheVariants as tag
use Rattle.session_transactions.specs.Transactions.{Transaction, Transaction as transactions, blocked, wrote, writes_of}
use Rattle.store_events.specs.Events.{Event as event}
use Rattle.stored_versions.specs.Openings.{Opening}
use Rattle.vra_syntax.specs.declared.statement.Statement.{Statement}
use Rattle.vra_syntax.specs.declared.statement.Statement.TheVariants as statement
use Rattle.vra_syntax.specs.declared.write.Write.{Write}

-- In a failed transaction all but COMMIT and ROLLBACK are refused.
abbrev pub refused_in : Transaction → Statement → Option Refusal
refused_in transactions.Failed statement.Commit = None
refused_in transactions.Failed statement.Rollback = None
refused_in transactions.Failed it = Some refusal.TransactionFailed
refused_in transaction it = None

abbrev pub IsAllowed : Statement → Opening → State → Course → Type 0
IsAllowed it opening old c = Checked (refused_in old.transaction it) opening old c

-- a list of as many commits as the transaction's snapshot holds
abbrev pub HasSeen : Transaction → List Commit → Type 0
HasSeen transactions.Idle commits = ⊥
HasSeen (transactions.Implicit snapshot writes) commits = length commits ≡ snapshot
HasSeen (transactions.Block snapshot writes) commits = length commits ≡ snapshot
HasSeen transactions.Failed commits = ⊥

-- rows are read over these commits
abbrev pub Sees : List Commit → Opening → State → Course → Type 0
Sees commits opening old c = (c ≡ goes (event.Viewed commits ∷ []) [] old) × HasSeen old.transaction commits

-- a write is added to the own writes, with the count that it has over the snapshot and those before it
pub record Adds (it : Write) (tag_is : Tag) (opening : Opening) (old : State) (c : Course) : Type 0 where
  pub commits : List Commit
  pub seen : HasSeen old.transaction commits
  pub count : ℕ
  pub counted : IsCountAfter opening commits (writes_of old.transaction) it count
  pub tagged : tag_is ≡ write_tag it count
  pub course : c ≡ goes (event.Viewed commits ∷ []) [] (in_transaction (wrote it old.transaction) old)

-- a write that is well typed is added, and another is refused
abbrev pub WritesTyped : Write → Option TypeRefused → Tag → Opening → State → Course → Type 0
WritesTyped it None tag_is opening old c = Adds it tag_is opening old c
WritesTyped it (Some why) tag_is opening old c = c ≡ stops [] (refusal.Untyped why) old

-- it is typed and added
pub record Writes (it : Write) (tag_is : Tag) (opening : Opening) (old : State) (c : Course) : Type 0 where
  pub typing : Option TypeRefused
  pub is_typing : TypesWrite opening.catalog it typing
  pub writes : WritesTyped it typing tag_is opening old c

-- BEGIN, COMMIT, ROLLBACK and SET, with their tags. To run a ROLLBACK takes no memory.
pub record BeginsBlock (tag_is : Tag) (opening : Opening) (old : State) (c : Course) : Type 0 where
  pub tagged : tag_is ≡ tag.Begin
  pub does : OrMemory (Does (λ s. in_transaction (blocked s.transaction) s) []) opening old c

pub record CommitsBlock (tag_is : Tag) (opening : Opening) (old : State) (c : Course) : Type 0 where
  pub tagged : tag_is ≡ commit_tag old.transaction
  pub commits : OrMemory Commits opening old c

pub record RollsBack (tag_is : Tag) (opening : Opening) (old : State) (c : Course) : Type 0 where
  pub tagged : tag_is ≡ tag.Rollback
  pub does : Does between [] opening old c

pub record Sets (tag_is : Tag) (opening : Opening) (old : State) (c : Course) : Type 0 where
  pub tagged : tag_is ≡ tag.Set
  pub does : OrMemory (Does (λ s. s) []) opening old c
