-- The tags of statements that have no rows, and the number in that of a write.
use Rattle.std.specs.Prelude.{◌≡◌, ℕ, List, Some, slice_get}
use Rattle.commit_log.specs.declared.commit.Commit.{Commit}
use Rattle.session_replies.specs.declared.tag.Tag.{Tag}
use Rattle.session_replies.specs.declared.tag.Tag.TheVariants as tag
use Rattle.session_transactions.specs.Transactions.{Transaction, Transaction as transactions}
use Rattle.stored_versions.specs.Catalogues.{written_number}
use Rattle.stored_versions.specs.Databases.{variant_database}
use Rattle.stored_versions.specs.Openings.{Opening}
use Rattle.vra_syntax.specs.declared.write.Write.{Write}
use Rattle.vra_syntax.specs.declared.write.Write.TheVariants as write
use Rattle.vschema.specs.declared.catalog.Table.{Table}
use Rattle.write_counts.specs.Counts.{IsCount}

-- the number in a write's tag, over the tables after these commits and the writes before it
pub record IsCountAfter (opening : Opening) (commits : List Commit) (writes : List Write) (it : Write) (count : ℕ) : Type 0 where
  pub counted : (number : ℕ) (table : Table) → written_number opening.catalog it ≡ Some number → slice_get opening.catalog.tables number ≡ Some table →
      IsCount opening.catalog.model table it (λ c. variant_database c opening commits writes number) count

abbrev pub write_tag : Write → ℕ → Tag
write_tag (write.Insert name columns rows expr) count = tag.Insert count
write_tag (write.Delete name cond expr) count = tag.Delete count
write_tag (write.Update name items cond expr) count = tag.Update count

-- in a failed transaction COMMIT only ends it
abbrev pub commit_tag : Transaction → Tag
commit_tag transactions.Idle = tag.Commit
commit_tag (transactions.Implicit snapshot writes) = tag.Commit
commit_tag (transactions.Block snapshot writes) = tag.Commit
commit_tag transactions.Failed = tag.Rollback
