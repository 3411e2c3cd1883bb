-- The answer to a query over what a snapshot sees of a store, after own writes.
use Rattle.std.specs.Prelude.{ℕ, ◌≡◌, ◌+◌, ◌≤◌, List, [], map, length, take}
use Rattle.commit_log.specs.declared.commit.Commit.{Commit}
use Rattle.condition_sat.specs.Admitted.{IsAdmitted}
use Rattle.live_snapshots.specs.Snapshots.{Seen}
use Rattle.plain_relation.specs.Relations.{SameRelation}
use Rattle.query_answers.specs.Held.{answer_column}
use Rattle.query_meaning.specs.Bounds.{query_size}
use Rattle.query_meaning.specs.Meaning.{meaning}
use Rattle.query_meaning.specs.Typing.{IsTyped}
use Rattle.query_meaning.specs.declared.typed.TypedColumn.{TypedColumn}
use Rattle.query_names.specs.declared.typed.Typed.{Typed}
use Rattle.store_states.specs.Stored.{Stored, log_of}
use Rattle.store_states.specs.Views.{IsStore}
use Rattle.stored_versions.specs.Databases.{sizes_of, variant_database}
use Rattle.stored_versions.specs.Openings.{Opening}
use Rattle.vra_syntax.specs.declared.query.Query.{Query}
use Rattle.vra_syntax.specs.declared.write.Write.{Write}
use Rattle.vschema.specs.declared.catalog.Catalog.{Catalog}
use Rattle.vtable.specs.Answers.{IsAnswerAt, answer_at}
use Rattle.vtable.specs.TableForm.{IsTableForm, rows_weight}
use Rattle.vtable.specs.declared.table.VTable.{VTable}

-- The answer is in table form, with the columns that typing gave the query. In each admitted variant it is well formed, and
-- is what the configured query means over the variant's tables after these commits and then these own writes. Its rows and
-- their conditions are within the query's bounds over tables of the sizes that they may have then.
pub record IsAnswer (opening : Opening) (commits : List Commit) (writes : List Write) (query : Query) (columns : List TypedColumn) (answer : VTable) : Type 0 where
  pub form : IsTableForm opening.catalog.model answer
  pub columns_are : answer.columns ≡ map answer_column columns
  pub formed : (c : List ℕ) → IsAdmitted opening.catalog.model c → IsAnswerAt c answer
  pub right : (c : List ℕ) → IsAdmitted opening.catalog.model c → SameRelation (answer_at c answer) (meaning c opening.catalog.tables (variant_database c opening commits writes) query)
  pub rows : length answer.rows ≤ (query_size opening.catalog.tables (sizes_of opening commits writes) query).rows
  pub row_conditions : rows_weight answer.rows ≤ (query_size opening.catalog.tables (sizes_of opening commits writes) query).row_weight + (query_size opening.catalog.tables (sizes_of opening commits writes) query).rows

-- some query without parameters was typed so over the catalogue
pub record IsTypedQuery (catalog : Catalog) (it : Typed) : Type 0 where
  pub query : Query
  pub typed : IsTyped catalog.model [] catalog.tables query it.columns it.plan

-- whatever the store was opened over, and whatever query was typed so
pub record IsAnswerOf (store : Stored) (snap : Seen) (writes : List Write) (it : Typed) (answer : VTable) : Type 0 where
  pub answers : (opening : Opening) (query : Query) → IsStore opening store → IsTyped store.catalog.model [] store.catalog.tables query it.columns it.plan → IsAnswer opening (take snap.1 (log_of store)) writes query it.columns answer
