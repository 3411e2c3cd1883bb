-- The query rule: the start of a Query, its statements one by one, and its end.
use Rattle.std.specs.Prelude.{◌≡◌, ℕ, false, List, [], ◌∷◌, ◌++◌, length, Option, Some, None, Result, Ok, Err}
use Rattle.std.specs.Str.{IsUtf8}
use Rattle.commit_log.specs.declared.commit.Commit.{Commit}
use Rattle.pg_messages.specs.declared.back.Back.{Back}
use Rattle.query_meaning.specs.declared.ill.TypeRefused.{TypeRefused}
use Rattle.query_meaning.specs.declared.typed.TypedColumn.{TypedColumn}
use Rattle.query_parser.specs.Texts.{IsText, IsRefusedText}
use Rattle.session_poll.specs.Begins.{Begins}
use Rattle.session_poll.specs.Commits.{Ends}
use Rattle.session_poll.specs.Courses.{Course, Then, Checked, Does, OrMemory, goes, stops}
use Rattle.session_poll.specs.Errors.{Fails, Runs, failed}
use Rattle.session_poll.specs.State.{State, in_phase, status_of}
use Rattle.session_poll.specs.Statements.{BeginsBlock, CommitsBlock, IsAllowed, RollsBack, Sees, Sets, Writes}
use Rattle.session_poll.specs.Typings.{Types}
use Rattle.session_poll.specs.declared.state.Phase.{Phase}
use Rattle.session_poll.specs.declared.state.Phase.TheVariants as phases
use Rattle.session_replies.specs.AnswerMessages.{answer_messages, answer_too_long}
use Rattle.session_replies.specs.Replies.{empty_query, out_of_memory, ready_for_query}
use Rattle.session_replies.specs.Tags.{complete}
use Rattle.session_replies.specs.declared.refusal.Refusal.{Refusal}
use Rattle.session_replies.specs.declared.refusal.Refusal.TheVariants as refusal
use Rattle.session_replies.specs.declared.tag.Tag.{Tag}
use Rattle.session_replies.specs.declared.tag.Tag.TheVariants as tag
use Rattle.session_transactions.specs.Transactions.{writes_of}
use Rattle.stored_versions.specs.Openings.{Opening}
use Rattle.transaction_answers.specs.Answers.{IsAnswer}
use Rattle.vra_syntax.specs.declared.query.Query.{Query}
use Rattle.vra_syntax.specs.declared.statement.Statement.{Statement}
use Rattle.vra_syntax.specs.declared.statement.Statement.TheVariants as statement
use Rattle.vra_syntax.specs.declared.write.Write.{Write}
use Rattle.vtable.specs.declared.table.VTable.{VTable}

-- What a text is read as: its statements, in which no parameter may stand, or why it has none. One that isn't UTF-8 is
-- refused for that.
abbrev pub IsTextRead : List (List ℕ) → List ℕ → Result (List Statement) Refusal → Type 0
IsTextRead features text (Ok statements) = IsUtf8 text × IsText features false text statements
IsTextRead features text (Err refusal.NotUtf8) = IsUtf8 text → ⊥
IsTextRead features text (Err (refusal.Unparsed why)) = IsUtf8 text × IsRefusedText features false text why
IsTextRead features text (Err why) = ⊥

-- Any answer that is right is shown. The description is sent only once the answer was made; no message may be too long.
pub record Shows (query : Query) (columns : List TypedColumn) (tag_is : Tag) (opening : Opening) (old : State) (c : Course) : Type 0 where
  pub commits : List Commit
  pub answer : VTable
  pub is_answer : IsAnswer opening commits (writes_of old.transaction) query columns answer
  pub tagged : tag_is ≡ tag.Select (length answer.rows)
  pub shown : Then (Sees commits)
      (Then (Checked (answer_too_long opening.catalog.features columns answer))
      (Does (λ s. s) (answer_messages opening.catalog.features columns answer))) opening old c

-- a query that has a type is answered, and another is refused
abbrev pub ShowsTyped : Query → Result (List TypedColumn) TypeRefused → Tag → Opening → State → Course → Type 0
ShowsTyped query (Ok columns) tag_is opening old c = Shows query columns tag_is opening old c
ShowsTyped query (Err why) tag_is opening old c = c ≡ stops [] (refusal.Untyped why) old

-- it is typed and answered
pub record Answers (query : Query) (tag_is : Tag) (opening : Opening) (old : State) (c : Course) : Type 0 where
  pub typing : Result (List TypedColumn) TypeRefused
  pub is_typing : Types opening.catalog query typing
  pub shows : ShowsTyped query typing tag_is opening old c

-- to type and to run a query or a write takes memory
abbrev pub MayAnswer : Query → Tag → Opening → State → Course → Type 0
MayAnswer query tag_is = OrMemory (Answers query tag_is)

abbrev pub MayWrite : Write → Tag → Opening → State → Course → Type 0
MayWrite it tag_is = OrMemory (Writes it tag_is)

-- what each statement does in a transaction
abbrev pub Acts : Statement → Tag → Opening → State → Course → Type 0
Acts (statement.Query query) tag_is opening old c = MayAnswer query tag_is opening old c
Acts (statement.Write it) tag_is opening old c = MayWrite it tag_is opening old c
Acts statement.Begin tag_is opening old c = BeginsBlock tag_is opening old c
Acts statement.Commit tag_is opening old c = CommitsBlock tag_is opening old c
Acts statement.Rollback tag_is opening old c = RollsBack tag_is opening old c
Acts statement.Set tag_is opening old c = Sets tag_is opening old c

-- it is run in a transaction, which begins where none is open
abbrev pub RunsHere : Statement → Tag → Opening → State → Course → Type 0
RunsHere it tag_is = Then Begins (Acts it tag_is)

-- where it is allowed
abbrev pub IsStatement : Statement → Tag → Opening → State → Course → Type 0
IsStatement it tag_is = Then (IsAllowed it) (RunsHere it tag_is)

-- The CommandComplete of the last statement is still to be sent. Where others are left, it is sent at once.
abbrev pub completed : Tag → List Statement → List Back
completed tag_is [] = []
completed tag_is (next ∷ left) = complete tag_is ∷ []

abbrev pub phase_behind : Tag → List Statement → Phase
phase_behind tag_is [] = phases.Query tag_is
phase_behind tag_is (next ∷ left) = phases.Statements next left

-- the Query goes on behind a statement
abbrev pub GoesOn : Tag → List Statement → Opening → State → Course → Type 0
GoesOn tag_is left opening old c = Does (in_phase (phase_behind tag_is left)) (completed tag_is left) opening old c

-- a statement is run, and behind it the Query goes on
pub record Completes (it : Statement) (left : List Statement) (opening : Opening) (old : State) (c : Course) : Type 0 where
  pub tag_is : Tag
  pub is : Then (IsStatement it tag_is) (GoesOn tag_is left) opening old c

-- a statement of a Query, behind which these are left
abbrev pub RunsStatement : Statement → List Statement → Opening → State → Course → Type 0
RunsStatement first left opening old c = Runs (Completes first left) opening old c

-- these replies, and that a message may come
abbrev pub Readies : List Back → Opening → State → Course → Type 0
Readies last opening old c = c ≡ goes [] (last ++ ready_for_query (status_of old.transaction) ∷ []) (in_phase phases.Ready old)

-- a Query ends with the tag of its last statement, or as one without a statement
abbrev pub last_of : Option Tag → Back
last_of None = empty_query
last_of (Some tag_is) = complete tag_is

-- the commit of a transaction that no BEGIN began, and what is held back
abbrev pub EndsWith : List Back → Opening → State → Course → Type 0
EndsWith last = Then Ends (Readies last)

-- The end of a Query whose last statement was answered. Without own writes it takes no memory.
abbrev pub EndsQuery : Tag → Opening → State → Course → Type 0
EndsQuery tag_is opening old c = Runs (EndsWith (complete tag_is ∷ [])) opening old c

-- A text without a statement is said to be empty, in the same step. Otherwise the statements are left to be run.
abbrev pub AnswersStatements : List Statement → Opening → State → Course → Type 0
AnswersStatements [] opening old c = Runs (EndsWith (empty_query ∷ [])) opening old c
AnswersStatements (first ∷ left) opening old c = Does (in_phase (phases.Statements first left)) [] opening old c

-- a text that isn't read is refused before anything is run
abbrev pub AnswersText : Result (List Statement) Refusal → Opening → State → Course → Type 0
AnswersText (Ok statements) opening old c = AnswersStatements statements opening old c
AnswersText (Err why) opening old c = Fails why opening (goes [] [] old) c

pub record Queries (text : List ℕ) (opening : Opening) (old : State) (c : Course) : Type 0 where
  pub read : Result (List Statement) Refusal
  pub is_read : IsTextRead opening.catalog.features text read
  pub course : AnswersText read opening old c

-- want of memory stands for the whole message
abbrev pub RunsOut : Opening → State → Course → Type 0
RunsOut opening old c = c ≡ failed (goes [] [] old) out_of_memory
