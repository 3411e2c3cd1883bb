-- The messages that a session sends.
use Rattle.std.specs.Prelude.{ℕ, Bool, true, false, List, [], ◌∷◌, ◌++◌, codes, decimal, Option, Some, None}
use Rattle.std.specs.List.{flat_map}
use Rattle.pg_messages.specs.Back.{back_bytes}
use Rattle.pg_messages.specs.declared.back.Back.{Back}
use Rattle.pg_messages.specs.declared.back.Back.TheVariants as back
use Rattle.pg_messages.specs.declared.back.ErrorField.{ErrorField}
use Rattle.pg_messages.specs.declared.back.Status.{Status}
use Rattle.query_parser.specs.declared.refused.ParseRefused.{ParseRefused}
use Rattle.query_parser.specs.declared.refused.ParseRefused.TheVariants as parse
use Rattle.feature_expr.specs.Variants.{variant_text}
use Rattle.query_meaning.specs.declared.ill.IllCase.{IllCase}
use Rattle.query_meaning.specs.declared.ill.IllCase.TheVariants as ill
use Rattle.query_meaning.specs.declared.ill.TypeRefused.{TypeRefused}
use Rattle.query_meaning.specs.declared.ill.TypeRefused.TheVariants as untyped
use Rattle.session_replies.specs.AnswerMessages.{name_text}
use Rattle.session_replies.specs.declared.refusal.Refusal.{Refusal}
use Rattle.session_replies.specs.declared.refusal.Refusal.TheVariants as refusal

-- the bytes of messages, one behind the other
abbrev pub spelled : List Back → List ℕ
spelled messages = flat_map back_bytes messages

-- where the transaction stands
abbrev pub ready_for_query : Status → Back
ready_for_query status = back.ReadyForQuery status

-- a text has no statement
abbrev pub empty_query : Back
empty_query = back.EmptyQueryResponse

abbrev pub snapshot_told : ℕ → Back
snapshot_told snapshot = back.ParameterStatus (codes "vdb_snapshot") (decimal snapshot)

abbrev pub commit_told : ℕ → Back
commit_told place = back.ParameterStatus (codes "vdb_commit") (decimal place)

abbrev pub field : ℕ → List ℕ → ErrorField
field code text = record { code = code; text = text }

abbrev pub severity : Bool → List ℕ
severity true = codes "FATAL"
severity false = codes "ERROR"

-- the fields `S` and `V` have the severity, `C` the SQLSTATE and `M` the text
abbrev pub fields : List ℕ → List ℕ → List ℕ → List ErrorField
fields severity code text = field 83 severity ∷ field 86 severity ∷ field 67 code ∷ field 77 text ∷ []

-- an SQLSTATE, a text, and the place in a text where the fault has one
pub record Fault : Type 0 where
  pub code : List ℕ
  pub text : List ℕ
  pub place : Option ℕ

abbrev pub fault : List ℕ → List ℕ → Fault
fault code text = record { code = code; text = text; place = None }

abbrev pub fault_at : List ℕ → List ℕ → ℕ → Fault
fault_at code text place = record { code = code; text = text; place = Some place }

abbrev pub parse_fault : ParseRefused → Fault
parse_fault (parse.Syntax place) = fault_at (codes "42601") (codes "syntax error") place
parse_fault (parse.UnknownFeature place) = fault_at (codes "42704") (codes "feature is not known") place
parse_fault (parse.IntTooLarge place) = fault_at (codes "22003") (codes "integer is out of range") place
parse_fault (parse.TooDeep place) = fault_at (codes "54001") (codes "nesting is deeper than 64") place
parse_fault (parse.TooManyParams place) = fault_at (codes "54000") (codes "parameter number is above 1024") place
parse_fault (parse.NoParam place) = fault_at (codes "42P02") (codes "parameters need a prepared statement") place
parse_fault parse.Memory = fault (codes "53200") (codes "out of memory")

abbrev pub shown_variant : List (List ℕ) → Option (List ℕ) → List ℕ
shown_variant names None = []
shown_variant names (Some c) = variant_text names c

-- a name, and the variant in which it is so
abbrev pub ill_fault : IllCase → List ℕ → List ℕ → Fault
ill_fault ill.NoTable name variant = fault (codes "42P01") (codes "table " ++ name ++ codes " is not known")
ill_fault ill.NoColumn name variant = fault (codes "42703") (codes "column " ++ name ++ codes " is not known")
ill_fault ill.AbsentColumn name variant = fault (codes "42P10") (codes "column " ++ name ++ codes " is absent in variant " ++ variant)
ill_fault ill.Twice name variant = fault (codes "42701") (codes "column " ++ name ++ codes " is there twice in variant " ++ variant)
ill_fault ill.KindsDiffer name variant = fault (codes "42804") (codes "kinds differ in variant " ++ variant)
ill_fault ill.ColumnsDiffer name variant = fault (codes "42804") (codes "columns differ in variant " ++ variant)
ill_fault ill.ValueKind name variant = fault (codes "42804") (codes "value of column " ++ name ++ codes " has another kind")
ill_fault ill.NamedTwice name variant = fault (codes "42701") (codes "column " ++ name ++ codes " is named twice")
ill_fault ill.NoValue name variant = fault (codes "23502") (codes "column " ++ name ++ codes " has no value in variant " ++ variant)
ill_fault (ill.ParamKind number) name variant = fault (codes "42P18") (codes "kind of parameter $" ++ decimal number ++ codes " is not known")

abbrev pub type_fault : List (List ℕ) → TypeRefused → Fault
type_fault names (untyped.Ill why) = ill_fault why.case (name_text why.name) (shown_variant names why.config)
type_fault names (untyped.TooWide count) = fault (codes "54000") (codes "query has " ++ decimal count ++ codes " columns")
type_fault names untyped.Memory = fault (codes "53200") (codes "out of memory")

abbrev pub fault_of : List (List ℕ) → Refusal → Fault
fault_of names refusal.NotBuilt = fault (codes "0A000") (codes "not built yet")
fault_of names refusal.NotUtf8 = fault (codes "22021") (codes "text is not UTF-8")
fault_of names (refusal.Unparsed why) = parse_fault why
fault_of names (refusal.Untyped why) = type_fault names why
fault_of names (refusal.TooLong length) = fault (codes "54000") (codes "reply of " ++ decimal length ++ codes " bytes is too long")
fault_of names refusal.OutOfMemory = fault (codes "53200") (codes "out of memory")
fault_of names refusal.TransactionFailed = fault (codes "25P02") (codes "transaction has failed")
fault_of names refusal.KeeperFault = fault (codes "58030") (codes "keeper failed")
fault_of names (refusal.Conflict table place) = fault (codes "40001") (codes "table " ++ table ++ codes " was written by commit " ++ decimal place)
fault_of names (refusal.CameFirst place) = fault (codes "40001") (codes "commit " ++ decimal place ++ codes " came first")
fault_of names (refusal.LogFull number) = fault (codes "54000") (codes "the log holds " ++ decimal number ++ codes " commits")

-- whether it ends the session
abbrev pub is_fatal : Refusal → Bool
is_fatal refusal.NotBuilt = true
is_fatal why = false

-- the field `P` has the place, a count of characters from 1
abbrev pub placed : Option ℕ → List ErrorField
placed None = []
placed (Some place) = field 80 (decimal place) ∷ []

abbrev pub error_with : List ℕ → Fault → Back
error_with severity it = back.ErrorResponse (fields severity it.code it.text ++ placed it.place)

-- the error of a refusal, where the features have these names
abbrev pub error_of : List (List ℕ) → Refusal → Back
error_of names why = error_with (severity (is_fatal why)) (fault_of names why)

abbrev pub out_of_memory : Back
out_of_memory = error_of [] refusal.OutOfMemory
