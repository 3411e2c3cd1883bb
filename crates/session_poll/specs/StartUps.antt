-- The start-up rule.
use Rattle.std.specs.Prelude.{◌≡◌, ℕ, Bool, false, not, ◌&&◌, ◌||◌, ◌==◌, List, [], ◌∷◌, ◌++◌, length, codes, Option, Some, None, MatchBool, if◌then◌else◌, ◌⊎◌, nat_eq}
use Rattle.std.specs.Str.{bytes_eq}
use Rattle.std.specs.List.{flat_map, list_any, starts_with}
use Rattle.feature_expr.specs.Printing.{name_of, text_of}
use Rattle.pg_messages.specs.declared.back.Back.{Back}
use Rattle.pg_messages.specs.declared.back.Back.TheVariants as back
use Rattle.pg_messages.specs.declared.back.Status.{Status}
use Rattle.pg_messages.specs.declared.startup.Pair.{Pair}
use Rattle.pg_messages.specs.declared.startup.Startup.{Startup}
use Rattle.pg_messages.specs.declared.startup.Startup.TheVariants as startup
use Rattle.stored_versions.specs.Openings.{Opening}
use Rattle.vschema.specs.declared.catalog.Catalog.{Catalog}
use Rattle.session_poll.specs.declared.state.Phase.TheVariants as phases
use Rattle.session_poll.specs.Courses.{Course, goes}
use Rattle.session_poll.specs.Errors.{Rejects}
use Rattle.session_replies.specs.Replies.{out_of_memory}
use Rattle.session_poll.specs.State.{State, in_phase, status_of}

abbrev pub later_or : Option (List ℕ) → Option (List ℕ) → Option (List ℕ)
later_or (Some later) earlier = Some later
later_or None earlier = earlier

abbrev pub value_in : List ℕ → Pair → Option (List ℕ)
value_in name pair = if bytes_eq pair.name name then Some pair.value else None

-- the value of a parameter; of one that comes again the last value counts
abbrev pub value_of : List ℕ → List Pair → Option (List ℕ)
value_of name [] = None
value_of name (pair ∷ pairs) = later_or (value_of name pairs) (value_in name pair)

abbrev pub is_not_empty : Option (List ℕ) → Bool
is_not_empty None = false
is_not_empty (Some value) = not (length value == 0)

-- an option of a later protocol, or replication
abbrev pub is_refused_name : Pair → Bool
is_refused_name pair = starts_with nat_eq pair.name (codes "_pq_.") || bytes_eq pair.name (codes "replication")

-- A start-up message is taken where it names a user, and no parameter that is refused.
abbrev pub is_taken : Startup → Bool
is_taken (startup.Start pairs) = not (list_any is_refused_name pairs) && is_not_empty (value_of (codes "user") pairs)
is_taken (startup.Other code) = false

abbrev pub behind_comma : List ℕ → List ℕ
behind_comma name = codes "," ++ name

-- names with commas between them
abbrev pub with_commas : List (List ℕ) → List ℕ
with_commas [] = []
with_commas (name ∷ names) = name ++ flat_map behind_comma names

-- what the name with this number adds to them
abbrev pub piece : List (List ℕ) → ℕ → List ℕ
piece names k = (if k == 0 then [] else codes ",") ++ name_of names k

-- what every client is told
abbrev pub fixed_parameters : List Back
fixed_parameters =
    back.AuthenticationOk ∷
    back.ParameterStatus (codes "server_version") (codes "14.0") ∷
    back.ParameterStatus (codes "server_encoding") (codes "UTF8") ∷
    back.ParameterStatus (codes "client_encoding") (codes "UTF8") ∷
    back.ParameterStatus (codes "DateStyle") (codes "ISO, MDY") ∷
    back.ParameterStatus (codes "integer_datetimes") (codes "on") ∷
    back.ParameterStatus (codes "standard_conforming_strings") (codes "on") ∷ []

-- what a client is told at the start: the parameters, among them the catalogue's features and model, and the key of the
-- session
abbrev pub welcome : Catalog → Status → List Back
welcome catalog status =
    fixed_parameters ++
    back.ParameterStatus (codes "vdb_features") (with_commas catalog.features) ∷
    back.ParameterStatus (codes "vdb_model") (text_of catalog.features catalog.model) ∷
    back.BackendKeyData 1 0 ∷
    back.ReadyForQuery status ∷ []

abbrev pub Welcomes : Opening → State → Course → Type 0
Welcomes opening old c =
    (c ≡ goes [] (welcome opening.catalog (status_of old.transaction)) (in_phase phases.Ready old)) ⊎ (c ≡ goes [] (out_of_memory ∷ []) old)

abbrev pub StartsUp : Startup → Opening → State → Course → Type 0
StartsUp packet opening old c = MatchBool (is_taken packet) (Welcomes opening old c) (Rejects opening old c)
