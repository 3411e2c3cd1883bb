-- The kinds of a statement's parameters: those that are given, and for the others what stands opposite them.
use Rattle.std.specs.Prelude.{ℕ, ◌+◌, ◌≡◌, ◌==◌, ◌&&◌, Bool, true, false, max, List, [], ◌∷◌, map, length, Option, Some, None, slice_get, if◌then◌else◌}
use Rattle.std.specs.List.{flat_map, range_with_len, list_any}
use Rattle.values.specs.declared.value.Kind.{Kind}
use Rattle.vra_syntax.specs.Parameters.{greatest_param}
use Rattle.vra_syntax.specs.declared.statement.Statement.{Statement}
use Rattle.vra_syntax.specs.declared.statement.Statement.TheVariants as statement
use Rattle.vschema.specs.declared.catalog.Table.{Table}
use Rattle.query_meaning.specs.Cases.{Case, IsOneOf, case_of, no_kind}
use Rattle.query_meaning.specs.Names.{names_of}
use Rattle.query_meaning.specs.Parameters.{Partner, OfKind, Unknown, Occurrence}
use Rattle.query_meaning.specs.WriteTyping.{write_parameters, write_unknown}
use Rattle.query_meaning.specs.declared.ill.TypeRefused.{TypeRefused}
use Rattle.query_meaning.specs.declared.ill.TypeRefused.TheVariants as refused

-- the kind that the first of these settles, for the parameter with this number
abbrev pub settled_or : Partner → Option Kind → Option Kind
settled_or (OfKind kind) later = Some kind
settled_or _ later = later

abbrev pub settled_kind : ℕ → List Occurrence → Option Kind
settled_kind number [] = None
settled_kind number (one ∷ more) = if one.number == number then settled_or one.partner (settled_kind number more) else settled_kind number more

-- a kind that is given stays
abbrev pub given_or : Option (Option Kind) → Option Kind → Option Kind
given_or (Some (Some kind)) settled = Some kind
given_or _ settled = settled

abbrev pub kind_of_param : List (Option Kind) → List Occurrence → ℕ → Option Kind
kind_of_param given found place = given_or (slice_get given place) (settled_kind (place + 1) found)

abbrev pub is_unknown : Partner → Bool
is_unknown Unknown = true
is_unknown _ = false

abbrev pub lacks_partner : ℕ → Occurrence → Bool
lacks_partner number one = (one.number == number) && is_unknown one.partner

-- A parameter without a kind is a case of its own, unless it stands opposite a name that isn't known: then the unknown
-- names of the statement are the cases.
abbrev pub cases_without : List Case → List Occurrence → ℕ → Option Kind → List Case
cases_without unknown found number (Some kind) = []
cases_without unknown found number None = if list_any (lacks_partner number) found then unknown else no_kind number ∷ []

abbrev pub parameters_in : List Table → Statement → List Occurrence
parameters_in tables (statement.Query query) = (names_of tables query).parameters
parameters_in tables (statement.Write write) = write_parameters tables write
parameters_in tables _ = []

abbrev pub unknown_names : List Table → Statement → List Case
unknown_names tables (statement.Query query) = (names_of tables query).unknown
unknown_names tables (statement.Write write) = write_unknown tables write
unknown_names tables _ = []

abbrev pub too_wide_in : List Table → Statement → Option ℕ
too_wide_in tables (statement.Query query) = (names_of tables query).too_wide
too_wide_in tables _ = None

-- there are as many as the greatest number of a parameter says, or as there are given ones
abbrev pub param_places : List (Option Kind) → Statement → List ℕ
param_places given s = range_with_len 0 (max (greatest_param s) (length given))

abbrev pub kinds_found : List Table → List (Option Kind) → Statement → List (Option Kind)
kinds_found tables given s = map (kind_of_param given (parameters_in tables s)) (param_places given s)

abbrev pub kind_cases : List Table → List (Option Kind) → Statement → List Case
kind_cases tables given s =
    let found = parameters_in tables s in
    flat_map (λ place. cases_without (unknown_names tables s) found (place + 1) (kind_of_param given found place)) (param_places given s)

-- each parameter has one of these kinds
pub record AreKinds (tables : List Table) (given : List (Option Kind)) (s : Statement) (kinds : List Kind) : Type 0 where
  pub narrow : too_wide_in tables s ≡ None
  pub settled : kinds_found tables given s ≡ map Some kinds

abbrev pub RefusesKinds : List Table → List (Option Kind) → Statement → TypeRefused → Type 0
RefusesKinds tables given s (refused.TooWide count) = too_wide_in tables s ≡ Some count
RefusesKinds tables given s (refused.Ill why) = (too_wide_in tables s ≡ None) × (why.config ≡ None) × IsOneOf (kind_cases tables given s) (case_of why)
RefusesKinds tables given s refused.Memory = Unit {0}
