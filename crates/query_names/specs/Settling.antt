-- The kinds that parameters settle, occurrence by occurrence: the first one that settles a kind counts.
use Rattle.std.specs.Prelude.{ℕ, ◌≡◌, ◌+◌, ◌<◌, ◌==◌, length, List, Option, Some, None, slice_index_or, if◌then◌else◌}
use Rattle.query_meaning.specs.ParameterKinds.{kind_of_param, settled_kind, settled_or}
use Rattle.query_meaning.specs.Parameters.{Occurrence}
use Rattle.query_names.specs.declared.kinds.KindsRefused.{KindsRefused}
use Rattle.query_names.specs.declared.kinds.KindsRefused.TheVariants as refused
use Rattle.values.specs.declared.value.Kind.{Kind}

-- what is settled once one more occurrence stands behind the others
abbrev pub settled_more : ℕ → Occurrence → Option Kind → Option Kind
settled_more number one (Some kind) = Some kind
settled_more number one None = if one.number == number then settled_or one.partner None else None

-- for each place below the count what the parameter there settles
pub record AreSettled (count : ℕ) (found : List Occurrence) (settled : List (Option Kind)) : Type 0 where
  pub full : length settled ≡ count
  pub each : (place : ℕ) → place < count → slice_index_or settled place None ≡ settled_kind (place + 1) found

-- the place of a parameter that has no kind
abbrev pub IsLacking : List (Option Kind) → List Occurrence → ℕ → KindsRefused → Type 0
IsLacking given found count (refused.Lacks place) = (place < count) × (kind_of_param given found place ≡ None)
IsLacking given found count refused.Memory = Unit {0}
