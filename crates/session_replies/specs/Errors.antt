-- How the error of a refusal is told.
use Rattle.std.specs.Prelude.{◌≡◌, ℕ, Bool, true, false, List, ◌++◌, ◌⊎◌}
use Rattle.pg_messages.specs.Back.{back_bytes}
use Rattle.pg_messages.specs.declared.back.Back.{Back}
use Rattle.query_meaning.specs.declared.ill.IllCase.{IllCase}
use Rattle.query_meaning.specs.declared.ill.IllCase.TheVariants as ill
use Rattle.query_meaning.specs.declared.ill.TypeRefused.{TypeRefused}
use Rattle.query_meaning.specs.declared.ill.TypeRefused.TheVariants as untyped
use Rattle.session_replies.specs.Replies.{error_of, out_of_memory}
use Rattle.session_replies.specs.declared.refusal.Refusal.{Refusal}
use Rattle.session_replies.specs.declared.refusal.Refusal.TheVariants as refusal

abbrev pub names_case : IllCase → Bool
names_case (ill.ParamKind number) = false
names_case case = true

abbrev pub names_type : TypeRefused → Bool
names_type (untyped.Ill why) = names_case why.case
names_type why = false

-- Whether its text holds a name or a variant. Such a text takes memory, and every other has none but numbers.
abbrev pub has_name : Refusal → Bool
has_name (refusal.Untyped why) = names_type why
has_name (refusal.Conflict table place) = true
has_name why = false

-- The error of a refusal. Where its text holds a name, want of memory may stand in its place.
abbrev pub Tells : List (List ℕ) → Refusal → Back → Type 0
Tells names why message = (message ≡ error_of names why) ⊎ ((has_name why ≡ true) × (message ≡ out_of_memory))

-- it was put behind the bytes that waited, where the features have these names
pub record Told (names : List (List ℕ)) (why : Refusal) (old new : List ℕ) : Type 0 where
  pub message : Back
  pub tells : Tells names why message
  pub put : new ≡ old ++ back_bytes message
