-- The case of the names that is shown is one that holds, and if none is shown none does.
use Rattle.std.proofs.Common.{◌≡◌, Bool, true, false, List, [], ◌∷◌, ◌++◌, Option, Some, None, slice_get, refl, sym, ◌∙◌, ap, subst, inl, inr, ◌⊎◌}
use Rattle.std.specs.List.{find}
use Rattle.std.specs.Option.{option_or}
use Rattle.query_meaning.specs.Cases.{Case, IsOneOf, case_of}
use Rattle.query_meaning.specs.Names.{Named, names_of}
use Rattle.query_meaning.specs.Parameters.{without_kind}
use Rattle.query_meaning.specs.declared.ill.TypeRefused.{TypeRefused}
use Rattle.query_meaning.specs.declared.ill.TypeRefused.TheVariants as refused
use Rattle.query_names.specs.NameCases.{RefusesNames, Shows, ShowsFirst, first_case, names_table, shown}
use Rattle.values.specs.declared.value.Kind.{Kind}
use Rattle.vra_syntax.specs.declared.query.Query.{Query}
use Rattle.vschema.specs.declared.catalog.Table.{Table}

no_some : (one : Case) → Some one ≡ None → ⊥
no_some one is = cc is

or_none : (first second : Option Case) → option_or first second ≡ None → (first ≡ None) × (second ≡ None)
or_none None second is = (refl, is)
or_none (Some one) second is = absurd (no_some one is)

empty_first : (cases : List Case) → slice_get cases 0 ≡ None → cases ≡ []
empty_first [] is = refl
empty_first (one ∷ cases) is = absurd (no_some one is)

pub nothing_shown : (cases : List Case) → shown cases ≡ None → cases ≡ []
nothing_shown cases is = empty_first cases (or_none (find names_table cases) (slice_get cases 0) is).1

found_at : (first : Case) (cases : List Case) (one : Case) (b : Bool) → names_table first ≡ b → find names_table (first ∷ cases) ≡ Some one → (find names_table cases ≡ Some one → IsOneOf cases one) → IsOneOf (first ∷ cases) one
found_at first cases one true here is more = let e : Some first ≡ Some one = rw here at is in inl (cc e)
found_at first cases one false here is more = let e : find names_table cases ≡ Some one = rw here at is in inr (more e)

one_of_found : (cases : List Case) (one : Case) → find names_table cases ≡ Some one → IsOneOf cases one
one_of_found [] one is = no_some one (sym is)
one_of_found (first ∷ cases) one is = found_at first cases one (names_table first) refl is (λ more. one_of_found cases one more)

one_of_first : (cases : List Case) (one : Case) → slice_get cases 0 ≡ Some one → IsOneOf cases one
one_of_first [] one is = no_some one (sym is)
one_of_first (first ∷ cases) one is = inl (cc is)

or_some : (first second : Option Case) (one : Case) → option_or first second ≡ Some one → (first ≡ Some one) ⊎ (second ≡ Some one)
or_some None second one is = inr is
or_some (Some other) second one is = inl is

pub one_shown : (cases : List Case) (one : Case) → shown cases ≡ Some one → IsOneOf cases one
one_shown cases one is = elim (or_some (find names_table cases) (slice_get cases 0) one is) [ inl found ↦ one_of_found cases one found | inr first ↦ one_of_first cases one first ]

pub one_of_left : (left right : List Case) (one : Case) → IsOneOf left one → IsOneOf (left ++ right) one
one_of_left [] right one is = absurd is
one_of_left (first ∷ left) right one is = elim is [ inl here ↦ inl here | inr more ↦ inr (one_of_left left right one more) ]

pub one_of_right : (left right : List Case) (one : Case) → IsOneOf right one → IsOneOf (left ++ right) one
one_of_right [] right one is = is
one_of_right (first ∷ left) right one is = inr (one_of_right left right one is)

pub no_case : (kinds : List Kind) (names : Named) → first_case kinds names ≡ None → names.unknown ++ without_kind kinds names.parameters ≡ []
no_case kinds names is =
    let both = or_none (shown names.unknown) (slice_get (without_kind kinds names.parameters) 0) is in
    let e : names.unknown ≡ [] = nothing_shown names.unknown both.0 in
    let f : without_kind kinds names.parameters ≡ [] = empty_first (without_kind kinds names.parameters) both.1 in
    rw (e, f) refl

pub one_case : (kinds : List Kind) (names : Named) (one : Case) → first_case kinds names ≡ Some one → IsOneOf (names.unknown ++ without_kind kinds names.parameters) one
one_case kinds names one is = elim (or_some (shown names.unknown) (slice_get (without_kind kinds names.parameters) 0) one is) [
  | inl unknown ↦ one_of_left names.unknown (without_kind kinds names.parameters) one (one_shown names.unknown one unknown)
  | inr lacking ↦ one_of_right names.unknown (without_kind kinds names.parameters) one (one_of_first (without_kind kinds names.parameters) one lacking)
]

-- a refusal that shows the first case
pub case_holds : (kinds : List Kind) (tables : List Table) (query : Query) (names : Named) (one : Case) (why : TypeRefused) → names ≡ names_of tables query → names.too_wide ≡ None → first_case kinds names ≡ Some one → Shows one why → RefusesNames kinds tables query why
case_holds kinds tables query names one (refused.Ill why) said narrow first shows = (
  ap (λ (n : Named). n.too_wide) (sym said) ∙ narrow,
  shows.0,
  subst (λ (n : Named). IsOneOf (n.unknown ++ without_kind kinds n.parameters) (case_of why)) said (subst (λ (c : Case). IsOneOf (names.unknown ++ without_kind kinds names.parameters) c) (sym shows.1) (one_case kinds names one first)),
)
case_holds kinds tables query names one (refused.TooWide count) said narrow first shows = absurd shows
case_holds kinds tables query names one refused.Memory said narrow first shows = tt

pub first_shown : (kinds : List Kind) (tables : List Table) (query : Query) (names : Named) (one : Case) (why : TypeRefused) → names ≡ names_of tables query → first_case kinds names ≡ Some one → Shows one why → ShowsFirst kinds tables query why
first_shown kinds tables query names one (refused.Ill why) said first shows = ap (first_case kinds) (sym said) ∙ first ∙ ap (λ (c : Case). Some c) (sym shows.1)
first_shown kinds tables query names one (refused.TooWide count) said first shows = tt
first_shown kinds tables query names one refused.Memory said first shows = tt
