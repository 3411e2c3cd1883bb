-- The kinds of parameters.
use Rattle.std.proofs.Common.{◌≡◌, ℕ, zero, suc, ◌+◌, ◌<◌, ◌≤◌, ◌==◌, Bool, true, false, List, [], ◌∷◌, ◌++◌, map, max, length, get_or, take, Option, Some, None, slice_get, refl, sym, ◌∙◌, ap, subst, arith, inl, inr, if◌then◌else◌}
use Rattle.std.specs.List.{flat_map, list_any, range_with_len}
use Rattle.std.proofs.lemmas.Bool.Decides.{eqb_tells}
use Rattle.std.proofs.lemmas.List.{map-append}
use Rattle.std.proofs.lemmas.List.FromFn.{map-range_with_len_more}
use Rattle.query_meaning.specs.Cases.{Case, IsOneOf, case_of, no_kind}
use Rattle.query_meaning.specs.ParameterKinds.{AreKinds, RefusesKinds, cases_without, given_or, kind_of_param, lacks_partner, parameters_in, settled_kind, settled_or, too_wide_in, unknown_names}
use Rattle.query_meaning.specs.Parameters.{Occurrence, Partner, OfKind, Unknown, Open}
use Rattle.query_meaning.specs.declared.ill.TypeRefused.{TypeRefused}
use Rattle.query_meaning.specs.declared.ill.TypeRefused.TheVariants as refused
use Rattle.query_names.proofs.CaseLaws.{nothing_shown, one_of_left, one_of_right, one_shown}
use Rattle.query_names.proofs.CoverLaws.{some_unknown}
use Rattle.query_names.specs.Covered.{covered, has_case}
use Rattle.std.proofs.lemmas.Grind.{take_at_read}
use Rattle.query_names.specs.Findings.{place_of, places}
use Rattle.query_names.specs.declared.found.ParamPlace.{ParamPlace}
use Rattle.query_names.specs.NameCases.{Shows, shown}
use Rattle.query_names.specs.Settling.{AreSettled, settled_more}
use Rattle.values.specs.declared.value.Kind.{Kind}
use Rattle.vra_syntax.specs.Parameters.{greatest_param}
use Rattle.vra_syntax.specs.declared.statement.Statement.{Statement}
use Rattle.vschema.specs.declared.catalog.Table.{Table}

-- One more occurrence.

behind_first : (number : ℕ) (one last : Occurrence) (b : Bool) (partner : Partner) (more more' : Option Kind) → more' ≡ settled_more number last more → (if b then settled_or partner more' else more') ≡ settled_more number last (if b then settled_or partner more else more)
behind_first number one last true (OfKind kind) more more' is = refl
behind_first number one last true Unknown more more' is = is
behind_first number one last true Open more more' is = is
behind_first number one last false partner more more' is = is

settled_behind : (number : ℕ) (found : List Occurrence) (last : Occurrence) → settled_kind number (found ++ last ∷ []) ≡ settled_more number last (settled_kind number found)
settled_behind number [] last = refl
settled_behind number (one ∷ found) last = behind_first number one last (one.number == number) one.partner (settled_kind number found) (settled_kind number (found ++ last ∷ [])) (settled_behind number found last)

pub settled_on : (count : ℕ) (found : List Occurrence) (last : Occurrence) (settled after : List (Option Kind)) → AreSettled count found settled → length after ≡ length settled → ((place : ℕ) → place < length settled → get_or after place None ≡ settled_more (place + 1) last (get_or settled place None)) → AreSettled count (found ++ last ∷ []) after
settled_on count found last settled after are same each = record {
  full = same ∙ are.full;
  each = λ place below.
      let w : place < length settled = let f = are.full in omega (arith, below, f) in
      each place w ∙ ap (settled_more (place + 1) last) (are.each place below) ∙ sym (settled_behind (place + 1) found last);
}

pub settled_taken : (count : ℕ) (parameters : List ParamPlace) (place : ℕ) (d : ParamPlace) (settled after : List (Option Kind)) → place < length parameters → AreSettled count (places (take place parameters)) settled → length after ≡ length settled → ((k : ℕ) → k < length settled → get_or after k None ≡ settled_more (k + 1) (place_of (get_or parameters place d)) (get_or settled k None)) → AreSettled count (places (take (place + 1) parameters)) after
settled_taken count parameters place d settled after within are same each =
    let t : places (take (place + 1) parameters) ≡ places (take place parameters) ++ place_of (get_or parameters place d) ∷ [] = ap places (take_at_read parameters place d within).1 ∙ map-append place_of (take place parameters) (get_or parameters place d ∷ []) in
    subst (λ (found : List Occurrence). AreSettled count found after) (sym t) (settled_on count (places (take place parameters)) (place_of (get_or parameters place d)) settled after are same each)

-- All of them.

pub kinds_next : (f : ℕ → Option Kind) (place : ℕ) (kinds after : List Kind) (kind : Kind) → map f (range_with_len 0 place) ≡ map (λ (k : Kind). Some k) kinds → f place ≡ Some kind → after ≡ kinds ++ kind ∷ [] → map f (range_with_len 0 (place + 1)) ≡ map (λ (k : Kind). Some k) after
kinds_next f place kinds after kind before is added =
    let z : 0 + place ≡ place = omega arith in
    map-range_with_len_more f 0 place place z
    ∙ ap (λ (xs : List (Option Kind)). xs ++ f place ∷ []) before
    ∙ ap (λ (k : Option Kind). map (λ (x : Kind). Some x) kinds ++ k ∷ []) is
    ∙ sym (ap (map (λ (x : Kind). Some x)) added ∙ map-append (λ (x : Kind). Some x) kinds (kind ∷ []))

pub kind_found : (given : List (Option Kind)) (found : List Occurrence) (count place : ℕ) (settled : List (Option Kind)) (kind : Option Kind) → AreSettled count found settled → place < count → kind ≡ given_or (slice_get given place) (get_or settled place None) → kind_of_param given found place ≡ kind
kind_found given found count place settled kind are below is = ap (given_or (slice_get given place)) (sym (are.each place below)) ∙ sym is

pub are_kinds : (tables : List Table) (given : List (Option Kind)) (s : Statement) (found : List Occurrence) (count : ℕ) (kinds : List Kind) → found ≡ parameters_in tables s → count ≡ max (greatest_param s) (length given) → too_wide_in tables s ≡ None → map (kind_of_param given found) (range_with_len 0 count) ≡ map (λ (k : Kind). Some k) kinds → AreKinds tables given s kinds
are_kinds tables given s found count kinds said counted narrow is = record {
  narrow = narrow;
  settled = ap (λ (xs : List Occurrence). map (kind_of_param given xs) (range_with_len 0 (max (greatest_param s) (length given)))) (sym said) ∙ ap (λ n. map (kind_of_param given found) (range_with_len 0 n)) (sym counted) ∙ is;
}

-- A parameter without a kind.

in_range : (f : ℕ → List Case) (from n place : ℕ) (one : Case) → from ≤ place → place < from + n → IsOneOf (f place) one → IsOneOf (flat_map f (range_with_len from n)) one
in_range f from zero place one low high is = absurd (omega (arith, low, high))
in_range f from (suc n) place one low high is = elim (eqb_tells from place) [
  | inl same ↦ one_of_left (f from) (flat_map f (range_with_len (from + 1) n)) one (subst (λ k. IsOneOf (f k) one) (sym same.1) is)
  | inr other ↦ one_of_right (f from) (flat_map f (range_with_len (from + 1) n)) one (in_range f (from + 1) n place one (omega (arith, low, other.1)) (omega (arith, high)) is)
]

lacks_at : (given : List (Option Kind)) (unknown : List Case) (found : List Occurrence) (count place : ℕ) (one : Case) → place < count → kind_of_param given found place ≡ None → IsOneOf (cases_without unknown found (place + 1) None) one → IsOneOf (flat_map (λ k. cases_without unknown found (k + 1) (kind_of_param given found k)) (range_with_len 0 count)) one
lacks_at given unknown found count place one below none is = in_range (λ k. cases_without unknown found (k + 1) (kind_of_param given found k)) 0 count place one (omega arith) (omega (arith, below)) (subst (λ (k : Option Kind). IsOneOf (cases_without unknown found (place + 1) k) one) (sym none) is)

pub refuses_lacking : (tables : List Table) (given : List (Option Kind)) (s : Statement) (unknown : List Case) (found : List Occurrence) (count place : ℕ) (one : Case) (why : TypeRefused) → unknown ≡ unknown_names tables s → found ≡ parameters_in tables s → count ≡ max (greatest_param s) (length given) → too_wide_in tables s ≡ None → place < count → kind_of_param given found place ≡ None → IsOneOf (cases_without unknown found (place + 1) None) one → Shows one why → RefusesKinds tables given s why
refuses_lacking tables given s unknown found count place one (refused.Ill why) u f counted narrow below none is shows = (
  narrow,
  shows.0,
  subst (λ (us : List Case). IsOneOf (flat_map (λ k. cases_without us (parameters_in tables s) (k + 1) (kind_of_param given (parameters_in tables s) k)) (range_with_len 0 (max (greatest_param s) (length given)))) (case_of why)) u
      (subst (λ (xs : List Occurrence). IsOneOf (flat_map (λ k. cases_without unknown xs (k + 1) (kind_of_param given xs k)) (range_with_len 0 (max (greatest_param s) (length given)))) (case_of why)) f
      (subst (λ n. IsOneOf (flat_map (λ k. cases_without unknown found (k + 1) (kind_of_param given found k)) (range_with_len 0 n)) (case_of why)) counted
      (subst (λ (c : Case). IsOneOf (flat_map (λ k. cases_without unknown found (k + 1) (kind_of_param given found k)) (range_with_len 0 count)) c) (sym shows.1)
      (lacks_at given unknown found count place one below none is)))),
)
refuses_lacking tables given s unknown found count place one (refused.TooWide n) u f counted narrow below none is shows = absurd shows
refuses_lacking tables given s unknown found count place one refused.Memory u f counted narrow below none is shows = tt

pub itself : (unknown : List Case) (found : List Occurrence) (number : ℕ) → list_any (lacks_partner number) found ≡ false → IsOneOf (cases_without unknown found number None) (no_kind number)
itself unknown found number lacks = rw lacks (inl refl)

pub its_name : (unknown : List Case) (found : List Occurrence) (number : ℕ) (one : Case) → list_any (lacks_partner number) found ≡ true → shown unknown ≡ Some one → IsOneOf (cases_without unknown found number None) one
its_name unknown found number one lacks is = rw lacks (one_shown unknown one is)

pub never_nothing : (unknown : List Case) (found : List Occurrence) (number : ℕ) → covered unknown found ≡ true → list_any (lacks_partner number) found ≡ true → shown unknown ≡ None → ⊥
never_nothing unknown found number cover lacks is =
    let s : has_case unknown ≡ true = some_unknown number unknown found cover lacks in
    let e : unknown ≡ [] = nothing_shown unknown is in
    let f : false ≡ true = rw e at s in
    cc f
