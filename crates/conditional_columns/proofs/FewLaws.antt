-- A name has at most three columns, one of each kind, where each name and kind stands once.
use Rattle.std.proofs.Common.{◌≡◌, ◌∙◌, ℕ, ◌<◌, ◌≤◌, Bool, true, false, List, [], ◌∷◌, map, length, inl, inr, refl, sym, subst, arith, if◌then◌else◌, eqb}
use Rattle.std.specs.Prelude.{◌==◌}
use Rattle.std.specs.List.{AllByRecursion, IsDistinct, list_any}
use Rattle.std.proofs.lemmas.Bool.{and_from, eqb-true, false_from_ne_true, or_cases, or_parts}
use Rattle.std.proofs.lemmas.List.{length-map}
use Rattle.std.proofs.lemmas.Map.Steps.{length-le_from_distinct_below}
use Rattle.values.specs.declared.column_name.ColName.{ColName}
use Rattle.values.specs.declared.value.Kind.{Kind}
use Rattle.values.specs.declared.value.Kind.TheVariants as kind
use Rattle.plain_relation.specs.Relations.{same_name}
use Rattle.plain_relation.specs.Values.{same_kind}
use Rattle.relational_algebra.specs.Columns.{among, once, same_column}
use Rattle.query_meaning.specs.Typing.{heading, headings}
use Rattle.query_meaning.specs.declared.typed.TypedColumn.{TypedColumn}
use Rattle.query_meaning.proofs.ColumnSets.{distinct, distinct_from_once, distinct_parts, name_decides}
use Rattle.conditional_columns.specs.ColumnLists.{with_name}
use Rattle.conditional_columns.specs.Keys.{kind_number}
use Rattle.conditional_columns.proofs.KeyLaws.{kinds_numbered}

abbrev numbers : List TypedColumn → List ℕ
numbers ks = map (λ (k : TypedColumn). kind_number k.kind) ks

below_three : (one : Kind) → kind_number one < 3
below_three kind.Int = omega arith
below_three kind.Text = omega arith
below_three kind.Bool = omega arith

all_below : (ks : List TypedColumn) (q : ℕ) → list_any (eqb q) (numbers ks) ≡ true → q < 3
all_below [] q h = absurd (cc h)
all_below (k ∷ ks) q h = elim (or_cases (eqb q (kind_number k.kind)) (list_any (eqb q) (numbers ks)) h) [
  | inl here ↦ subst (λ n. n < 3) (sym (eqb-true q (kind_number k.kind) here)) (below_three k.kind)
  | inr there ↦ all_below ks q there
]

-- columns of one name that aren't the same have two kinds
two_kinds : (name : ColName) (k x : TypedColumn) → same_name k.name name ≡ true → same_name x.name name ≡ true → same_column (heading k) (heading x) ≡ false → (kind_number k.kind == kind_number x.kind) ≡ false
two_kinds name k x mine theirs apart = false_from_ne_true (kind_number k.kind == kind_number x.kind) (λ same.
    let names = (name_decides k.name x.name).1 ((name_decides k.name name).0 mine ∙ sym ((name_decides x.name name).0 theirs)) in
    let both = and_from (same_name k.name x.name) (same_kind k.kind x.kind) names (sym (kinds_numbered k.kind x.kind) ∙ same) in
    absurd (cc (both, apart)))

all_apart : (name : ColName) (k : TypedColumn) (ks : List TypedColumn) → same_name k.name name ≡ true → among (heading k) (headings ks) ≡ false → AllByRecursion (λ n. (kind_number k.kind == n) ≡ false) (numbers (with_name name ks))
all_apart name k [] mine new = tt
all_apart name k (x ∷ ks) mine new =
    let apart = or_parts (same_column (heading k) (heading x)) (among (heading k) (headings ks)) new in
    kept (same_name x.name name) refl apart.0 (all_apart name k ks mine apart.1)
  where
    kept : (b : Bool) → same_name x.name name ≡ b → same_column (heading k) (heading x) ≡ false → AllByRecursion (λ n. (kind_number k.kind == n) ≡ false) (numbers (with_name name ks)) → AllByRecursion (λ n. (kind_number k.kind == n) ≡ false) (numbers (if b then x ∷ with_name name ks else with_name name ks))
    kept true theirs other rest = (two_kinds name k x mine theirs other, rest)
    kept false theirs other rest = rest

apart_kinds : (name : ColName) (ks : List TypedColumn) → distinct (headings ks) ≡ true → IsDistinct eqb (numbers (with_name name ks))
unfolding IsDistinct
apart_kinds name [] d = tt
apart_kinds name (k ∷ ks) d = let parts = distinct_parts (heading k) (headings ks) d in kept (same_name k.name name) refl parts.0 (apart_kinds name ks parts.1)
  where
    kept : (b : Bool) → same_name k.name name ≡ b → among (heading k) (headings ks) ≡ false → IsDistinct eqb (numbers (with_name name ks)) → IsDistinct eqb (numbers (if b then k ∷ with_name name ks else with_name name ks))
    kept true mine new rest = (all_apart name k ks mine new, rest)
    kept false mine new rest = rest

pub three_at_most : (name : ColName) (ks : List TypedColumn) → once (headings ks) ≡ headings ks → length (with_name name ks) ≤ 3
three_at_most name ks each =
    let few : length (numbers (with_name name ks)) ≤ 3 = length-le_from_distinct_below (numbers (with_name name ks)) 3 (apart_kinds name ks (distinct_from_once (headings ks) each)) (all_below (with_name name ks)) in
    let same : length (numbers (with_name name ks)) ≡ length (with_name name ks) = length-map (with_name name ks) (λ (k : TypedColumn). kind_number k.kind) in
    omega (arith, few, same)
