-- What the columns that a form makes, and what is asked of it, say of it.
use Rattle.std.proofs.Common.{◌≡◌, ℕ, Bool, true, false, List, [], ◌∷◌, ◌++◌, refl, sym, ◌∙◌, ap, if◌then◌else◌}
use Rattle.std.proofs.lemmas.List.{map-append}
use Rattle.feature_expr.specs.Satisfaction.{satisfies}
use Rattle.feature_expr.specs.declared.expr.Expr.{Expr}
use Rattle.plain_relation.specs.Relations.{Column}
use Rattle.query_meaning.specs.Cases.{Case}
use Rattle.query_meaning.specs.PlainTypes.{Columns, TypedPart, columns_differ, unless}
use Rattle.query_meaning.specs.Typing.{columns_at, heading, headings}
use Rattle.query_meaning.specs.declared.typed.TypedColumn.{TypedColumn}
use Rattle.query_typing.proofs.SideLaws.{same_side}
use Rattle.query_typing.specs.Faults.{NoCase}
use Rattle.query_typing.specs.Forms.{union_part}
use Rattle.query_typing.specs.Parts.{PartIs}
use Rattle.relational_algebra.specs.Columns.{in_order_of, merged, once}
use Rattle.values.specs.declared.value.Kind.{Kind}

unless_none : (cases : List Case) (columns : List Column) → cases ≡ [] → unless cases columns ≡ Columns columns
unless_none cases columns is = ap (λ cs. unless cs columns) is

-- a form that has cases of its own, or columns
abbrev pub part_of : List Column → (List ℕ → List Case) → (List ℕ → List Column) → List ℕ → TypedPart
part_of order cases columns c = record { possible = order; type = unless (cases c) (columns c) }

pub form_is : (model reach : Expr) (order : List Column) (cases : List ℕ → List Case) (columns : List ℕ → List Column) (ks : List TypedColumn) → headings ks ≡ order → ((c : List ℕ) → columns_at c ks ≡ columns c) → NoCase model reach cases → PartIs model reach (part_of order cases columns) ks
form_is model reach order cases columns ks order_is columns_are none = record {
  possible = λ c. sym order_is;
  type = λ c admitted reached. unless_none (cases c) (columns c) (none.none c admitted reached) ∙ ap Columns (sym (columns_are c));
}

-- union

columns_at-append : (c : List ℕ) (ks others : List TypedColumn) → columns_at c (ks ++ others) ≡ columns_at c ks ++ columns_at c others
columns_at-append c [] others = refl
columns_at-append c (k ∷ ks) others = more (satisfies c k.cond) (columns_at-append c ks others)
  where
    more : (b : Bool) → columns_at c (ks ++ others) ≡ columns_at c ks ++ columns_at c others → (if b then heading k ∷ columns_at c (ks ++ others) else columns_at c (ks ++ others)) ≡ (if b then heading k ∷ columns_at c ks else columns_at c ks) ++ columns_at c others
    more true is = ap (λ xs. heading k ∷ xs) is
    more false is = is

pub union_is : (model reach : Expr) (kinds : List Kind) (left right all ks : List TypedColumn) → all ≡ left ++ right → headings ks ≡ once (headings all) → ((c : List ℕ) → columns_at c ks ≡ in_order_of (once (headings all)) (columns_at c all)) → NoCase model reach (λ c. columns_differ (columns_at c left) (columns_at c right)) → PartIs model reach (union_part kinds left right) ks
union_is model reach kinds left right all ks is once_is in_order none =
    let heads : headings all ≡ headings left ++ headings right = ap headings is ∙ map-append heading left right in
    form_is model reach (merged (headings left) (headings right)) (λ c. columns_differ (columns_at c left) (columns_at c right)) (λ c. in_order_of (merged (headings left) (headings right)) (columns_at c left ++ columns_at c right)) ks
    (once_is ∙ ap once heads)
    (λ c. in_order c ∙ ap (λ h. in_order_of (once h) (columns_at c all)) heads ∙ ap (in_order_of (merged (headings left) (headings right))) (ap (columns_at c) is ∙ columns_at-append c left right))
    none

-- two sides that are the same don't differ
pub same_sides : (model reach : Expr) (left right : List TypedColumn) → left ≡ right → NoCase model reach (λ c. columns_differ (columns_at c left) (columns_at c right))
same_sides model reach left right is = record { none = λ c admitted reached. ap (λ ks. columns_differ (columns_at c ks) (columns_at c right)) is ∙ same_side (columns_at c right) }
