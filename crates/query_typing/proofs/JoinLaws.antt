-- What the columns of a join, and what is asked of it, say of it.
use Rattle.std.proofs.Common.{◌≡◌, ℕ, List, [], ◌∷◌, ◌++◌, refl, sym, ◌∙◌, ap}
use Rattle.feature_expr.specs.declared.expr.Expr.{Expr}
use Rattle.plain_relation.specs.Relations.{Column}
use Rattle.query_meaning.specs.Cases.{Case}
use Rattle.query_meaning.specs.PlainTypes.{asked, cases_of, twice, unless, where_any}
use Rattle.query_meaning.specs.Typing.{columns_at, headings}
use Rattle.query_meaning.specs.declared.typed.TypedColumn.{TypedColumn}
use Rattle.query_typing.proofs.FormLaws.{form_is}
use Rattle.query_typing.proofs.WhereLaws.{no_case_same, refuses_same}
use Rattle.query_typing.specs.Faults.{NoCase, RefusesCase}
use Rattle.query_typing.specs.Forms.{join_part}
use Rattle.query_typing.specs.Parts.{PartFails, PartIs}
use Rattle.query_typing.specs.declared.refused.CaseRefused.{CaseRefused}
use Rattle.relational_algebra.specs.Columns.{both_sides, in_order_of, merged, once}
use Rattle.values.specs.declared.value.Kind.{Kind}
use Rattle.vra_syntax.specs.declared.cond.Cond.{Cond}

joined_cases : (both : List Column) (ask : List Case) → twice both ++ where_any both ask ≡ where_any both (twice both ++ ask)
joined_cases [] ask = refl
joined_cases (k ∷ both) ask = refl

cases_unless : (cases : List Case) (columns : List Column) → cases_of (unless cases columns) ≡ cases
cases_unless [] columns = refl
cases_unless (first ∷ more) columns = refl

module _ (model reach : Expr) (kinds : List Kind) (cond : Cond) (left right ls rs all asked_of : List TypedColumn) (left_is : ls ≡ left) (right_is : rs ≡ right) (all_is : asked_of ≡ all) (there : (c : List ℕ) → columns_at c all ≡ both_sides (columns_at c ls) (columns_at c rs)) where
  abbrev sides : List ℕ → List Column
  sides c = both_sides (columns_at c left) (columns_at c right)

  sides_are : (c : List ℕ) → sides c ≡ columns_at c asked_of
  sides_are c = ap (λ k. both_sides (columns_at c k) (columns_at c right)) (sym left_is) ∙ ap (λ k. both_sides (columns_at c ls) (columns_at c k)) (sym right_is) ∙ sym (there c) ∙ ap (columns_at c) (sym all_is)

  abbrev asked_join : List ℕ → List Case
  asked_join c = where_any (columns_at c asked_of) (twice (columns_at c asked_of) ++ asked c kinds cond (columns_at c asked_of))

  cases_are : (c : List ℕ) → twice (sides c) ++ where_any (sides c) (asked c kinds cond (sides c)) ≡ asked_join c
  cases_are c = joined_cases (sides c) (asked c kinds cond (sides c)) ∙ ap (λ ks. where_any ks (twice ks ++ asked c kinds cond ks)) (sides_are c)

  pub join_is : (ks : List TypedColumn) → headings all ≡ headings ls ++ headings rs → headings ks ≡ once (headings all) → ((c : List ℕ) → columns_at c ks ≡ in_order_of (once (headings all)) (columns_at c all)) → NoCase model reach asked_join → PartIs model reach (join_part kinds cond left right) ks
  join_is ks heads once_is in_order none =
      let order : once (headings all) ≡ merged (headings left) (headings right) = ap once (heads ∙ ap (λ k. headings k ++ headings rs) left_is ∙ ap (λ k. headings left ++ headings k) right_is) in
      form_is model reach (merged (headings left) (headings right)) (λ c. twice (sides c) ++ where_any (sides c) (asked c kinds cond (sides c))) (λ c. in_order_of (merged (headings left) (headings right)) (sides c)) ks
      (once_is ∙ order)
      (λ c. in_order c ∙ ap (λ o. in_order_of o (columns_at c all)) order ∙ ap (in_order_of (merged (headings left) (headings right))) (ap (columns_at c) (sym all_is) ∙ sym (sides_are c)))
      (no_case_same model reach asked_join (λ c. twice (sides c) ++ where_any (sides c) (asked c kinds cond (sides c))) cases_are none)

  pub join_fails : (why : CaseRefused) → RefusesCase model reach asked_join why → PartFails model reach (join_part kinds cond left right) why
  join_fails why shows = refuses_same model reach asked_join (λ c. cases_of (join_part kinds cond left right c).type) why
      (λ c. cases_unless (twice (sides c) ++ where_any (sides c) (asked c kinds cond (sides c))) (in_order_of (merged (headings left) (headings right)) (sides c)) ∙ cases_are c) shows
