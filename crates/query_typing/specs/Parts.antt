-- The forms of queries, and what columns under conditions say of a part of a query.
use Rattle.std.specs.Prelude.{ℕ, ◌≡◌, true, List, [], if◌then◌else◌}
use Rattle.condition_sat.specs.Admitted.{IsAdmitted}
use Rattle.feature_expr.specs.Satisfaction.{satisfies}
use Rattle.feature_expr.specs.declared.expr.Expr.{Expr}
use Rattle.query_meaning.specs.PlainTypes.{Columns, TypedPart, cases_of, type_step, typed_part}
use Rattle.query_meaning.specs.Typing.{columns_at, headings}
use Rattle.query_meaning.specs.declared.typed.TypedColumn.{TypedColumn}
use Rattle.query_typing.specs.Faults.{RefusesCase}
use Rattle.query_typing.specs.Steps.{AreReached, rewrapped}
use Rattle.query_typing.specs.declared.form.OneForm.{OneForm}
use Rattle.query_typing.specs.declared.form.OneForm.TheVariants as one
use Rattle.query_typing.specs.declared.form.Step.{Step}
use Rattle.query_typing.specs.declared.form.TwoForm.{TwoForm}
use Rattle.query_typing.specs.declared.form.TwoForm.TheVariants as two
use Rattle.query_typing.specs.declared.refused.CaseRefused.{CaseRefused}
use Rattle.relational_algebra.specs.Columns.{in_order_of, merged}
use Rattle.values.specs.declared.value.Kind.{Kind}
use Rattle.vra_syntax.specs.declared.query.Query.{Query}
use Rattle.vra_syntax.specs.declared.query.Query.TheOpen.{Query-F}
use Rattle.vschema.specs.declared.catalog.Table.{Table}

-- a form over its part in a variant

abbrev pub one_typed : List ℕ → List Kind → OneForm → TypedPart → TypedPart
one_typed c kinds (one.Select items cond) source = type_step c kinds [] (Query-F.Select items.now source cond.now)
one_typed c kinds (one.Alias name) source = type_step c kinds [] (Query-F.Alias source name.now)

abbrev pub two_typed : List ℕ → List Kind → TwoForm → TypedPart → TypedPart → TypedPart
two_typed c kinds (two.Join cond) left right = type_step c kinds [] (Query-F.Join left right cond.now)
two_typed c kinds two.Union left right = type_step c kinds [] (Query-F.Union left right)
two_typed c kinds two.Except left right = type_step c kinds [] (Query-F.Except left right)
two_typed c kinds (two.Choice expr) left right = type_step c kinds [] (Query-F.Choice expr.now left right)

-- The columns are the possible ones of the part. In each admitted variant in which it is reached it has a plain type, and
-- that are the columns whose conditions hold.
pub record PartIs (model reach : Expr) (part : List ℕ → TypedPart) (columns : List TypedColumn) : Type 0 where
  pub possible : (c : List ℕ) → (part c).possible ≡ headings columns
  pub type : (c : List ℕ) → IsAdmitted model c → satisfies c reach ≡ true → (part c).type ≡ Columns (columns_at c columns)

-- a case of the part holds in the admitted variant that is shown, in which it is reached
abbrev pub PartFails : Expr → Expr → (List ℕ → TypedPart) → CaseRefused → Type 0
PartFails model reach part why = RefusesCase model reach (λ c. cases_of (part c).type) why

-- columns under conditions as a part
abbrev pub plain_part : List TypedColumn → List ℕ → TypedPart
plain_part columns c = record { possible = headings columns; type = Columns (columns_at c columns) }

-- what the columns of a form over two sides are; the sides of a choice are reached where it takes them
abbrev pub TwoIs : Expr → Expr → List Kind → TwoForm → List TypedColumn → List TypedColumn → List TypedColumn → Type 0
TwoIs model reach kinds (two.Choice expr) left right columns =
    (headings columns ≡ merged (headings left) (headings right)) × ((c : List ℕ) → columns_at c columns ≡ in_order_of (merged (headings left) (headings right)) (if satisfies c expr.now then columns_at c left else columns_at c right))
TwoIs model reach kinds (two.Join cond) left right columns = PartIs model reach (λ c. two_typed c kinds (two.Join cond) (plain_part left c) (plain_part right c)) columns
TwoIs model reach kinds two.Union left right columns = PartIs model reach (λ c. two_typed c kinds two.Union (plain_part left c) (plain_part right c)) columns
TwoIs model reach kinds two.Except left right columns = PartIs model reach (λ c. two_typed c kinds two.Except (plain_part left c) (plain_part right c)) columns

-- and what its refusal says; a choice has no cases of its own
abbrev pub TwoFails : Expr → Expr → List Kind → TwoForm → List TypedColumn → List TypedColumn → CaseRefused → Type 0
TwoFails model reach kinds (two.Choice expr) left right why = RefusesCase model reach (λ c. []) why
TwoFails model reach kinds (two.Join cond) left right why = PartFails model reach (λ c. two_typed c kinds (two.Join cond) (plain_part left c) (plain_part right c)) why
TwoFails model reach kinds two.Union left right why = PartFails model reach (λ c. two_typed c kinds two.Union (plain_part left c) (plain_part right c)) why
TwoFails model reach kinds two.Except left right why = PartFails model reach (λ c. two_typed c kinds two.Except (plain_part left c) (plain_part right c)) why

-- The walk down a query's left side: a part inside the steps that are left, and its columns.
pub record Standing (model : Expr) (kinds : List Kind) (tables : List Table) (root : Expr) (whole : Query) (steps : List Step) (columns : List TypedColumn) : Type 0 where
  pub inner : Query
  pub reach : Expr
  pub is_whole : rewrapped steps inner ≡ whole
  pub reached : AreReached (λ c. satisfies c root) steps (λ c. satisfies c reach)
  pub typed : PartIs model reach (λ c. typed_part c kinds tables inner) columns
