-- The cases in which a statement is refused, each with the name that goes with it.
use Rattle.std.specs.Prelude.{ℕ, ◌≡◌, List, [], ◌∷◌, ◌⊎◌}
use Rattle.values.specs.declared.column_name.ColName.{ColName}
use Rattle.vra_syntax.specs.declared.cond.Operand.{Operand}
use Rattle.vra_syntax.specs.declared.cond.Operand.TheVariants as operand
use Rattle.vschema.specs.Variants.{bare_name}
use Rattle.relational_algebra.specs.Columns.{empty_name}
use Rattle.query_meaning.specs.declared.ill.IllCase.{IllCase}
use Rattle.query_meaning.specs.declared.ill.IllCase.TheVariants as ill
use Rattle.query_meaning.specs.declared.ill.IllTyped.{IllTyped}

pub record Case : Type 0 where
  pub why : IllCase
  pub name : ColName

abbrev pub case : IllCase → ColName → Case
case why name = record { why = why; name = name }

-- the table of this name isn't in the catalogue
abbrev pub no_table : List ℕ → Case
no_table name = case ill.NoTable (bare_name name)

-- the parameter with this number has no kind
abbrev pub no_kind : ℕ → Case
no_kind number = case (ill.ParamKind number) empty_name

-- the name that a comparison shows whose operands have two kinds: that of its first operand
abbrev pub operand_name : Operand → ColName
operand_name (operand.Column name) = name
operand_name _ = empty_name

abbrev pub IsOneOf : List Case → Case → Type 0
IsOneOf [] one = ⊥
IsOneOf (first ∷ cases) one = (first ≡ one) ⊎ IsOneOf cases one

-- the case that a refusal shows
abbrev pub case_of : IllTyped → Case
case_of refusal = case refusal.case refusal.name
