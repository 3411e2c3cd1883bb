-- Where the parameters of a statement stand, and the kinds that they have there.
use Rattle.std.specs.Prelude.{ℕ, ◌-◌, ◌==◌, List, [], ◌∷◌, ◌++◌, Option, None, slice_get, if◌then◌else◌}
use Rattle.std.specs.Option.{is_none}
use Rattle.std.specs.List.{flat_map}
use Rattle.values.specs.Value.{kind_of}
use Rattle.values.specs.declared.column_name.ColName.{ColName}
use Rattle.values.specs.declared.value.Kind.{Kind}
use Rattle.plain_relation.specs.Relations.{Column}
use Rattle.vra_syntax.specs.declared.cond.Cond.{Cond, fold-Cond}
use Rattle.vra_syntax.specs.declared.cond.Cond.TheOpen.{Cond-F}
use Rattle.vra_syntax.specs.declared.cond.Operand.{Operand}
use Rattle.vra_syntax.specs.declared.cond.Operand.TheVariants as operand
use Rattle.query_meaning.specs.Cases.{Case, no_kind}
use Rattle.relational_algebra.specs.Columns.{named, kinds_of}

-- what stands opposite a parameter: something of one kind, a name that isn't known, or something that settles no kind
pub data Partner : Type 0 where
  OfKind : (kind : Kind) → Partner
  Unknown : Partner
  Open : Partner

pub record Occurrence : Type 0 where
  pub number : ℕ
  pub partner : Partner

-- a name settles a kind where the columns give it exactly one
abbrev pub partner_by : List Kind → Partner
partner_by [] = Unknown
partner_by (kind ∷ []) = OfKind kind
partner_by _ = Open

abbrev pub partner_named : List Column → ColName → Partner
partner_named columns name = partner_by (kinds_of (named name columns))

abbrev pub partner_of : List Column → Operand → Partner
partner_of columns (operand.Column name) = partner_named columns name
partner_of columns (operand.Literal value) = OfKind (kind_of value)
partner_of columns (operand.Param number) = Open

-- an operand opposite something, if it is a parameter
abbrev pub occurrence : Partner → Operand → List Occurrence
occurrence partner (operand.Param number) = record { number = number; partner = partner } ∷ []
occurrence partner _ = []

-- one layer of a condition over these possible columns, with what its parts hold
abbrev pub occurrences_step : List Column → Cond-F (List Occurrence) → List Occurrence
occurrences_step columns (Cond-F.Cmp left sign right) = occurrence (partner_of columns right) left ++ occurrence (partner_of columns left) right
occurrences_step columns (Cond-F.Not inner) = inner
occurrences_step columns (Cond-F.And left right) = left ++ right
occurrences_step columns (Cond-F.Or left right) = left ++ right
occurrences_step columns (Cond-F.Choice expr left right) = left ++ right
occurrences_step columns Cond-F.True = []
occurrences_step columns Cond-F.False = []

-- the parameters of a condition, in the order of the text
abbrev pub occurrences : List Column → Cond → List Occurrence
occurrences columns cond = fold-Cond (List Occurrence) (occurrences_step columns) cond

-- parameters are numbered from 1
abbrev pub kind_at : List Kind → ℕ → Option Kind
kind_at kinds number = if number == 0 then None else slice_get kinds (number - 1)

-- the parameters that have no kind among these
abbrev pub without_kind : List Kind → List Occurrence → List Case
without_kind kinds found = flat_map (λ (one : Occurrence). if is_none (kind_at kinds one.number) then no_kind one.number ∷ [] else []) found
