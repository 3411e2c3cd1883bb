-- The names of a write over the columns of its table.
use Rattle.std.specs.Prelude.{ℕ, Option, Some, None, List, [], ◌∷◌, ◌++◌, map}
use Rattle.std.specs.List.{flat_map}
use Rattle.plain_relation.specs.Relations.{Column}
use Rattle.query_meaning.specs.Cases.{Case}
use Rattle.query_meaning.specs.Names.{unknown_name}
use Rattle.query_meaning.specs.Parameters.{Occurrence, Partner, occurrence, partner_named}
use Rattle.vra_syntax.specs.declared.cond.Operand.{Operand}
use Rattle.vschema.specs.Variants.{bare_name}

-- those of the names that the columns lack
abbrev pub unknown_bare : List Column → List (List ℕ) → List Case
unknown_bare columns names = flat_map (λ name. unknown_name columns (bare_name name)) names

-- what each name is to its value
abbrev pub columns_named : List Column → List (List ℕ) → List Partner
columns_named columns names = map (λ name. partner_named columns (bare_name name)) names

-- a value opposite something, if there is anything
abbrev pub met : Option Partner → Operand → List Occurrence
met None value = []
met (Some partner) value = occurrence partner value

-- the parameters of a row of values, each opposite its column
abbrev pub row_occurrences : List Partner → List Operand → List Occurrence
row_occurrences [] values = []
row_occurrences (partner ∷ partners) [] = []
row_occurrences (partner ∷ partners) (value ∷ values) = occurrence partner value ++ row_occurrences partners values
