-- The line of a catalogue that passes its check, and that of one that doesn't.
use Rattle.std.specs.Prelude.{ℕ, List, [], ◌∷◌, ◌++◌, codes, decimal, length}
use Rattle.feature_expr.specs.Variants.{variant_text}
use Rattle.vra_types.specs.declared.refused.CheckRefused.{CheckRefused}
use Rattle.vra_types.specs.declared.refused.CheckRefused.TheVariants as refused
use Rattle.vschema.specs.declared.catalog.Catalog.{Catalog}
use Rattle.vschema.specs.declared.catalog.OpeningRow.{OpeningRow}

-- `ok: F features, T tables, R rows` and a line feed, which is 10
abbrev pub passed_line : Catalog → List OpeningRow → List ℕ
passed_line catalog rows =
    codes "ok: " ++ decimal (length catalog.features) ++ codes " features, " ++ decimal (length catalog.tables) ++ codes " tables, " ++ decimal (length rows) ++ codes " rows" ++ 10 ∷ []

-- the line for a catalogue that doesn't pass its check
abbrev pub check_line_of : List (List ℕ) → CheckRefused → List ℕ
check_line_of names refused.NoVariant = codes "catalogue: no variant"
check_line_of names (refused.NoColumn table c) = codes "catalogue: table " ++ table ++ codes " has no column in variant " ++ variant_text names c
check_line_of names (refused.MissingValue line column c) =
    codes "catalogue: line " ++ decimal line ++ codes ": column " ++ column ++ codes " has no value in variant " ++ variant_text names c
check_line_of names refused.Memory = codes "out of memory"
