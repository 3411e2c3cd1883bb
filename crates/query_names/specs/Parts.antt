-- What was found of a part of a query, as what its names say.
use Rattle.std.specs.Prelude.{ℕ, ◌≡◌, Option, Some, None}
use Rattle.query_meaning.specs.Names.{Named}
use Rattle.query_names.specs.Findings.{cases, places}
use Rattle.query_names.specs.Headings.{headings}
use Rattle.query_names.specs.declared.part.QueryNames.{QueryNames}
use Rattle.query_names.specs.declared.refused.NamesRefused.{NamesRefused}
use Rattle.query_names.specs.declared.refused.NamesRefused.TheVariants as refused

abbrev pub said : QueryNames → Named
said names = record { possible = headings names.possible.items; unknown = cases names.findings.unknown.items; parameters = places names.findings.parameters.items; too_wide = None }

-- a refusal shows the width that is too great; want of memory says nothing
abbrev pub IsTooWide : Option ℕ → NamesRefused → Type 0
IsTooWide width (refused.TooWide count) = width ≡ Some count
IsTooWide width refused.Memory = Unit {0}
