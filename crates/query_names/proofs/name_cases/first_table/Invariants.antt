use Rattle.std.proofs.Common.{◌≡◌, drop}
use Rattle.std.specs.List.{find}
use Rattle.query_names.specs.Findings.{cases}
use Rattle.query_names.specs.NameCases.{names_table}
use Rattle.query_names.proofs.name_cases.first_table.Given as goal

-- the first one of all is that of those that are left
abbrev pub invariant-loop-name : goal.invariant-loop-name
invariant-loop-name l = find names_table (cases (drop l.name-index l.unknown)) ≡ find names_table (cases l.unknown)
